use Rattle.gz_plain.proofs.Changing.{IsChanging}
use Rattle.gz_plain.proofs.change.redefine_all.Given as goal

abbrev pub invariant-loop-definition : goal.invariant-loop-definition
invariant-loop-definition l =
    IsChanging l.journals l.fn.definitions.items l.fn.shards.items l.after.items l.earlier.items l.number l.definition-iterator.rest.items
