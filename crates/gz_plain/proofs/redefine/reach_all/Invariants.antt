use Rattle.gz_plain.proofs.Reached.{IsReaching}
use Rattle.gz_plain.proofs.redefine.reach_all.Given as goal

abbrev pub invariant-loop-source : goal.invariant-loop-source
invariant-loop-source l =
    IsReaching l.journals l.has_commits l.marks l.fn.sources.items l.source-iterator.rest.items l.all.readers.items l.all.offsets.items l.all.messages
