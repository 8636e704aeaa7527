use Rattle.gz_plain.proofs.Settling.{IsSettling}
use Rattle.gz_plain.proofs.settle.settle_all.Given as goal

abbrev pub invariant-loop-i : goal.invariant-loop-i
invariant-loop-i l = IsSettling l.fn.journals l.fn.shards.items l.journals l.shards.items l._i
