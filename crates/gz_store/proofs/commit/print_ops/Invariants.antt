use Rattle.std.proofs.Common.{◌≡◌, drop, Ok}
use Rattle.gz_store.specs.Commits.{joined, framed_all}
use Rattle.gz_store.proofs.commit.print_ops.Given as goal

abbrev pub invariant-loop-op : goal.invariant-loop-op
invariant-loop-op l = joined (Ok l.bytes) (framed_all (drop l.op-index l.ops)) ≡ framed_all l.ops
