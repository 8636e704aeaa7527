use Rattle.std.proofs.Common.{ℕ, ◌<◌}
use Rattle.gz_alloc.specs.Flow.{cells_of, members}
use Rattle.gz_alloc.specs.Search.{IsStart, IsPassedAt}
use Rattle.gz_alloc.proofs.search.Search.run.Given as goal

-- each item has passed the members of the ranks so far
abbrev pub invariant-loop-head : goal.invariant-loop-head
invariant-loop-head l = record {
  start : IsStart l.network (cells_of l.flags) l.self;
  passed : (r : ℕ) → r < l.head → IsPassedAt l.network (cells_of l.flags) l.self r (members l.network);
}
