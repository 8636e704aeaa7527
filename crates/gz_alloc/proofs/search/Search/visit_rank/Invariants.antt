use Rattle.std.proofs.Common.{ℕ, ◌<◌, ◌≤◌}
use Rattle.gz_alloc.specs.Flow.{cells_of}
use Rattle.gz_alloc.specs.Search.{Advances, IsPassedAt, rank}
use Rattle.gz_alloc.proofs.search.Search.visit_rank.Given as goal

-- each item has passed the members of the rank so far
abbrev pub invariant-loop-t : goal.invariant-loop-t
invariant-loop-t l = record {
  advances : Advances l.network (cells_of l.flags) l.fn.self l.self;
  later : (m : ℕ) → 64 ≤ rank l.fn.self m → rank l.self m < 64 → l.head < rank l.self m;
  passed : IsPassedAt l.network (cells_of l.flags) l.self l.head l.t;
}
