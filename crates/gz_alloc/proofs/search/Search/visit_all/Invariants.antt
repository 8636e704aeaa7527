use Rattle.std.proofs.Common.{ℕ, ◌<◌}
use Rattle.gz_alloc.specs.Flow.{cells_of}
use Rattle.gz_alloc.specs.Search.{Advances, IsPassed}
use Rattle.gz_alloc.proofs.search.Search.visit_all.Given as goal

-- the items so far have passed the member
abbrev pub invariant-loop-b : goal.invariant-loop-b
invariant-loop-b l = record {
  advances : Advances l.network (cells_of l.flags) l.fn.self l.self;
  passed : (b : ℕ) → b < l.b → IsPassed l.network (cells_of l.flags) l.self l.t b;
}
