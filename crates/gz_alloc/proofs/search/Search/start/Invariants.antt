use Rattle.std.proofs.Common.{ℕ, ◌<◌, ◌≤◌}
use Rattle.gz_alloc.specs.Flow.{cells_of, items, load, limit}
use Rattle.gz_alloc.specs.Search.{IsSearch, rank, target}
use Rattle.gz_alloc.proofs.search.Search.start.Given as goal

-- the members with room so far have a way
abbrev pub invariant-loop-m : goal.invariant-loop-m
invariant-loop-m l = record {
  search : IsSearch l.network (cells_of l.flags) l.search;
  untargeted : (b : ℕ) → b < items l.network → 64 ≤ target l.search b;
  roomy : (m : ℕ) → m < l.m → load l.network (cells_of l.flags) m < limit l.network m → rank l.search m < 64;
}
