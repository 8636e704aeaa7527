use Rattle.std.proofs.Common.{◌≡◌, ℕ, ◌<◌, ◌⊎◌, true}
use Rattle.gz_alloc.specs.Flow.{cells_of, zone}
use Rattle.gz_alloc.specs.Search.{Opens, rank}
use Rattle.gz_alloc.proofs.search.Search.open_row.Given as goal

-- the members seen so far have a way
abbrev pub invariant-loop-m : goal.invariant-loop-m
invariant-loop-m l = record {
  opens : Opens l.network (cells_of l.flags) l.fn.self l.self;
  taken : (m : ℕ) → m < l.m → cells_of l.flags l.b m ≡ true → (l.whole ≡ true) ⊎ (zone l.network l.t ≡ zone l.network m) → rank l.self m < 64;
}
