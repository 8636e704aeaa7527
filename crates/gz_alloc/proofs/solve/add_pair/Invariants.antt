use Rattle.std.proofs.Common.{◌≡◌, ◌+◌}
use Rattle.gz_alloc.specs.Flow.{cells_of, total}
use Rattle.gz_alloc.specs.Search.{IsWalk, rank}
use Rattle.gz_alloc.proofs.solve.add_pair.Given as goal

-- at most the member has too many
abbrev pub invariant-way : goal.invariant-way
invariant-way l = record {
  walk : IsWalk l.network (cells_of l.flags) l.search l.at;
  more : total l.network (cells_of l.flags) ≡ total l.network (cells_of l.fn.flags) + 1;
}

abbrev pub decreases-way : goal.decreases-way
decreases-way l = rank l.search l.at
