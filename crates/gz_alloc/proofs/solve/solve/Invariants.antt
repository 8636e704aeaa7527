use Rattle.std.proofs.Common.{◌-◌, ◌*◌}
use Rattle.gz_alloc.specs.Flow.{cells_of, total, Keeps, items}
use Rattle.gz_alloc.proofs.solve.solve.Given as goal

abbrev pub invariant-pairs : goal.invariant-pairs
invariant-pairs l = Keeps l.network (cells_of l.flags)

abbrev pub decreases-pairs : goal.decreases-pairs
decreases-pairs l = 64 * items l.network - total l.network (cells_of l.flags)
