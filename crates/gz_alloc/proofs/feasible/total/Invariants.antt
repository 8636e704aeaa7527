use Rattle.std.proofs.Common.{◌≡◌, ◌≤◌, ◌*◌}
use Rattle.gz_alloc.specs.Sums.{sum_to}
use Rattle.gz_alloc.specs.Flow.{cells_of, row}
use Rattle.gz_alloc.proofs.feasible.total.Given as goal

abbrev pub invariant-loop-i : goal.invariant-loop-i
invariant-loop-i l = record {
  sum : l.sum ≡ sum_to l.i (λ i. row l.network (cells_of l.flags) i);
  small : l.sum ≤ 64 * l.i;
}
