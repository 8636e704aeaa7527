use Rattle.std.proofs.Common.{ℕ, ◌<◌, ◌≤◌}
use Rattle.gz_alloc.specs.Flow.{cells_of, row, in_zone, zone, zone_bound, replicas, members}
use Rattle.gz_alloc.proofs.feasible.items_keep.Given as goal

abbrev pub invariant-loop-i : goal.invariant-loop-i
invariant-loop-i l = record {
  rows : (i : ℕ) → i < l.i → row l.network (cells_of l.flags) i ≤ replicas l.network i;
  zones : (i m : ℕ) → i < l.i → m < members l.network → in_zone l.network (cells_of l.flags) i (zone l.network m) ≤ zone_bound (replicas l.network i);
}
