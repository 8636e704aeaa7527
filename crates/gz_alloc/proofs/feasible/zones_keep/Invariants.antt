use Rattle.std.proofs.Common.{◌≡◌, ℕ, ◌<◌, ◌≤◌, true}
use Rattle.gz_alloc.specs.Flow.{cells_of, in_zone, zone, zone_bound, replicas}
use Rattle.gz_alloc.proofs.feasible.zones_keep.Given as goal

abbrev pub invariant-loop-m : goal.invariant-loop-m
invariant-loop-m l = (m : ℕ) → m < l.m → cells_of l.flags l.i m ≡ true → in_zone l.network (cells_of l.flags) l.i (zone l.network m) ≤ zone_bound (replicas l.network l.i)
