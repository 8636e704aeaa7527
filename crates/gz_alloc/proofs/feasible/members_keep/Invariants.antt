use Rattle.std.proofs.Common.{ℕ, ◌<◌, ◌≤◌}
use Rattle.gz_alloc.specs.Flow.{cells_of, load, limit}
use Rattle.gz_alloc.proofs.feasible.members_keep.Given as goal

abbrev pub invariant-loop-m : goal.invariant-loop-m
invariant-loop-m l = (m : ℕ) → m < l.m → load l.network (cells_of l.flags) m ≤ limit l.network m
