use Rattle.std.proofs.Common.{◌≡◌, true, map, nat_le}
use Rattle.std.specs.Prelude.{slice_index}
use Rattle.gz_alloc.specs.Sums.{all_to}
use Rattle.gz_alloc.proofs.problem.limits_fit.Given as goal

-- those of the members so far do
abbrev pub invariant-loop-m : goal.invariant-loop-m
invariant-loop-m l = all_to l.m (λ m. nat_le (slice_index (map (λ m. m.limit) l.members) m) 1024) ≡ true
