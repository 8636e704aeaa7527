use Rattle.std.proofs.Common.{◌≡◌, ◌&&◌, true, map, nat_lt, nat_le}
use Rattle.std.specs.Prelude.{slice_index}
use Rattle.gz_alloc.specs.Sums.{all_to}
use Rattle.gz_alloc.proofs.problem.replicas_fit.Given as goal

-- those of the items so far do
abbrev pub invariant-loop-i : goal.invariant-loop-i
invariant-loop-i l = all_to l.i (λ i. nat_lt 0 (slice_index (map (λ i. i.replicas) l.items) i) && nat_le (slice_index (map (λ i. i.replicas) l.items) i) 5) ≡ true
