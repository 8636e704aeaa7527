use Rattle.std.proofs.Common.{◌≡◌, true, map}
use Rattle.gz_alloc.specs.Sums.{all_to}
use Rattle.gz_alloc.specs.Names.{rises_at}
use Rattle.gz_alloc.proofs.problem.items_rise.Given as goal

-- the names so far rise
abbrev pub invariant-loop-i : goal.invariant-loop-i
invariant-loop-i l = all_to l.i (rises_at (map (λ i. i.name) l.items)) ≡ true
