use Rattle.std.proofs.Common.{◌≡◌, true, map}
use Rattle.gz_alloc.specs.Sums.{all_to}
use Rattle.gz_alloc.specs.Names.{rises_at}
use Rattle.gz_alloc.proofs.problem.members_rise.Given as goal

-- the names so far rise
abbrev pub invariant-loop-m : goal.invariant-loop-m
invariant-loop-m l = all_to l.m (rises_at (map (λ m. m.name) l.members)) ≡ true
