use Rattle.std.proofs.Common.{◌≡◌, ◌++◌, drop, map}
use Rattle.gz_converge.specs.Cases.{within}
use Rattle.gz_converge.proofs.problem.push_pairs.Given as goal

abbrev pub invariant-loop-member : goal.invariant-loop-member
invariant-loop-member l = l.pairs.items ++ map (λ m. (l.name, m)) (within (drop l.member-index l.members) l.listed) ≡ l.fn.pairs.items ++ map (λ m. (l.name, m)) (within l.members l.listed)
