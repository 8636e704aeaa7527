use Rattle.std.proofs.Common.{◌≡◌, ◌++◌, drop, map}
use Rattle.gz_converge.specs.Converged.{holder, holders}
use Rattle.gz_converge.proofs.problem.holders.Given as goal

abbrev pub invariant-loop-member : goal.invariant-loop-member
invariant-loop-member l = l.found.items ++ map holder (holders l.consumers (drop l.member-index l.members)) ≡ map holder (holders l.consumers l.members)
