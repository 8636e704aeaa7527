use Rattle.std.proofs.Common.{◌≡◌, ◌++◌, drop}
use Rattle.gz_converge.specs.Converged.{ids}
use Rattle.gz_converge.proofs.problem.member_ids.Given as goal

abbrev pub invariant-loop-member : goal.invariant-loop-member
invariant-loop-member l = l.names.items ++ ids (drop l.member-index l.members) ≡ ids l.members
