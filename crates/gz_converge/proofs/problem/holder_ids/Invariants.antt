use Rattle.std.proofs.Common.{◌≡◌, ◌++◌, drop}
use Rattle.gz_converge.specs.Converged.{holders, ids}
use Rattle.gz_converge.proofs.problem.holder_ids.Given as goal

abbrev pub invariant-loop-member : goal.invariant-loop-member
invariant-loop-member l = l.names.items ++ ids (holders l.consumers (drop l.member-index l.members)) ≡ ids (holders l.consumers l.members)
