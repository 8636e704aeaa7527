use Rattle.std.proofs.Common.{◌≡◌, take}
use Rattle.gz_spec.proofs.cluster.copy_members.Given as goal

abbrev pub invariant-loop-member : goal.invariant-loop-member
invariant-loop-member l = l.copied.items ≡ take l.member-index l.members
