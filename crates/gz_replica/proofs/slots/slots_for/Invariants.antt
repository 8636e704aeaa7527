use Rattle.std.proofs.Common.{◌≡◌, ◌++◌, drop}
use Rattle.gz_replica.specs.Slots.{slots_for}
use Rattle.gz_replica.proofs.slots.slots_for.Given as goal

abbrev pub invariant-loop-name : goal.invariant-loop-name
invariant-loop-name g l = l.slots.items ++ slots_for (drop l.name-index l.names) ≡ slots_for l.names
