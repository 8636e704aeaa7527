use Rattle.std.proofs.Common.{◌≡◌, ◌++◌, drop}
use Rattle.gz_replica.specs.Slots.{missing}
use Rattle.gz_replica.proofs.slots.missing.Given as goal

abbrev pub invariant-loop-slot : goal.invariant-loop-slot
invariant-loop-slot g l = l.names.items ++ missing (drop l.slot-index l.slots) ≡ missing l.slots
