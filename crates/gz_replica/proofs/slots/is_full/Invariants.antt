use Rattle.std.proofs.Common.{◌≡◌, drop}
use Rattle.gz_replica.specs.Slots.{full}
use Rattle.gz_replica.proofs.slots.is_full.Given as goal

abbrev pub invariant-loop-slot : goal.invariant-loop-slot
invariant-loop-slot g l = full (drop l.slot-index l.slots) ≡ full l.slots
