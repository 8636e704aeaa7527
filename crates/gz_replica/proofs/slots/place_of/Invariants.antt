use Rattle.std.proofs.Common.{◌≡◌, ◌+◌, drop}
use Rattle.gz_replica.specs.Slots.{place_of}
use Rattle.gz_replica.proofs.slots.place_of.Given as goal

abbrev pub invariant-loop-i : goal.invariant-loop-i
invariant-loop-i g l = l.i + place_of l.member (drop l.i l.slots) ≡ place_of l.member l.slots
