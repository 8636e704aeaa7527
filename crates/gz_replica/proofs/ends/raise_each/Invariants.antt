use Rattle.std.proofs.Common.{◌≡◌, ◌++◌, take, drop}
use Rattle.gz_replica.specs.Slots.{held_raised}
use Rattle.gz_replica.proofs.ends.raise_each.Given as goal

abbrev pub invariant-loop-i : goal.invariant-loop-i
invariant-loop-i l = l.ends ≡ held_raised l.member l.end (take l.i l.fn.ends) ++ drop l.i l.fn.ends
