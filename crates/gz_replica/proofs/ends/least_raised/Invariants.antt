use Rattle.std.proofs.Common.{◌≡◌, ◌≤◌, drop}
use Rattle.gz_replica.specs.Slots.{held_raised, least}
use Rattle.gz_replica.proofs.ends.least_raised.Given as goal

abbrev pub invariant-loop-held : goal.invariant-loop-held
invariant-loop-held l = record {
  value : least l.least (held_raised l.member l.reached (drop l.held-index l.ends)) ≡ least l.end (held_raised l.member l.reached l.ends);
  within : l.least ≤ l.end;
}
