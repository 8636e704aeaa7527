use Rattle.std.proofs.Common.{◌≡◌, ◌≤◌, drop}
use Rattle.gz_replica.specs.Slots.{least}
use Rattle.gz_replica.proofs.ends.least_of.Given as goal

abbrev pub invariant-loop-held : goal.invariant-loop-held
invariant-loop-held l = record {
  value : least l.least (drop l.held-index l.ends) ≡ least l.end l.ends;
  within : l.least ≤ l.end;
}
