use Rattle.std.proofs.Common.{◌≡◌, ◌≤◌, length, drop}
use Rattle.gz_replica.specs.Slots.{value_at}
use Rattle.gz_replica.specs.Opening.{best}
use Rattle.gz_replica.proofs.reports.best_of.Given as goal

abbrev pub invariant-places : goal.invariant-places
invariant-places l = record {
  within : l.place ≤ length l.slots;
  best : value_at l.slots l.best ≡ best l.opened (drop l.place l.slots);
}

abbrev pub decreases-places : goal.decreases-places
decreases-places l = l.place
