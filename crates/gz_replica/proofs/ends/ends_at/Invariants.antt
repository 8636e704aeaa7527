use Rattle.std.proofs.Common.{◌≡◌, ◌++◌, drop}
use Rattle.gz_replica.specs.Slots.{all_at}
use Rattle.gz_replica.proofs.ends.ends_at.Given as goal

abbrev pub invariant-loop-name : goal.invariant-loop-name
invariant-loop-name l = l.ends.items ++ all_at l.end (drop l.name-index l.names) ≡ all_at l.end l.names
