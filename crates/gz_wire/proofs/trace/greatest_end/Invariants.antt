use Rattle.std.proofs.Common.{◌≡◌, drop, max}
use Rattle.gz_wire.specs.Trace.{greatest_end}
use Rattle.gz_wire.proofs.trace.greatest_end.Given as goal

abbrev pub invariant-loop-name : goal.invariant-loop-name
invariant-loop-name l = max l.greatest (greatest_end (drop l.name-index l.names)) ≡ greatest_end l.names
