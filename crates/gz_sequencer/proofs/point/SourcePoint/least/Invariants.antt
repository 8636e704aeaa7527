use Rattle.std.proofs.Common.{◌≡◌}
use Rattle.gz_sequencer.specs.Machine.{least_from}
use Rattle.gz_sequencer.proofs.point.SourcePoint.least.Given as goal

abbrev pub invariant-loop-producer : goal.invariant-loop-producer
invariant-loop-producer l = least_from l.least l._producer-iterator ≡ least_from l.fn.self.offset l.fn.self.producers
