use Rattle.std.proofs.Common.{◌≡◌, ◌+◌, ◌≤◌, ◌^◌, length}
use Rattle.gz_sequencer.specs.Machine.{at, fed}
use Rattle.gz_sequencer.proofs.sequencer.Sequencer.feed.Given as goal

abbrev pub invariant-lines : goal.invariant-lines
invariant-lines l = record {
  same : fed l.self l.rest ≡ fed l.fn.self l.fn.bytes;
  small : at l.self + length l.rest ≤ 2 ^ 62;
}

abbrev pub decreases-lines : goal.decreases-lines
decreases-lines l = length l.rest
