use Rattle.std.proofs.Common.{◌≡◌, ◌≤◌, ◌-◌, take, drop}
use Rattle.gz_sequencer.specs.Machine.{at, fed}
use Rattle.gz_promise.specs.Journals.{text_in}
use Rattle.gz_plain.proofs.feed.feed_journal.Given as goal

abbrev pub invariant-pieces : goal.invariant-pieces
invariant-pieces l = record {
  stands : l.at ≡ at l.sequencer;
  within : l.at ≤ l.to;
  same : fed l.sequencer (take (l.to - at l.sequencer) (drop (at l.sequencer) (text_in l.journal)))
      ≡ fed l.fn.sequencer (take (l.to - at l.fn.sequencer) (drop (at l.fn.sequencer) (text_in l.journal)));
}

abbrev pub decreases-pieces : goal.decreases-pieces
decreases-pieces l = l.to - l.at
