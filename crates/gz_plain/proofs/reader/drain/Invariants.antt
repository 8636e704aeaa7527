use Rattle.std.proofs.Common.{◌≡◌, ◌++◌, length, []}
use Rattle.gz_plain.proofs.reader.drain.Given as goal

abbrev pub invariant-released : goal.invariant-released
invariant-released l = (l.messages ++ l.sequencer.released ≡ l.fn.messages ++ l.fn.sequencer.released) × (record l.sequencer { released = [] } ≡ record l.fn.sequencer { released = [] })

abbrev pub decreases-released : goal.decreases-released
decreases-released l = length l.sequencer.released
