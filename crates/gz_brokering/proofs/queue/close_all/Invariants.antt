use Rattle.std.proofs.Common.{◌≡◌, ◌++◌, length}
use Rattle.gz_broker.specs.Closing.{closings_of}
use Rattle.gz_brokering.proofs.queue.close_all.Given as goal

abbrev pub invariant-answers : goal.invariant-answers
invariant-answers l = l.sends ++ closings_of l.journal l.promised l.items.items ≡ closings_of l.journal l.promised l.fn.items.items

abbrev pub decreases-answers : goal.decreases-answers
decreases-answers l = length l.items.items
