use Rattle.std.proofs.Common.{◌≡◌, ◌++◌, length}
use Rattle.gz_broker.specs.Brokers.{reached, waiting}
use Rattle.gz_brokering.proofs.queue.sift.Given as goal

abbrev pub invariant-answers : goal.invariant-answers
invariant-answers l = record {
  sends : l.sends ++ reached l.journal l.head l.items.items ≡ l.fn.sends ++ reached l.journal l.head l.fn.items.items;
  left : l.left.items ++ waiting l.head l.items.items ≡ waiting l.head l.fn.items.items;
}

abbrev pub decreases-answers : goal.decreases-answers
decreases-answers l = length l.items.items
