use Rattle.std.proofs.Common.{◌≡◌, ◌++◌, true, length}
use Rattle.gz_broker.specs.Brokers.{reached, waiting}
use Rattle.gz_brokering.specs.Queues.{is_ascending_from}
use Rattle.gz_brokering.proofs.queue.send_first.Given as goal

abbrev pub invariant-answers : goal.invariant-answers
invariant-answers l = record {
  sends : l.sends ++ reached l.journal l.head l.items.items ≡ l.fn.sends ++ reached l.journal l.head l.fn.items.items;
  waiting : waiting l.head l.items.items ≡ waiting l.head l.fn.items.items;
  ascending : is_ascending_from 0 l.fn.items.items ≡ true → is_ascending_from 0 l.items.items ≡ true;
}

abbrev pub decreases-answers : goal.decreases-answers
decreases-answers l = length l.items.items
