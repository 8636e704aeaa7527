use Rattle.std.proofs.Common.{◌≡◌, ◌++◌, filter, nat_le}
use Rattle.std.specs.VecDeque.{deque_len}
use Rattle.gz_sequencer.proofs.part.release.Given as goal

abbrev pub invariant-loop-message : goal.invariant-loop-message
invariant-loop-message l = l.out.items ++ filter (λ m. nat_le m.clock l.clock) l.pending.items ≡ l.fn.out.items ++ filter (λ m. nat_le m.clock l.clock) l.fn.pending.items

abbrev pub decreases-loop-message : goal.decreases-loop-message
decreases-loop-message l = deque_len l.pending
