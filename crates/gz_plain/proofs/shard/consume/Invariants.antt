use Rattle.std.proofs.Common.{◌≡◌, ◌++◌, drop}
use Rattle.gz_promise.specs.Applications.{folded, emitted}
use Rattle.gz_plain.proofs.shard.consume.Given as goal

abbrev pub invariant-loop-message : goal.invariant-loop-message
invariant-loop-message l =
    (folded l.app l.store (drop l.message-index l.messages) ≡ folded l.app l.fn.store l.messages)
    × (l.outputs ++ emitted l.app l.store (drop l.message-index l.messages) ≡ emitted l.app l.fn.store l.messages)
