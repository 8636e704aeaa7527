use Rattle.std.proofs.Common.{◌≡◌, take}
use Rattle.gz_wire.specs.declared.msg.Msg.TheVariants.{Replicate}
use Rattle.gz_replica.specs.Member.{to_each}
use Rattle.gz_replica.proofs.sends.replicate_each.Given as goal

abbrev pub invariant-loop-node : goal.invariant-loop-node
invariant-loop-node l = l.sends ≡ to_each (Replicate l.journal l.epoch l.offset l.entry l.head) (take l.node-index l.nodes)
