use Rattle.std.proofs.Common.{◌≡◌, take}
use Rattle.gz_wire.specs.declared.msg.Msg.TheVariants.{Adopt}
use Rattle.gz_replica.specs.Member.{to_each}
use Rattle.gz_replica.proofs.sends.adopt_each.Given as goal

abbrev pub invariant-loop-node : goal.invariant-loop-node
invariant-loop-node l = l.sends ≡ to_each (Adopt l.journal l.epoch l.spool.image) (take l.node-index l.nodes)
