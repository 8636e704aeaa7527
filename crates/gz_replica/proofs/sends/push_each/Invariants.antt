use Rattle.std.proofs.Common.{◌≡◌, ◌++◌, take}
use Rattle.gz_replica.specs.Member.{to_each}
use Rattle.gz_replica.proofs.sends.push_each.Given as goal

abbrev pub invariant-loop-node : goal.invariant-loop-node
invariant-loop-node l = l.sends ≡ l.fn.sends ++ to_each l.msg (take l.node-index l.nodes)
