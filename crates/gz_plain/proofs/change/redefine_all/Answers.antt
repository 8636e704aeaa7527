use Rattle.gz_plain.proofs.Changing.{change_turn}
use Rattle.gz_plain.proofs.change.redefine_all.Goals as goal

pub loop-definition-preserved : goal.loop-definition-preserved
loop-definition-preserved c =
    change_turn c.args.journals.now c.args.definitions.items c.args.shards.items c.loop-definition.after.items c.push.new.self.items
    c.loop-definition.earlier.items c.next_shard.new.shards.items c.loop-definition.number c.next_shard.new.number
    c.loop-definition.definition-iterator.rest.items c.next.new.self.rest.items c.in-Some.definition c.in_ok-shard.shard
    c.in-Some.ensures.steps.0 c.in_ok-push.ensures.items c.in_ok-shard.ensures.shard c.in_ok-shard.ensures.kept c.in_ok-shard.ensures.others c.in_ok-shard.ensures.number
    c.loop-definition.invariant
