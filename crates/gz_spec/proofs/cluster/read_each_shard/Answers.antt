use Rattle.std.proofs.Common.{◌∙◌}
use Rattle.gz_spec.specs.Shards.{next_shard}
use Rattle.gz_spec.specs.Specs.{id_of_shard}
use Rattle.gz_fields.proofs.Eachs.{each_turn}
use Rattle.gz_spec.proofs.cluster.read_each_shard.Goals as goal

pub loop-i-preserved : goal.loop-i-preserved
loop-i-preserved c =
    each_turn next_shard id_of_shard _ _ _ c.index-values-i.result _ _ _ _ _ _ c.loop-i-test.true c.index-values-i.is c.in_ok-place.ensures
    c.in_ok-shard.ensures.gives c.in_ok-shard.ensures.noted c.in_ok-push.ensures.items
    ∙ c.loop-i.invariant
