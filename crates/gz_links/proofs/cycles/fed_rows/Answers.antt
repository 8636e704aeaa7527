use Rattle.std.proofs.Common.{◌∙◌, List, Bool, map}
use Rattle.gz_links.specs.Cycles.{feeds}
use Rattle.gz_spec.specs.Records.{ShardSpec}
use Rattle.gz_fields.proofs.Eachs.{map_turn}
use Rattle.gz_links.proofs.cycles.fed_rows.Goals as goal

pub loop-shard-preserved : goal.loop-shard-preserved
loop-shard-preserved c =
    let f : ShardSpec → List Bool = λ s. map (λ t. feeds s t) c.args.shards.now in
    map_turn f _ _ c.shard-item.result _ _ _ c.loop-shard-test.true c.shard-item.is c.in_ok-fed.ensures c.in_ok-push.ensures.items ∙ c.loop-shard.invariant
