use Rattle.std.proofs.Common.{◌∙◌, ap}
use Rattle.gz_spec.specs.Specs.{id_of_shard}
use Rattle.gz_links.proofs.ByName.{names_turn}
use Rattle.gz_links.proofs.by_name.ids_of.Goals as goal

pub loop-shard-preserved : goal.loop-shard-preserved
loop-shard-preserved c =
    names_turn id_of_shard _ _ c.args.shards.now c.loop-shard.shard-index c.shard-item.result c.in_ok-id.id c.loop-shard-test.true
    c.shard-item.is c.loop-shard.invariant (c.in_ok-id.ensures ∙ ap id_of_shard c.shard.view_is) c.in_ok-insert.ensures.keys
