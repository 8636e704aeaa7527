use Rattle.std.proofs.Common.{◌≡◌, drop, []}
use Rattle.serde_json.specs.View.{items_view}
use Rattle.gz_fields.specs.Behind.{behind}
use Rattle.gz_fields.specs.Lists.{each}
use Rattle.gz_spec.specs.Shards.{next_shard}
use Rattle.gz_spec.specs.Specs.{id_of_shard}
use Rattle.gz_spec.proofs.cluster.read_each_shard.Given as goal

abbrev pub invariant-loop-i : goal.invariant-loop-i
invariant-loop-i l =
    behind l.shards.items (each next_shard id_of_shard l.path l.i l.used.keys (items_view (drop l.i l.values))) ≡ each next_shard id_of_shard l.path 0 [] (items_view l.values)
