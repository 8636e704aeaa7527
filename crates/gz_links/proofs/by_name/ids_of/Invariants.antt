use Rattle.std.proofs.Common.{◌≡◌, ◌++◌, drop, map, true}
use Rattle.gz_spec.specs.Specs.{id_of_shard}
use Rattle.gz_spec.specs.Valid.{are_fresh}
use Rattle.gz_links.proofs.by_name.ids_of.Given as goal

abbrev pub invariant-loop-shard : goal.invariant-loop-shard
invariant-loop-shard l =
    (are_fresh id_of_shard l.ids.keys (drop l.shard-index l.shards) ≡ true)
    × (l.ids.keys ++ map id_of_shard (drop l.shard-index l.shards) ≡ map id_of_shard l.shards)
