use Rattle.std.proofs.Common.{◌≡◌, [], drop, map}
use Rattle.gz_registry.specs.Keys.{put_named, shard_write}
use Rattle.gz_registry.proofs.writes.shard_table.Given as goal

abbrev pub invariant-loop-shard : goal.invariant-loop-shard
invariant-loop-shard l = put_named (map shard_write (drop l.shard-index l.shards)) l.table.entries ≡ put_named (map shard_write l.shards) []
