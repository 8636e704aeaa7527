use Rattle.std.proofs.Common.{◌≡◌, drop}
use Rattle.gz_world.specs.Starts.{put_shards, in_id_order}
use Rattle.gz_world.proofs.start.in_id_order.Given as goal

abbrev pub invariant-loop-shard : goal.invariant-loop-shard
invariant-loop-shard l = put_shards (drop l.shard-index l.shards) l.entries.entries ≡ in_id_order l.shards
