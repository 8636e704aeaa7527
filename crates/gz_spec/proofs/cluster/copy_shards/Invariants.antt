use Rattle.std.proofs.Common.{◌≡◌, take}
use Rattle.gz_spec.proofs.cluster.copy_shards.Given as goal

abbrev pub invariant-loop-shard : goal.invariant-loop-shard
invariant-loop-shard l = l.copied.items ≡ take l.shard-index l.shards
