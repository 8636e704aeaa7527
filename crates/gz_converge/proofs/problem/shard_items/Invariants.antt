use Rattle.std.proofs.Common.{◌≡◌, ◌++◌, drop, map, filter}
use Rattle.gz_converge.specs.Converged.{shard_item, is_enabled}
use Rattle.gz_converge.proofs.problem.shard_items.Given as goal

abbrev pub invariant-loop-shard : goal.invariant-loop-shard
invariant-loop-shard l = l.items.items ++ map shard_item (filter is_enabled (drop l.shard-index l.shards)) ≡ map shard_item (filter is_enabled l.shards)
