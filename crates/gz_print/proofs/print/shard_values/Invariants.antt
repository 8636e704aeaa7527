use Rattle.std.proofs.Common.{◌≡◌, ◌++◌, drop, map}
use Rattle.serde_json.specs.View.{view}
use Rattle.gz_print.specs.Printed.{shard_data}
use Rattle.gz_print.proofs.print.shard_values.Given as goal

abbrev pub invariant-loop-shard : goal.invariant-loop-shard
invariant-loop-shard l = map view l.values.items ++ map shard_data (drop l.shard-index l.shards) ≡ map shard_data l.shards
