use Rattle.std.proofs.Common.{◌≡◌, ◌++◌, drop}
use Rattle.std.specs.Prelude.{filter_map}
use Rattle.gz_converge.specs.Converged.{shard_txn}
use Rattle.gz_converge.proofs.answer.shard_txns.Given as goal

abbrev pub invariant-loop-shard : goal.invariant-loop-shard
invariant-loop-shard l = l.txns.items ++ filter_map (shard_txn l.placed) (drop l.shard-index l.shards) ≡ filter_map (shard_txn l.placed) l.shards
