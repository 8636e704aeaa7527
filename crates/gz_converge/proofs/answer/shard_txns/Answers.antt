use Rattle.std.proofs.Common.{◌<◌, length, arith}
use Rattle.std.specs.Prelude.{filter_map}
use Rattle.gz_converge.specs.Converged.{shard_txn}
use Rattle.gz_converge.proofs.Reading.{found_next}
use Rattle.gz_converge.proofs.answer.shard_txns.Goals as goal

pub loop-shard-preserved : goal.loop-shard-preserved
loop-shard-preserved c =
    let within : c.loop-shard.shard-index < length c.args.shards.now = omega arith in
    found_next (shard_txn c.args.placed.now) c.args.shards.now c.loop-shard.shard-index c.shard-item.result c.loop-shard.txns.items (filter_map (shard_txn c.args.placed.now) c.args.shards.now) c.push_shard_txn.new.txns.items within
    c.shard-item.is c.loop-shard.invariant c.in_ok-push_shard_txn.ensures
