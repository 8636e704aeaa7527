use Rattle.gz_plain.proofs.Settling.{IsRound}
use Rattle.gz_plain.proofs.settle.step_each.Given as goal

abbrev pub invariant-loop-shard : goal.invariant-loop-shard
invariant-loop-shard l = IsRound l.fn.journals l.fn.shards.items l.journals l.after.items l.shard-iterator.rest.items l.is_quiet
