use Rattle.gz_spec.proofs.Sound.{shard_at_good}
use Rattle.gz_spec.proofs.shard.read_shard.Goals as goal

pub returns-clause-valid : goal.returns-clause-valid
returns-clause-valid c = shard_at_good _ _ _ c.in_ok-shard.ensures
