use Rattle.gz_spec.proofs.Sound.{shards_read}
use Rattle.gz_spec.proofs.cluster.read_shards.Goals as goal

pub returns-clause-valid : goal.returns-clause-valid
returns-clause-valid c = shards_read _ _ _ _ c.in_ok-refuse_long.ensures c.in_ok-shards.ensures
