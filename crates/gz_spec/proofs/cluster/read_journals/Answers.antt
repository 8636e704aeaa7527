use Rattle.gz_spec.proofs.Sound.{journals_read}
use Rattle.gz_spec.proofs.cluster.read_journals.Goals as goal

pub returns-clause-valid : goal.returns-clause-valid
returns-clause-valid c = journals_read _ _ _ _ c.in_ok-refuse_long.ensures c.in_ok-journals.ensures
