use Rattle.gz_spec.proofs.Sound.{part_in_good}
use Rattle.gz_spec.proofs.cluster.read_part.Goals as goal

pub returns-clause-valid : goal.returns-clause-valid
returns-clause-valid c = part_in_good _ _ c.in_ok-specs.ensures
