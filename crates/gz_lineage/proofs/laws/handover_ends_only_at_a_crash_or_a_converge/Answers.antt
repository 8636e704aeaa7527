use Rattle.gz_lineage.proofs.Handover.{lasts, calm}
use Rattle.gz_lineage.proofs.laws.handover_ends_only_at_a_crash_or_a_converge.Goals as goal

pub returns-clause-lasts : goal.returns-clause-lasts
returns-clause-lasts c = lasts

pub returns-clause-calm : goal.returns-clause-calm
returns-clause-calm c = calm
