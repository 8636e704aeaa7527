use Rattle.gz_lineage.proofs.Safe.{safe}
use Rattle.gz_lineage.proofs.laws.acknowledged_only_when_held_by_all.Goals as goal

pub returns : goal.returns
returns c = λ size es h. (safe size es h).held
