use Rattle.gz_lineage.proofs.Safe.{safe}
use Rattle.gz_lineage.proofs.laws.acknowledged_entries_stay.Goals as goal

pub returns-clause-reached : goal.returns-clause-reached
returns-clause-reached c = λ size es h. (safe size es h).reached

pub returns-clause-stands : goal.returns-clause-stands
returns-clause-stands c = λ size es h. (safe size es h).stands
