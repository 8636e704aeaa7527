use Rattle.gz_lineage.proofs.Safe.{safe}
use Rattle.gz_lineage.proofs.laws.entries_stand_where_they_land.Goals as goal

pub returns : goal.returns
returns c = λ size es h. (safe size es h).lawful
