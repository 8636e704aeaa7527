use Rattle.gz_lineage.proofs.Choice.{best_is}
use Rattle.gz_lineage.proofs.laws.the_newest_image_is_chosen.Goals as goal

pub returns : goal.returns
returns c = best_is
