use Rattle.gz_once.proofs.Claims.{acknowledged}
use Rattle.gz_once.proofs.laws.acknowledged_before_the_next_commit.Goals as goal

pub returns : goal.returns
returns c = acknowledged
