use Rattle.gz_once.proofs.Claims.{fenced}
use Rattle.gz_once.proofs.laws.the_author_register_fences.Goals as goal

pub returns : goal.returns
returns c = fenced
