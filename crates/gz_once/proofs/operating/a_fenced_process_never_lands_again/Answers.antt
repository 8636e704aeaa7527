use Rattle.gz_once.proofs.Operators.{fenced_lands_nothing}
use Rattle.gz_once.proofs.operating.a_fenced_process_never_lands_again.Goals as goal

pub returns : goal.returns
returns c = fenced_lands_nothing
