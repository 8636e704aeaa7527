use Rattle.gz_progress.proofs.GoesOn.{ready}
use Rattle.gz_progress.proofs.laws.the_next_process_goes_on.Goals as goal

pub returns : goal.returns
returns c = ready
