use Rattle.gz_progress.proofs.Commits.{committed}
use Rattle.gz_progress.proofs.laws.what_is_released_is_committed.Goals as goal

pub returns : goal.returns
returns c = committed
