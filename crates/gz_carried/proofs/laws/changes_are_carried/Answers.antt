use Rattle.gz_carried.proofs.Sentences.{takes_changes}
use Rattle.gz_carried.proofs.laws.changes_are_carried.Goals as goal

pub returns : goal.returns
returns c = takes_changes
