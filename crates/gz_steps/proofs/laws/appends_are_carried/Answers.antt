use Rattle.gz_steps.proofs.Sentences.{takes_appends}
use Rattle.gz_steps.proofs.laws.appends_are_carried.Goals as goal

pub returns : goal.returns
returns c = takes_appends
