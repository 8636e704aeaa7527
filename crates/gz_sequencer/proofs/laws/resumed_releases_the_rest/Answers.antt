use Rattle.gz_sequencer.proofs.Resuming.{releases_the_rest}
use Rattle.gz_sequencer.proofs.laws.resumed_releases_the_rest.Goals as goal

pub returns : goal.returns
returns c = λ offset text more. releases_the_rest offset text more
