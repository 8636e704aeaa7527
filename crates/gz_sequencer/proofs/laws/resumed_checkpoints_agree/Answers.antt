use Rattle.gz_sequencer.proofs.Resuming.{checkpoints_agree}
use Rattle.gz_sequencer.proofs.laws.resumed_checkpoints_agree.Goals as goal

pub returns : goal.returns
returns c = λ offset text more. checkpoints_agree offset text more
