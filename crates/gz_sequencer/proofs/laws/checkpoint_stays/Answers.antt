use Rattle.gz_sequencer.proofs.Resuming.{point_stays}
use Rattle.gz_sequencer.proofs.laws.checkpoint_stays.Goals as goal

pub returns : goal.returns
returns c = λ point bytes early. point_stays point bytes early
