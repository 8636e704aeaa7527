use Rattle.gz_carry.proofs.Runs.{runs_have_histories}
use Rattle.gz_carry.proofs.laws.runs_have_histories.Goals as goal

pub returns : goal.returns
returns c = runs_have_histories
