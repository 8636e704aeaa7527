use Rattle.gz_steps.proofs.Sentences.{trims, sends_again}
use Rattle.gz_steps.proofs.laws.sending_is_carried.Goals as goal

pub returns-clause-trims : goal.returns-clause-trims
returns-clause-trims c = trims

pub returns-clause-again : goal.returns-clause-again
returns-clause-again c = sends_again
