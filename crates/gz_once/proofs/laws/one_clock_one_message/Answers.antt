use Rattle.gz_once.proofs.Messages.{one_message}
use Rattle.gz_once.proofs.laws.one_clock_one_message.Goals as goal

pub returns-clause-message : goal.returns-clause-message
returns-clause-message c = one_message
