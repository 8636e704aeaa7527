use Rattle.gz_process.proofs.Strangers.{waits_on}
use Rattle.gz_process.proofs.laws.a_process_that_waits_sends_nothing.Goals as goal

pub returns : goal.returns
returns c = waits_on
