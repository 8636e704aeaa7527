use Rattle.gz_process.proofs.Appending.{polls_own}
use Rattle.gz_process.proofs.laws.a_process_appends_as_its_author.Goals as goal

pub returns : goal.returns
returns c = polls_own
