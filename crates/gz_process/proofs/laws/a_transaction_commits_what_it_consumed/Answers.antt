use Rattle.gz_process.proofs.Committing.{commits_them}
use Rattle.gz_process.proofs.laws.a_transaction_commits_what_it_consumed.Goals as goal

pub returns : goal.returns
returns c = commits_them
