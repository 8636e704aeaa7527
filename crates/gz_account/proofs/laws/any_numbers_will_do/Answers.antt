use Rattle.gz_account.proofs.Accounts.{keeps_promise}
use Rattle.gz_account.proofs.laws.any_numbers_will_do.Goals as goal

pub returns : goal.returns
returns c = keeps_promise
