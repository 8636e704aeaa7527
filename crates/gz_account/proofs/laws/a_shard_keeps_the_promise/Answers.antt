use Rattle.gz_account.specs.Numbers.{plain_numbers}
use Rattle.gz_account.proofs.Accounts.{keeps_promise}
use Rattle.gz_account.proofs.ReadBack.{read_back}
use Rattle.gz_account.proofs.laws.a_shard_keeps_the_promise.Goals as goal

pub returns : goal.returns
returns c = keeps_promise plain_numbers read_back
