use Rattle.gz_promise.proofs.Clients.{transactions_read}
use Rattle.gz_promise.proofs.laws.a_client_of_transactions_is_read_once.Goals as goal

pub returns : goal.returns
returns c = transactions_read
