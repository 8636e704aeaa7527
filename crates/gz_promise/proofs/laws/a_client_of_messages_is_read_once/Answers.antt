use Rattle.gz_promise.proofs.Clients.{singles_read}
use Rattle.gz_promise.proofs.laws.a_client_of_messages_is_read_once.Goals as goal

pub returns : goal.returns
returns c = singles_read
