use Rattle.gz_broker.proofs.Strangers.{client_idle, node_idle}
use Rattle.gz_broker.proofs.laws.what_isnt_taken_does_nothing.Goals as goal

pub returns-clause-clients : goal.returns-clause-clients
returns-clause-clients c = client_idle

pub returns-clause-nodes : goal.returns-clause-nodes
returns-clause-nodes c = node_idle
