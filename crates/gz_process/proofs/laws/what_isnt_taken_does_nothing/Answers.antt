use Rattle.gz_process.proofs.Strangers.{client_idle, node_idle, nobody_asked, no_poll, no_restart}
use Rattle.gz_process.proofs.laws.what_isnt_taken_does_nothing.Goals as goal

pub returns-clause-clients : goal.returns-clause-clients
returns-clause-clients c = client_idle

pub returns-clause-nodes : goal.returns-clause-nodes
returns-clause-nodes c = node_idle

pub returns-clause-unasked : goal.returns-clause-unasked
returns-clause-unasked c = nobody_asked

pub returns-clause-polls : goal.returns-clause-polls
returns-clause-polls c = no_poll

pub returns-clause-restarts : goal.returns-clause-restarts
returns-clause-restarts c = no_restart
