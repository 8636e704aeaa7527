use Rattle.gz_carried.proofs.Sentences.{takes_messages, takes_clients, asks}
use Rattle.gz_carried.proofs.laws.letters_are_carried.Goals as goal

pub returns-clause-taken : goal.returns-clause-taken
returns-clause-taken c = takes_messages

pub returns-clause-asked : goal.returns-clause-asked
returns-clause-asked c = asks

pub returns-clause-clients : goal.returns-clause-clients
returns-clause-clients c = takes_clients
