use Rattle.gz_steps.proofs.Sentences.{takes_messages}
use Rattle.gz_steps.proofs.laws.messages_are_carried.Goals as goal

pub returns : goal.returns
returns c = takes_messages
