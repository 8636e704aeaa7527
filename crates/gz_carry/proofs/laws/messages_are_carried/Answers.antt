use Rattle.gz_carry.proofs.Messages.{message_seen}
use Rattle.gz_carry.proofs.laws.messages_are_carried.Goals as goal

pub returns : goal.returns
returns c = λ num same w i me from req m msg seen s. message_seen num same w i me from req m seen msg s
