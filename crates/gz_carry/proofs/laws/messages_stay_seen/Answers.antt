use Rattle.gz_carry.proofs.Sends.{stays_seen}
use Rattle.gz_carry.proofs.laws.messages_stay_seen.Goals as goal

pub returns : goal.returns
returns c = stays_seen
