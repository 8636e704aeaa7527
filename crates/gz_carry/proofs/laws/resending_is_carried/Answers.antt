use Rattle.gz_carry.proofs.Resending.{resending_seen}
use Rattle.gz_carry.proofs.laws.resending_is_carried.Goals as goal

pub returns : goal.returns
returns c = λ num h j me m n seen ok holds. resending_seen num j me m n seen h ok holds
