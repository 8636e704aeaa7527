-- The theorem is proved over worlds.
use Rattle.gz_plain.proofs.Promises.{settled_stays, all_rest_after}
use Rattle.gz_plain.proofs.laws.a_settle_ends.Goals as goal

pub returns-clause-stays : goal.returns-clause-stays
returns-clause-stays c = λ rank w order. settled_stays rank w order

pub returns-clause-rests : goal.returns-clause-rests
returns-clause-rests c = λ es rank may order. all_rest_after es rank may order
