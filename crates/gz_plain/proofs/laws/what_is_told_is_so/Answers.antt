-- The theorem is proved over worlds.
use Rattle.gz_plain.proofs.Promises.{all_tell_after, all_up_to_date_after}
use Rattle.gz_plain.proofs.laws.what_is_told_is_so.Goals as goal

pub returns-clause-caught : goal.returns-clause-caught
returns-clause-caught c = λ es may. all_tell_after es may

pub returns-clause-settled : goal.returns-clause-settled
returns-clause-settled c = λ rank w order. all_up_to_date_after rank w order
