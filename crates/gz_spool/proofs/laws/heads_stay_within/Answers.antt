use Rattle.std.proofs.Common.{arith, refl}
use Rattle.gz_spool.proofs.laws.heads_stay_within.Goals as goal

pub returns-clause-rises : goal.returns-clause-rises
returns-clause-rises c = λ head i. omega arith

pub returns-clause-within : goal.returns-clause-within
returns-clause-within c = λ head i l. omega arith

pub returns-clause-keeps : goal.returns-clause-keeps
returns-clause-keeps c = λ head i. refl

pub returns-clause-stays : goal.returns-clause-stays
returns-clause-stays c = λ entry i. refl
