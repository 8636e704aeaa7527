use Rattle.gz_carry.proofs.Redelivery.{letters_come, brokers_take}
use Rattle.gz_carry.proofs.laws.letters_come_again.Goals as goal

pub returns-clause-comes : goal.returns-clause-comes
returns-clause-comes c = letters_come

pub returns-clause-taken : goal.returns-clause-taken
returns-clause-taken c = brokers_take
