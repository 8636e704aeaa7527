use Rattle.gz_carry.proofs.Apart.{new_seen, one_seen, entry_seen}
use Rattle.gz_carry.proofs.laws.members_are_told_apart.Goals as goal

pub returns-clause-begins : goal.returns-clause-begins
returns-clause-begins c = new_seen

pub returns-clause-alike : goal.returns-clause-alike
returns-clause-alike c = one_seen

pub returns-clause-entry : goal.returns-clause-entry
returns-clause-entry c = entry_seen
