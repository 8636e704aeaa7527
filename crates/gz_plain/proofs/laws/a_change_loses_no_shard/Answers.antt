-- The theorem is proved over lists of definitions.
use Rattle.gz_plain.proofs.Changes.{definitions_changed, all_go_on_changed}
use Rattle.gz_plain.proofs.laws.a_change_loses_no_shard.Goals as goal

pub returns-clause-said : goal.returns-clause-said
returns-clause-said c = λ names ds w. definitions_changed names ds w

pub returns-clause-goes_on : goal.returns-clause-goes_on
returns-clause-goes_on c = λ names ds w all. all_go_on_changed names ds w all
