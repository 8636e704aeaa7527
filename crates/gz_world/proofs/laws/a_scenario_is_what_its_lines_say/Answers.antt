use Rattle.gz_world.proofs.Promises.{outcome_is_lawful, outcome_is_said}
use Rattle.gz_world.proofs.laws.a_scenario_is_what_its_lines_say.Goals as goal

pub returns-clause-lawful : goal.returns-clause-lawful
returns-clause-lawful c = outcome_is_lawful

pub returns-clause-said : goal.returns-clause-said
returns-clause-said c = outcome_is_said
