use Rattle.gz_steps.proofs.Sentences.{opens, is_refused, takes_the_stores_end}
use Rattle.gz_steps.proofs.laws.answers_are_carried.Goals as goal

pub returns-clause-opens : goal.returns-clause-opens
returns-clause-opens c = opens

pub returns-clause-refused : goal.returns-clause-refused
returns-clause-refused c = is_refused

pub returns-clause-told : goal.returns-clause-told
returns-clause-told c = takes_the_stores_end
