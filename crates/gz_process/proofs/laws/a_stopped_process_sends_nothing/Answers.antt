use Rattle.gz_process.proofs.Leading.{answers_lead, given_up_leads, stopped_for_ever}
use Rattle.gz_process.proofs.Strangers.{stopped_polls}
use Rattle.gz_process.proofs.laws.a_stopped_process_sends_nothing.Goals as goal

pub returns-clause-polls : goal.returns-clause-polls
returns-clause-polls c = stopped_polls

pub returns-clause-answers : goal.returns-clause-answers
returns-clause-answers c = λ req question answer p reason e. stopped_for_ever p.phase _ reason e (answers_lead req question answer p)

pub returns-clause-given_up : goal.returns-clause-given_up
returns-clause-given_up c = λ p reason e. stopped_for_ever p.phase _ reason e (given_up_leads p)
