use Rattle.gz_process.proofs.Leading.{answers_lead, given_up_leads, polls_lead}
use Rattle.gz_process.proofs.laws.a_process_follows_its_phases.Goals as goal

pub returns-clause-polls : goal.returns-clause-polls
returns-clause-polls c = polls_lead

pub returns-clause-answers : goal.returns-clause-answers
returns-clause-answers c = answers_lead

pub returns-clause-given_up : goal.returns-clause-given_up
returns-clause-given_up c = given_up_leads
