use Rattle.gz_process.proofs.Leading.{answers_lead, given_up_leads, lines_alone, polls_lead}
use Rattle.gz_process.proofs.laws.only_lines_stand_before_their_commit.Goals as goal

pub returns-clause-polls : goal.returns-clause-polls
returns-clause-polls c = λ name m base now p h. lines_alone p.phase _ (polls_lead name m base now p) h

pub returns-clause-answers : goal.returns-clause-answers
returns-clause-answers c = λ req question answer p h. lines_alone p.phase _ (answers_lead req question answer p) h

pub returns-clause-given_up : goal.returns-clause-given_up
returns-clause-given_up c = λ p h. lines_alone p.phase _ (given_up_leads p) h
