use Rattle.gz_process.proofs.Strangers.{not_taken}
use Rattle.gz_process.proofs.laws.an_answer_that_isnt_taken_leaves_the_process.Goals as goal

pub returns : goal.returns
returns c = not_taken
