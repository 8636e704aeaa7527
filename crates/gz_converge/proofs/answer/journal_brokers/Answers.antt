use Rattle.gz_converge.proofs.answer.journal_brokers.Goals as goal

pub returns : goal.returns
returns c = rw (← c.spec.view_is) c.in_ok-brokers.ensures
