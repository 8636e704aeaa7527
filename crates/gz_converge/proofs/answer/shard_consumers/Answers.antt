use Rattle.gz_converge.proofs.answer.shard_consumers.Goals as goal

pub returns : goal.returns
returns c = rw (← c.spec.view_is) c.in_ok-consumers.ensures
