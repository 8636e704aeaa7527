use Rattle.gz_converge.proofs.problem.push_list.Goals as goal

pub returns : goal.returns
returns c = rw (← c.shard.view_is, ← c.ids_in-listed.ensures) c.in_ok-push_pairs.ensures
