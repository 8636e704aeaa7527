use Rattle.gz_converge.proofs.problem.push_route.Goals as goal

pub returns : goal.returns
returns c = rw (← c.journal.view_is, ← c.ids_in-listed.ensures) c.in_ok-push_pairs.ensures
