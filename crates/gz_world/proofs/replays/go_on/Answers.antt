use Rattle.gz_world.proofs.Runs.{handed_on, next_long}
use Rattle.gz_world.proofs.replays.go_on.Goals as goal

pub returns-in_err-next-clause-refused : goal.returns-in_err-next-clause-refused
returns-in_err-next-clause-refused g c = λ refusal is.
    next_long c.in_err-next.field-0.0 _ _ _ _ _ _ _ _ _ refusal (handed_on _ _ refusal c.from_residual.ensures.1 is) c.in_err-next.ensures.next c.lines.invariant.goes_on
