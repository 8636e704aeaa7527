use Rattle.gz_print.proofs.Prefixes.{back_turn}
use Rattle.gz_print.proofs.print.label_members.Goals as goal

pub loop-i-preserved : goal.loop-i-preserved
loop-i-preserved c = back_turn _ _ _ _ c.loop-i-test.true c.loop-i.invariant c.in_ok-put_first.ensures
