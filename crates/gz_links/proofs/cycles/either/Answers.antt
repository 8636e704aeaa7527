use Rattle.std.proofs.Common.{◌∙◌, ◌≡◌, ◌||◌}
use Rattle.gz_links.specs.Cycles.{bit}
use Rattle.gz_links.proofs.Bits.{either_turn}
use Rattle.gz_links.proofs.cycles.either.Goals as goal

pub loop-i-preserved : goal.loop-i-preserved
loop-i-preserved c =
    let e : c.or-flag.result ≡ (bit c.loop-i.i c.args.row.now || bit c.loop-i.i c.args.other.now) = cc in
    either_turn c.args.row.now c.args.other.now c.loop-i.i c.or-flag.result _ _ c.loop-i-test.true e c.in_ok-push.ensures.items ∙ c.loop-i.invariant
