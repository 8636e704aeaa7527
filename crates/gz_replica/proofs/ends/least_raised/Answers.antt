use Rattle.std.proofs.Common.{rules, arith, ◌≡◌, ℕ, ◌+◌, ◌∙◌, drop, min, ap}
use Rattle.gz_replica.specs.Slots.{held_raised, least}
use Rattle.gz_replica.proofs.Holding.{raised_step}
use Rattle.gz_replica.proofs.ends.least_raised.Goals as goal

pub loop-held-preserved : goal.loop-held-preserved
loop-held-preserved c =
    let lesser : c.min-least.result ≡ min c.loop-held.least c.end_raised.result = omega arith in
    record {
      value = ap (λ (n : ℕ). least n (held_raised c.args.member.now c.args.reached (drop (c.loop-held.held-index + 1) c.args.ends.now))) (lesser ∙ ap (λ (n : ℕ). min c.loop-held.least n) c.end_raised.ensures)
          ∙ raised_step c.args.member.now c.loop-held.least c.args.reached c.args.ends.now c.loop-held.held-index c.held-item.result (omega arith) c.held-item.is
          ∙ c.loop-held.invariant.value;
      within = omega arith;
    }
