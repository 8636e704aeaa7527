use Rattle.std.proofs.Common.{◌<◌, length, sym, ◌∙◌, arith}
use Rattle.gz_alloc.specs.Ascending.{below_next}
use Rattle.gz_alloc.proofs.NameLemmas.{all_to_fails}
use Rattle.gz_alloc.proofs.problem.pairs_rise.Goals as goal

pub returns-then-not-rises : goal.returns-then-not-rises
returns-then-not-rises c =
    let within : c.loop-k.k < length c.args.pairs.now = omega arith in
    sym (all_to_fails (length c.args.pairs.now) (below_next c.args.pairs.now) c.loop-k.k within (sym c.pair_rises-rises.ensures ∙ c.if-not-rises.true))
