use Rattle.std.proofs.Common.{◌<◌, map, length, sym, ◌∙◌, arith}
use Rattle.std.proofs.lemmas.List.{length-map}
use Rattle.gz_alloc.specs.Names.{rises_at}
use Rattle.gz_alloc.proofs.NameLemmas.{all_to_fails}
use Rattle.gz_alloc.proofs.problem.items_rise.Goals as goal

pub returns-then-not-rises : goal.returns-then-not-rises
returns-then-not-rises c =
    let within : c.loop-i.i < length (map (λ i. i.name) c.args.items.now) = omega (arith, length-map c.args.items.now (λ i. i.name)) in
    sym (all_to_fails (length (map (λ i. i.name) c.args.items.now)) (rises_at (map (λ i. i.name) c.args.items.now)) c.loop-i.i within (sym c.item_rises-rises.ensures ∙ c.if-not-rises.true))
