use Rattle.std.proofs.Common.{◌++◌, ◌∷◌, [], ◌&&◌, Bool, List, ℕ, sym, ap, ◌∙◌}
use Rattle.gz_alloc.specs.Flow.{is_zone}
use Rattle.gz_alloc.specs.Search.{is_zone_chosen}
use Rattle.gz_alloc.specs.Names.{name_at, item_names, zone_names}
use Rattle.gz_alloc.proofs.PickLemmas.{picks_pushed, picks_passed}
use Rattle.gz_alloc.proofs.choice.push_zones.Goals as goal
use Rattle.gz_alloc.proofs.choice.push_zones.Goals.{then-cut+in_ok-item+in_ok-zone+in_ok-push, else-cut}

pub loop-z-preserved : goal.loop-z-preserved
loop-z-preserved c =
    let test : ℕ → Bool = λ z. is_zone c.args.network.now z && is_zone_chosen c.args.network.now c.args.search.now c.args.i z in
    let pair : ℕ → List ℕ × List ℕ = λ z. (name_at (item_names c.args.problem.now) c.args.i, name_at (zone_names c.args.problem.now) z) in
    elim c.if-cut.branch [
      | then-cut+in_ok-item+in_ok-zone+in_ok-push w ↦
          ap (λ v. v.items) w.zones-is ∙ w.in_ok-push.ensures.items
          ∙ ap (λ a. c.loop-z.zones.items ++ (a, w.in_ok-zone.zone) ∷ []) w.in_ok-item.ensures ∙ ap (λ b. c.loop-z.zones.items ++ (name_at (item_names c.args.problem.now) c.args.i, b) ∷ []) w.in_ok-zone.ensures
          ∙ picks_pushed c.args.zones.now.items c.loop-z.zones.items c.loop-z.z test pair (sym c.is_cut-cut.ensures ∙ w.if-cut.true) c.loop-z.invariant
      | else-cut w ↦
          ap (λ v. v.items) w.zones-is ∙ picks_passed c.args.zones.now.items c.loop-z.zones.items c.loop-z.z test pair (sym c.is_cut-cut.ensures ∙ w.if-cut.false) c.loop-z.invariant
    ]
