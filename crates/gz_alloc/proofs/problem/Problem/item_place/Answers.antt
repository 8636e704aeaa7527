use Rattle.std.proofs.Common.{◌≡◌, true, map, sym, ap, subst, ◌∙◌}
use Rattle.gz_alloc.specs.Names.{is_problem, rises}
use Rattle.gz_alloc.proofs.NameLemmas.{asked_facts}
use Rattle.gz_alloc.proofs.problem.Problem.item_place.Goals as goal

pub find_item-requires : goal.find_item-requires
find_item-requires c =
    let ok : is_problem c.args.self.now ≡ true = subst (λ a. is_problem a ≡ true) c.self.view_is c.self.invariant in
    subst (λ l. rises (map (λ i. i.name) l) ≡ true) (sym (c.as_slice.ensures.value ∙ ap (λ a. a.items) c.self.view_is)) ((asked_facts c.args.self.now ok).items_rise)
