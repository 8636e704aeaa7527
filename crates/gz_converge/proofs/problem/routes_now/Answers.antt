use Rattle.std.proofs.Common.{◌≡◌, ℕ, List, true, false, ap, sym, subst, ◌∙◌}
use Rattle.std.specs.Prelude.{flat_map}
use Rattle.gz_alloc.specs.Ascending.{ascending}
use Rattle.gz_converge.specs.declared.view.JournalView.{JournalView}
use Rattle.gz_converge.specs.declared.view.MemberView.{MemberView}
use Rattle.gz_converge.specs.Converged.{Pairs, ids, holders, pairs_of, routes_now}
use Rattle.gz_converge.proofs.Order.{routes_ascend}
use Rattle.gz_converge.proofs.problem.routes_now.Goals as goal

pub in_order-requires : goal.in_order-requires
in_order-requires c =
    let names : c.as_slice.result.now ≡ ids (holders false c.args.view.now.members) = c.as_slice.ensures.value ∙ c.in_ok-brokers.ensures ∙ ap (λ (ms : List MemberView). ids (holders false ms)) c.members.ensures in
    let is : c.in_ok-pairs.pairs.items ≡ routes_now c.args.view.now =
    c.in_ok-pairs.ensures ∙ ap (λ (bs : List (List ℕ)). flat_map (λ (x : JournalView). pairs_of bs x.spec.name x.route) c.journals.result.now) names
    ∙ ap (λ (xs : List JournalView). flat_map (λ (x : JournalView). pairs_of (ids (holders false c.args.view.now.members)) x.spec.name x.route) xs) c.journals.ensures in
    subst (λ (ps : Pairs). ascending ps ≡ true) (sym is) (routes_ascend c.args.view.now c.requires)
