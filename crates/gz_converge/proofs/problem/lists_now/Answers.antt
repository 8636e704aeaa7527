use Rattle.std.proofs.Common.{◌≡◌, ℕ, List, filter, true, ap, sym, subst, ◌∙◌}
use Rattle.std.specs.Prelude.{flat_map}
use Rattle.gz_alloc.specs.Ascending.{ascending}
use Rattle.gz_converge.specs.declared.view.ShardView.{ShardView}
use Rattle.gz_converge.specs.declared.view.MemberView.{MemberView}
use Rattle.gz_converge.specs.Converged.{Pairs, ids, holders, is_enabled, pairs_of, lists_now}
use Rattle.gz_converge.proofs.Order.{lists_ascend}
use Rattle.gz_converge.proofs.problem.lists_now.Goals as goal

pub in_order-requires : goal.in_order-requires
in_order-requires c =
    let names : c.as_slice.result.now ≡ ids (holders true c.args.view.now.members) = c.as_slice.ensures.value ∙ c.in_ok-consumers.ensures ∙ ap (λ (ms : List MemberView). ids (holders true ms)) c.members.ensures in
    let is : c.in_ok-pairs.pairs.items ≡ lists_now c.args.view.now =
    c.in_ok-pairs.ensures ∙ ap (λ (bs : List (List ℕ)). flat_map (λ (x : ShardView). pairs_of bs x.spec.id x.list) (filter is_enabled c.shards.result.now)) names
    ∙ ap (λ (xs : List ShardView). flat_map (λ (x : ShardView). pairs_of (ids (holders true c.args.view.now.members)) x.spec.id x.list) (filter is_enabled xs)) c.shards.ensures in
    subst (λ (ps : Pairs). ascending ps ≡ true) (sym is) (lists_ascend c.args.view.now c.requires)
