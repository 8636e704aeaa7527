use Rattle.std.proofs.Common.{◌≡◌, List, [], true, map, filter, ap, subst, ◌∙◌}
use Rattle.gz_converge.specs.declared.view.ShardView.{ShardView}
use Rattle.gz_converge.specs.declared.view.MemberView.{MemberView}
use Rattle.gz_converge.specs.Converged.{Pairs, IsPlaced, holder, holders, shard_item, is_enabled, enabled, shards_asked, lists_now}
use Rattle.gz_converge.proofs.Placing.{asked_is, placed_as, made_problem}
use Rattle.gz_converge.proofs.answer.place_shards.Goals as goal

pub returns-clause-placed : goal.returns-clause-placed
returns-clause-placed c =
    let items : c.in_ok-items.items.items ≡ map shard_item (enabled c.args.view.now) = c.in_ok-items.ensures ∙ ap (λ (ss : List ShardView). map shard_item (filter is_enabled ss)) c.shards.ensures in
    let members : c.in_ok-consumers.consumers.items ≡ map holder (holders true c.args.view.now.members) = c.in_ok-consumers.ensures ∙ ap (λ (ms : List MemberView). map holder (holders true ms)) c.members.ensures in
    let asked : c.in-Some.problem ≡ shards_asked c.args.view.now = asked_is c.in_ok-items.items.items (map shard_item (enabled c.args.view.now)) c.in_ok-consumers.consumers.items (map holder (holders true c.args.view.now.members)) c.in-Some.problem c.in-Some.ensures items members in
    placed_as c.in-Some.problem (shards_asked c.args.view.now) c.in_ok-now.now (lists_now c.args.view.now) [] c.in_ok-placement.placement asked c.in_ok-now.ensures (subst (λ (g : Pairs). IsPlaced c.in-Some.problem c.in_ok-now.now g c.in_ok-placement.placement) c.none-goal.ensures c.in_ok-placement.ensures)

pub placed-requires : goal.placed-requires
placed-requires c = made_problem c.in_ok-items.items.items c.in_ok-consumers.consumers.items c.in-Some.problem c.in-Some.ensures
