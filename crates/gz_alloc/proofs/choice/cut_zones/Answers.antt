use Rattle.std.proofs.Common.{◌≡◌, ◌&&◌, ap, ◌∙◌, arith}
use Rattle.gz_alloc.specs.Flow.{items, members, is_zone}
use Rattle.gz_alloc.specs.Search.{is_zone_chosen}
use Rattle.gz_alloc.specs.Names.{gather, picks, name_at, item_names, zone_names}
use Rattle.gz_alloc.proofs.choice.cut_zones.Goals as goal

pub returns : goal.returns
returns c =
    let e : c.loop-i.i ≡ items c.args.network.now = omega arith in
    c.loop-i.invariant
    ∙ ap (λ n. gather n (λ i. picks (members c.args.network.now) (λ z. is_zone c.args.network.now z && is_zone_chosen c.args.network.now c.args.search.now i z) (λ z. (name_at (item_names c.args.problem.now) i, name_at (zone_names c.args.problem.now) z)))) e
    ∙ ap (λ net. gather (items net) (λ i. picks (members net) (λ z. is_zone net z && is_zone_chosen net c.args.search.now i z) (λ z. (name_at (item_names c.args.problem.now) i, name_at (zone_names c.args.problem.now) z)))) c.requires.numbers
