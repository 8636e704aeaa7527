use Rattle.std.proofs.Common.{◌≡◌, sym, ◌∙◌, ap, subst, arith}
use Rattle.gz_alloc.specs.Flow.{cells_of, zone, in_zone, zone_bound, replicas}
use Rattle.gz_alloc.specs.Search.{IsSearch, IsTarget}
use Rattle.gz_alloc.proofs.SearchLemmas.{aim_keeps}
use Rattle.gz_alloc.proofs.search.Search.visit.Goals as goal

pub open_row-requires-2-clause-search : goal.open_row-requires-2-clause-search
open_row-requires-2-clause-search c =
    let held : c.in_zone.result ≡ in_zone c.args.network.now (cells_of c.args.flags.now) c.args.b (zone c.args.network.now c.args.t) =
    c.in_zone.ensures ∙ ap (λ z. in_zone c.args.network.now (cells_of c.args.flags.now) c.args.b z) c.zone.ensures in
    let bound : c.bound_of.result ≡ zone_bound (replicas c.args.network.now c.args.b) = c.bound_of.ensures ∙ ap zone_bound c.replicas.ensures in
    let aim : IsTarget c.args.network.now (cells_of c.args.flags.now) c.args.b c.args.t = record { room = omega arith; full = omega arith } in
    subst (λ new. IsSearch c.args.network.now (cells_of c.args.flags.now) new) (sym c.aim.ensures)
    (aim_keeps c.args.network.now (cells_of c.args.flags.now) c.args.self.now c.requires.net c.requires.search c.args.b c.args.t c.requires.item (omega arith) aim)
