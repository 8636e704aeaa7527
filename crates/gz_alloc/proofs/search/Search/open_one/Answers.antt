use Rattle.std.proofs.Common.{◌≡◌, ◌<◌, ◌⊎◌, sym, ◌∙◌, subst, inl, inr, arith}
use Rattle.gz_alloc.specs.Flow.{cells_of, zone}
use Rattle.gz_alloc.specs.Search.{rank, target, CanMove, Opens}
use Rattle.gz_alloc.proofs.SearchLemmas.{rank_left, opens, opened}
use Rattle.gz_alloc.proofs.search.Search.open_one.Goals as goal
use Rattle.gz_alloc.proofs.search.Search.open_one.Goals.{then-whole-via-then-whole, then-whole-via-else-whole+then-zone}

pub open-requires-clause-found : goal.open-requires-clause-found
open-requires-clause-found c =
    rank_left c.args.network.now (cells_of c.args.flags.now) c.args.self.now c.requires.net c.requires.search c.args.m c.requires.within (omega arith)

pub returns-then-whole-clause-opens : goal.returns-then-whole-clause-opens
returns-then-whole-clause-opens c =
    let s = c.args.self.now in
    let room : (zone c.args.network.now c.args.t ≡ zone c.args.network.now c.args.m) ⊎ (target s c.args.b ≡ c.args.t) =
    elim c.then-whole.branch [ then-whole-via-then-whole w ↦ inr (c.requires.aim w.if-whole.true) | then-whole-via-else-whole+then-zone w ↦ inl (omega arith) ] in
    let can : CanMove c.args.network.now (cells_of c.args.flags.now) s c.args.m c.args.b c.args.t = record {
      item = c.requires.item;
      member = c.requires.target;
      has_way = c.requires.has_way;
      placed = sym c.cell.ensures ∙ c.if-not-cell.false;
      missing = c.requires.missing;
      room = room;
    } in
    subst (λ new. Opens c.args.network.now (cells_of c.args.flags.now) s new) (sym c.open.ensures)
    (opens c.args.network.now (cells_of c.args.flags.now) s c.requires.net c.requires.search c.args.m c.args.b c.args.t c.requires.within (omega arith) (inr can))

pub returns-then-whole-clause-taken : goal.returns-then-whole-clause-taken
returns-then-whole-clause-taken c = λ placed why.
    subst (λ new. rank new c.args.m < 64) (sym c.open.ensures)
    (opened c.args.network.now (cells_of c.args.flags.now) c.args.self.now c.requires.net c.requires.search c.args.m c.args.b c.args.t c.requires.within (omega arith))
