use Rattle.std.proofs.Common.{◌+◌, ◌*◌, ◌<◌, ◌≤◌, length, get_or, sym, ap, subst, ◌∙◌}
use Rattle.gz_alloc.specs.Flow.{cells_of, zone}
use Rattle.gz_alloc.specs.Tally.{IsTally, added}
use Rattle.gz_alloc.proofs.TallyLemmas.{share_within, few_row, few_load, few_share, fits_missing, tally_added}
use Rattle.gz_alloc.proofs.tally.Tally.add_where_fits.Goals as goal

pub add-requires-clause-share : goal.add-requires-clause-share
add-requires-clause-share c = subst (λ z. 64 * c.args.i + z < length c.args.self.now.shares) (sym c.zone-zone.ensures) (share_within c.args.network.now c.args.self.now c.requires.net c.requires.tally c.args.i c.args.m c.requires.item c.requires.member)

pub add-requires-clause-few_row : goal.add-requires-clause-few_row
add-requires-clause-few_row c = few_row c.args.network.now c.args.self.now c.requires.net c.requires.tally c.args.i c.requires.item

pub add-requires-clause-few_load : goal.add-requires-clause-few_load
add-requires-clause-few_load c = few_load c.args.network.now c.args.self.now c.requires.net c.requires.tally c.args.m c.requires.member

pub add-requires-clause-few_share : goal.add-requires-clause-few_share
add-requires-clause-few_share c = subst (λ z. get_or c.args.self.now.shares (64 * c.args.i + z) 0 ≤ 1024) (sym c.zone-zone.ensures)
    (few_share c.args.network.now c.args.self.now c.requires.net c.requires.tally c.args.i (zone c.args.network.now c.args.m) c.requires.item (c.requires.net.within c.args.m c.requires.member))

pub returns-then-fits-clause-tally : goal.returns-then-fits-clause-tally
returns-then-fits-clause-tally c =
    subst (λ new. IsTally c.args.network.now new) (sym (c.add.ensures ∙ ap (λ z. added c.args.self.now c.args.i c.args.m z) c.zone-zone.ensures))
    (tally_added c.args.network.now c.args.self.now c.requires.net c.requires.tally c.args.i c.args.m c.requires.item c.requires.member
    (fits_missing c.args.network.now (cells_of c.args.self.now.flags) c.args.i c.args.m (sym c.fits.ensures ∙ c.if-fits.true)))
