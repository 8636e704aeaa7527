use Rattle.std.proofs.Common.{◌+◌, ◌*◌, ◌<◌, length, sym, subst}
use Rattle.gz_alloc.proofs.TallyLemmas.{share_within}
use Rattle.gz_alloc.proofs.tally.Tally.fits.Goals as goal

pub share-requires : goal.share-requires
share-requires c = subst (λ z. 64 * c.args.i + z < length c.args.self.now.shares) (sym c.zone-zone.ensures) (share_within c.args.network.now c.args.self.now c.requires.net c.requires.tally c.args.i c.args.m c.requires.item c.requires.member)
