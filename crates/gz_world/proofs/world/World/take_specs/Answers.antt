use Rattle.std.proofs.Common.{sym, subst}
use Rattle.gz_world.specs.Worlds.{World}
use Rattle.gz_world.proofs.Ready.{JoinChanges, join_changes}
use Rattle.gz_world.proofs.world.World.take_specs.Goals as goal

pub change-requires : goal.change-requires
change-requires c =
    let P : World → Type 0 = λ w. JoinChanges w.specs c.args.more.now c.args.all w.cluster in
    let joined = join_changes c.args.self.now.specs c.args.more.now c.args.all c.args.self.now.cluster c.requires.specified c.requires.part c.requires.joined in
    let here : JoinChanges c.self.inside.specs c.args.more.now c.args.all c.self.inside.cluster = subst P (sym c.self.view_is) joined in
    record { linked = here.linked; there = rw c.count_journals-there.ensures here.there; names = rw c.count_journals-there.ensures here.names; few = here.few }
