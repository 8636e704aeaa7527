use Rattle.std.proofs.Common.{arith, refl}
use Rattle.gz_world.proofs.Changes.{start_whole}
use Rattle.gz_world.proofs.start.start.Goals as goal

pub change-requires : goal.change-requires
change-requires c =
    let whole = start_whole c.args.specs.now c.requires in
    record { linked = whole.linked; there = omega arith; names = rw c.new-cluster.ensures refl; few = rw c.new-cluster.ensures (omega arith) }
