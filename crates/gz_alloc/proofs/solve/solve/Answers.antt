use Rattle.std.proofs.Common.{◌*◌, ◌≤◌, arith}
use Rattle.gz_alloc.specs.Flow.{items, total, cells_of}
use Rattle.gz_alloc.proofs.Walk.{total_most}
use Rattle.gz_alloc.proofs.solve.solve.Goals as goal

pub pairs-smaller : goal.pairs-smaller
pairs-smaller c =
    let most : total c.args.network.now (cells_of c.add_pair.new.flags) ≤ 64 * items c.args.network.now = total_most c.args.network.now (cells_of c.add_pair.new.flags) c.requires.net in
    omega (arith, c.add_pair.ensures.more)
