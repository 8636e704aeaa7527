use Rattle.std.proofs.Common.{◌<◌, ◌∙◌, arith}
use Rattle.gz_alloc.specs.Flow.{IsTable, cells_of, limit, load}
use Rattle.gz_alloc.proofs.Walk.{start_step, walk_step}
use Rattle.gz_alloc.proofs.solve.add_pair.Goals as goal

pub way-init : goal.way-init
way-init c =
    let step = start_step c.args.network.now c.args.flags.now c.set.new.flags c.args.search.now c.args.b c.args.t c.requires.net c.requires.table c.requires.keeps c.requires.search c.requires.wanted c.set.ensures in
    record { walk = step.0; more = step.1 }

pub way-preserved : goal.way-preserved
way-preserved c =
    let table : IsTable c.args.network.now c.way.flags = omega arith in
    let over : limit c.args.network.now c.way.at < load c.args.network.now (cells_of c.way.flags) c.way.at = omega arith in
    let step = walk_step c.args.network.now c.way.flags c.set-in-way.new.flags c.set-in-way-2.new.flags c.args.search.now c.way.at c.mover-mover.result c.to-next.result c.requires.net table c.way.invariant.walk over
    c.mover-mover.ensures c.to-next.ensures c.set-in-way.ensures c.set-in-way-2.ensures in
    record { walk = step.0; more = step.1 ∙ c.way.invariant.more }
