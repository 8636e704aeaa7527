use Rattle.std.proofs.Common.{arith}
use Rattle.gz_alloc.specs.Flow.{cells_of, zone_bound, replicas}
use Rattle.gz_alloc.proofs.TableLemmas.{zones_of_pairs}
use Rattle.gz_alloc.proofs.feasible.zones_keep.Goals as goal

pub returns-clause-yes : goal.returns-clause-yes
returns-clause-yes c = λ _ m _.
    zones_of_pairs c.args.network.now (cells_of c.args.flags.now) c.args.i (zone_bound (replicas c.args.network.now c.args.i)) (λ n ln. c.loop-m.invariant n (omega arith)) m
