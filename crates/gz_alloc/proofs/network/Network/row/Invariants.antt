use Rattle.std.proofs.Common.{◌≡◌, ◌≤◌}
use Rattle.gz_alloc.specs.Sums.{count_to}
use Rattle.gz_alloc.specs.Flow.{cells_of}
use Rattle.gz_alloc.proofs.network.Network.row.Given as goal

abbrev pub invariant-loop-m : goal.invariant-loop-m
invariant-loop-m l = (l.count ≡ count_to l.m (λ m. cells_of l.flags l.i m)) × (l.count ≤ l.m)
