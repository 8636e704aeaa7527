use Rattle.std.proofs.Common.{◌≡◌, ◌≤◌}
use Rattle.gz_alloc.specs.Sums.{count_to}
use Rattle.gz_alloc.specs.Flow.{cells_of}
use Rattle.gz_alloc.proofs.network.Network.load.Given as goal

abbrev pub invariant-loop-i : goal.invariant-loop-i
invariant-loop-i l = (l.count ≡ count_to l.i (λ i. cells_of l.flags i l.m)) × (l.count ≤ l.i)
