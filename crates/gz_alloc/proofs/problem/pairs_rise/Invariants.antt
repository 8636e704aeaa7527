use Rattle.std.proofs.Common.{◌≡◌, true}
use Rattle.gz_alloc.specs.Sums.{all_to}
use Rattle.gz_alloc.specs.Ascending.{below_next}
use Rattle.gz_alloc.proofs.problem.pairs_rise.Given as goal

-- the pairs so far rise
abbrev pub invariant-loop-k : goal.invariant-loop-k
invariant-loop-k l = all_to l.k (below_next l.pairs) ≡ true
