use Rattle.std.proofs.Common.{◌≡◌, ◌*◌, drop, false}
use Rattle.std.specs.Prelude.{replicate}
use Rattle.gz_alloc.specs.Flow.{items}
use Rattle.gz_alloc.specs.Tally.{IsTally}
use Rattle.gz_alloc.specs.Names.{keep_pairs}
use Rattle.gz_alloc.proofs.table.greedy.Given as goal

-- the table so far and the pairs that are left
abbrev pub invariant-loop-pair : goal.invariant-loop-pair
invariant-loop-pair l = record {
  tally : IsTally l.network l.tally;
  rest : keep_pairs l.problem (drop l.pair-index l.now) l.tally.flags ≡ keep_pairs l.problem l.now (replicate (64 * items l.network) false);
}
