use Rattle.std.proofs.Common.{◌≡◌, ◌*◌, drop, false}
use Rattle.std.specs.Prelude.{replicate}
use Rattle.gz_alloc.specs.Flow.{IsTable, items}
use Rattle.gz_alloc.specs.Names.{mark_pairs}
use Rattle.gz_alloc.proofs.table.table_of.Given as goal

-- the table so far and the pairs that are left
abbrev pub invariant-loop-pair : goal.invariant-loop-pair
invariant-loop-pair l = record {
  table : IsTable l.network l.flags.items;
  rest : mark_pairs l.problem (drop l.pair-index l.pairs) l.flags.items ≡ mark_pairs l.problem l.pairs (replicate (64 * items l.network) false);
}
