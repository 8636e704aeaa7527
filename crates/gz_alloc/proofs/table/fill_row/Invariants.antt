use Rattle.std.proofs.Common.{◌≡◌}
use Rattle.gz_alloc.specs.Tally.{IsTally}
use Rattle.gz_alloc.specs.Names.{fill_row}
use Rattle.gz_alloc.proofs.table.fill_row.Given as goal

abbrev pub invariant-loop-m : goal.invariant-loop-m
invariant-loop-m l = record {
  tally : IsTally l.network l.tally;
  cells : l.tally.flags ≡ fill_row l.network l.i l.m l.fn.tally.flags;
}
