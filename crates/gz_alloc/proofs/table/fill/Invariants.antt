use Rattle.std.proofs.Common.{◌≡◌}
use Rattle.gz_alloc.specs.Tally.{IsTally}
use Rattle.gz_alloc.specs.Names.{fill}
use Rattle.gz_alloc.proofs.table.fill.Given as goal

abbrev pub invariant-loop-i : goal.invariant-loop-i
invariant-loop-i l = record {
  tally : IsTally l.network l.tally;
  cells : l.tally.flags ≡ fill l.network l.i l.fn.tally.flags;
}
