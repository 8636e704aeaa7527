use Rattle.std.proofs.Common.{◌≡◌, ◌+◌, ◌++◌, drop}
use Rattle.gz_journal.specs.JournalList.{end_of}
use Rattle.gz_spool.specs.Spools.{placed_from}
use Rattle.gz_replica.specs.Resending.{entries_to}
use Rattle.gz_replica.proofs.member.resending.push_entries.Given as goal

abbrev pub invariant-loop-i : goal.invariant-loop-i
invariant-loop-i l = record {
  sum : l.at + end_of (drop l.i l.spool.image.entries) ≡ l.spool.image.begin + end_of l.spool.image.entries;
  sends : l.sends ++ entries_to l.journal l.epoch l.head l.to (placed_from l.offset l.at (drop l.i l.spool.image.entries))
      ≡ l.fn.sends ++ entries_to l.journal l.epoch l.spool.image.head l.to (placed_from l.offset l.spool.image.begin l.spool.image.entries);
  head : l.head ≡ l.spool.image.head;
}
