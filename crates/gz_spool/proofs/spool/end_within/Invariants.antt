use Rattle.std.proofs.Common.{◌≡◌, ◌+◌, ◌≤◌, ◌^◌, drop}
use Rattle.gz_journal.specs.JournalList.{end_of}
use Rattle.gz_spool.proofs.spool.end_within.Given as goal

abbrev pub invariant-loop-entry : goal.invariant-loop-entry
invariant-loop-entry l = record { sum : l.end + end_of (drop l.entry-index l.entries) ≡ l.begin + end_of l.entries; limit : l.end ≤ 2 ^ 62 }
