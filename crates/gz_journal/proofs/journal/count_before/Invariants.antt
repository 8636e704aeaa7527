use Rattle.std.proofs.Common.{◌≤◌, ◌-◌, length, take}
use Rattle.gz_journal.specs.JournalList.{end_of}
use Rattle.gz_journal.specs.Places.{entries_of}
use Rattle.gz_journal.proofs.journal.count_before.Given as goal

abbrev pub invariant-halves : goal.invariant-halves
invariant-halves l = (l.low ≤ l.high) × (l.high ≤ length l.placed) × (end_of (take l.low (entries_of l.placed)) ≤ l.offset)

abbrev pub decreases-halves : goal.decreases-halves
decreases-halves l = l.high - l.low
