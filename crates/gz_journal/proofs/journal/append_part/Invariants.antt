use Rattle.std.proofs.Common.{◌≡◌, ◌++◌, drop}
use Rattle.gz_journal.specs.JournalList.{part_of}
use Rattle.gz_journal.specs.Places.{entries_of}
use Rattle.gz_journal.proofs.journal.append_part.Given as goal

abbrev pub invariant-loop-one : goal.invariant-loop-one
invariant-loop-one l =
    l.out ++ part_of l.before l.room (entries_of (drop l.one-index l.placed)) ≡ l.fn.out ++ part_of l.skip l.limit (entries_of l.placed)
