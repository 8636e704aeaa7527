use Rattle.std.proofs.Common.{◌≡◌, ◌++◌, ◌-◌, take, drop, length}
use Rattle.gz_journal.specs.JournalList.{text_of}
use Rattle.gz_brokering.proofs.content.part_of.Given as goal

abbrev pub invariant-entries : goal.invariant-entries
invariant-entries l = l.bytes ++ take l.left.room (drop l.left.skip (text_of (drop l.place l.spool.image.entries))) ≡ take l.fn.count (drop l.fn.skip (text_of l.spool.image.entries))

abbrev pub decreases-entries : goal.decreases-entries
decreases-entries l = length l.spool.image.entries - l.place
