use Rattle.std.proofs.Common.{◌≡◌, ◌++◌, drop, map}
use Rattle.gz_plain.specs.Definitions.{marked}
use Rattle.gz_plain.specs.Seen.{source_of}
use Rattle.gz_plain.proofs.remark.mark_all.Given as goal

abbrev pub invariant-loop-i : goal.invariant-loop-i
invariant-loop-i l =
    l.marks.items ++ marked (map source_of (drop l.i l.readers)) (drop l.i l.offsets) ≡ l.initial.marks.items ++ marked (map source_of l.readers) l.offsets
