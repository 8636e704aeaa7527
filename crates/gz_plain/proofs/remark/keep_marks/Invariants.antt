use Rattle.std.proofs.Common.{◌≡◌, ◌++◌, drop, filter, map, not}
use Rattle.gz_plain.specs.Definitions.{is_read}
use Rattle.gz_plain.specs.Seen.{source_of}
use Rattle.gz_plain.proofs.remark.keep_marks.Given as goal

abbrev pub invariant-loop-mark : goal.invariant-loop-mark
invariant-loop-mark l =
    l.marks.items ++ filter (λ m. not (is_read m.journal (map source_of l.readers))) (drop l.mark-index l.earlier)
    ≡ l.initial.marks.items ++ filter (λ m. not (is_read m.journal (map source_of l.readers))) l.earlier
