use Rattle.std.proofs.Common.{◌≡◌, ◌++◌, drop}
use Rattle.gz_plain.proofs.remark.copy_marks.Given as goal

abbrev pub invariant-loop-mark : goal.invariant-loop-mark
invariant-loop-mark l = l.marks.items ++ drop l.mark-index l.earlier ≡ l.earlier
