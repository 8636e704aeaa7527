use Rattle.std.proofs.Common.{◌≡◌, drop}
use Rattle.gz_plain.specs.Definitions.{mark_or}
use Rattle.gz_plain.proofs.remark.mark_or.Given as goal

abbrev pub invariant-loop-mark : goal.invariant-loop-mark
invariant-loop-mark l = mark_or l.from l.journal (drop l.mark-index l.marks) ≡ mark_or l.from l.journal l.marks
