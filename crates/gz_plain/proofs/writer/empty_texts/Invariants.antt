use Rattle.std.proofs.Common.{◌≡◌, [], replicate}
use Rattle.gz_plain.proofs.writer.empty_texts.Given as goal

abbrev pub invariant-loop-i : goal.invariant-loop-i
invariant-loop-i l = l.texts.items ≡ replicate l._i []
