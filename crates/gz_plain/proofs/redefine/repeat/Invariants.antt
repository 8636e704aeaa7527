use Rattle.std.proofs.Common.{◌≡◌, replicate}
use Rattle.gz_plain.proofs.redefine.repeat.Given as goal

abbrev pub invariant-loop-i : goal.invariant-loop-i
invariant-loop-i l = l.commits.items ≡ replicate l._i l.offsets
