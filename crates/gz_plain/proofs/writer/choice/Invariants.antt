use Rattle.std.proofs.Common.{◌≡◌, ◌≤◌, ◌+◌, ◌*◌, drop, sum}
use Rattle.gz_plain.proofs.writer.choice.Given as goal

abbrev pub invariant-loop-byte : goal.invariant-loop-byte
invariant-loop-byte l = (l.total + sum (drop l.byte-index l.key) ≡ sum l.key) × (l.total ≤ 255 * l.byte-index)
