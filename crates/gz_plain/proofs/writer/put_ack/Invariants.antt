use Rattle.std.proofs.Common.{◌≡◌, ◌++◌, take, drop, map}
use Rattle.gz_plain.specs.Places.{ended}
use Rattle.gz_plain.proofs.writer.put_ack.Given as goal

abbrev pub invariant-loop-i : goal.invariant-loop-i
invariant-loop-i l = l.texts ≡ map (ended l.line) (take l.i l.initial.texts) ++ drop l.i l.initial.texts
