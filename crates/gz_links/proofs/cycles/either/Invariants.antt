use Rattle.std.proofs.Common.{◌≡◌, ◌++◌, drop}
use Rattle.gz_links.specs.Cycles.{either}
use Rattle.gz_links.proofs.cycles.either.Given as goal

abbrev pub invariant-loop-i : goal.invariant-loop-i
invariant-loop-i l = l.bits.items ++ either (drop l.i l.row) (drop l.i l.other) ≡ either l.row l.other
