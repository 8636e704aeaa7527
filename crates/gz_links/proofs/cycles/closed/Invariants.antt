use Rattle.std.proofs.Common.{◌≡◌}
use Rattle.gz_links.specs.Cycles.{closed}
use Rattle.gz_links.proofs.cycles.closed.Given as goal

abbrev pub invariant-loop-m : goal.invariant-loop-m
invariant-loop-m l = l.rows ≡ closed l.m l.fn.fed
