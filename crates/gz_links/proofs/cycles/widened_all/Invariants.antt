use Rattle.std.proofs.Common.{◌≡◌, ◌++◌, drop, map}
use Rattle.gz_links.specs.Cycles.{widened}
use Rattle.gz_links.proofs.cycles.widened_all.Given as goal

abbrev pub invariant-loop-row : goal.invariant-loop-row
invariant-loop-row l = l.wider.items ++ map (widened l.m l.pivot) (drop l.row-index l.rows) ≡ map (widened l.m l.pivot) l.rows
