use Rattle.std.proofs.Common.{◌≡◌, ◌-◌, length, map, take}
use Rattle.gz_converge.specs.Views.{row_of}
use Rattle.gz_converge.proofs.read.rows_of.Given as goal

abbrev pub invariant-loop-row : goal.invariant-loop-row
invariant-loop-row l = map (λ row. row_of row.0.now row.1.now row.2) l.rows.items ≡ take (length l.rows.items) l.keys.keys

abbrev pub decreases-loop-row : goal.decreases-loop-row
decreases-loop-row l = length l.keys.keys - length l.rows.items
