use Rattle.std.proofs.Common.{◌≡◌, drop}
use Rattle.gz_spelling.specs.Table.{kind_tagged}
use Rattle.gz_spelling.proofs.table.Table.kind.Given as goal

abbrev pub invariant-loop-row : goal.invariant-loop-row
invariant-loop-row g l = kind_tagged l.tag (drop l.row-index l.row-items) ≡ kind_tagged l.tag l.self.rows
