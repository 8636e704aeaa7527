use Rattle.std.proofs.Common.{◌≡◌, ◌++◌, drop, map}
use Rattle.std.specs.Prelude.{filter_map}
use Rattle.gz_converge.specs.Views.{row_of, journal_in}
use Rattle.gz_converge.proofs.read.journals_in.Given as goal

abbrev pub invariant-loop-row : goal.invariant-loop-row
invariant-loop-row l = l.journals.items ++ filter_map (journal_in l.keys.keys) (map (λ row. row_of row.0.now row.1.now row.2) (drop l.row-index l.rows)) ≡ filter_map (journal_in l.keys.keys) (map (λ row. row_of row.0.now row.1.now row.2) l.rows)
