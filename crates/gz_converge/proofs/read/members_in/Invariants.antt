use Rattle.std.proofs.Common.{◌≡◌, ◌++◌, drop, map}
use Rattle.std.specs.Prelude.{filter_map}
use Rattle.gz_converge.specs.Views.{row_of, member_in}
use Rattle.gz_converge.proofs.read.members_in.Given as goal

abbrev pub invariant-loop-row : goal.invariant-loop-row
invariant-loop-row l = l.members.items ++ filter_map member_in (map (λ row. row_of row.0.now row.1.now row.2) (drop l.row-index l.rows)) ≡ filter_map member_in (map (λ row. row_of row.0.now row.1.now row.2) l.rows)
