use Rattle.std.proofs.Common.{◌≡◌, take}
use Rattle.gz_keyspace.proofs.rows.copy_rows.Given as goal

abbrev pub invariant-loop-place : goal.invariant-loop-place
invariant-loop-place l = l.rows.items ≡ take l.place l.table.entries
