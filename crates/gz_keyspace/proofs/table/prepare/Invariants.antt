use Rattle.std.proofs.Common.{◌≡◌, ◌++◌, drop}
use Rattle.gz_keyspace.specs.Table.{prepared_of}
use Rattle.gz_keyspace.proofs.table.prepare.Given as goal

abbrev pub invariant-loop-write : goal.invariant-loop-write
invariant-loop-write l = l.prepared.items ++ prepared_of l.revision (drop l.write-index l.writes) ≡ prepared_of l.revision l.writes
