use Rattle.std.proofs.Common.{◌≡◌, ◌+◌, drop}
use Rattle.gz_keyspace.specs.Space.{revision_of}
use Rattle.gz_registry.specs.Registered.{each_written}
use Rattle.gz_registry.proofs.space.write_each.Given as goal

abbrev pub invariant-loop-write : goal.invariant-loop-write
invariant-loop-write l = record {
  rest : each_written (drop l.write-index l.writes) l.keys ≡ each_written l.writes l.fn.keys;
  count : revision_of l.keys.changes ≡ revision_of l.fn.keys.changes + l.write-index;
}
