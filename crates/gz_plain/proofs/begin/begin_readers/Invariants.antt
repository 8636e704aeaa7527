use Rattle.std.proofs.Common.{◌≡◌, ◌++◌, map}
use Rattle.gz_plain.specs.Cluster.{reader_at}
use Rattle.gz_plain.proofs.begin.begin_readers.Given as goal

abbrev pub invariant-loop-source : goal.invariant-loop-source
invariant-loop-source l = l.readers.items ++ map (reader_at l.journals) l.source-iterator.rest.items ≡ map (reader_at l.journals) l.fn.sources.items
