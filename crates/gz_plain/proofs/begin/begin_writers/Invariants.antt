use Rattle.std.proofs.Common.{◌≡◌, ◌++◌, map}
use Rattle.gz_plain.specs.Cluster.{writer_at}
use Rattle.gz_plain.proofs.begin.begin_writers.Given as goal

abbrev pub invariant-loop-journal : goal.invariant-loop-journal
invariant-loop-journal l = l.writers.items ++ map (writer_at l.journals) l.journal-iterator.rest.items ≡ map (writer_at l.journals) l.fn.outputs.items
