use Rattle.std.proofs.Common.{◌≡◌, ◌++◌}
use Rattle.gz_plain.specs.Readers.{accepted_all}
use Rattle.gz_plain.proofs.reader.Readers.accept.Given as goal

abbrev pub invariant-loop-reader : goal.invariant-loop-reader
invariant-loop-reader l = l.readers.items ++ accepted_all l.reader-iterator.rest.items ≡ accepted_all l.fn.self
