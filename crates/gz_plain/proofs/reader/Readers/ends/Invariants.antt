use Rattle.std.proofs.Common.{◌≡◌, ◌++◌, map, drop}
use Rattle.gz_plain.specs.Readers.{HaveRoom, end_of_reader}
use Rattle.gz_plain.proofs.reader.Readers.ends.Given as goal

abbrev pub invariant-loop-reader : goal.invariant-loop-reader
invariant-loop-reader l =
    (l.ends.items ++ map end_of_reader (drop l.reader-index l.self) ≡ map end_of_reader l.self) × HaveRoom (drop l.reader-index l.self)
