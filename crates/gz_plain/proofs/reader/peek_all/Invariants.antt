use Rattle.std.proofs.Common.{◌≡◌, ◌++◌, drop}
use Rattle.gz_plain.specs.Readers.{AreRead, all_news}
use Rattle.gz_plain.proofs.reader.peek_all.Given as goal

abbrev pub invariant-loop-reader : goal.invariant-loop-reader
invariant-loop-reader l =
    AreRead l.journals (drop l.reader-index l.readers) × (l.messages ++ all_news l.journals (drop l.reader-index l.readers) ≡ all_news l.journals l.readers)
