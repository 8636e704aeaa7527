use Rattle.std.proofs.Common.{◌≡◌, ◌++◌}
use Rattle.gz_plain.specs.Readers.{AreRead, HaveRoom, accepted_all, all_news, reading_all}
use Rattle.gz_plain.proofs.reader.Readers.read_on.Given as goal

abbrev pub invariant-loop-reader : goal.invariant-loop-reader
invariant-loop-reader l =
    AreRead l.journals l.reader-iterator.rest.items
    × (l.readers.items ++ reading_all l.journals l.reader-iterator.rest.items ≡ reading_all l.journals l.fn.self)
    × (l.messages ++ all_news l.journals l.reader-iterator.rest.items ≡ l.fn.messages ++ all_news l.journals l.fn.self)
    × HaveRoom (accepted_all l.readers.items)
