use Rattle.std.proofs.Common.{◌≡◌, drop, map}
use Rattle.gz_plain.specs.Definitions.{is_read}
use Rattle.gz_plain.specs.Seen.{source_of}
use Rattle.gz_plain.proofs.remark.is_read.Given as goal

abbrev pub invariant-loop-reader : goal.invariant-loop-reader
invariant-loop-reader l = is_read l.journal (map source_of (drop l.reader-index l.readers)) ≡ is_read l.journal (map source_of l.readers)
