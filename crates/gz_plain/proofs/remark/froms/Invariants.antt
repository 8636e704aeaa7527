use Rattle.std.proofs.Common.{◌≡◌, ◌++◌, drop, map}
use Rattle.gz_plain.specs.Seen.{source_of}
use Rattle.gz_promise.specs.Sources.{froms_of}
use Rattle.gz_plain.proofs.remark.froms.Given as goal

abbrev pub invariant-loop-reader : goal.invariant-loop-reader
invariant-loop-reader l = l.froms.items ++ froms_of (map source_of (drop l.reader-index l.readers)) ≡ froms_of (map source_of l.readers)
