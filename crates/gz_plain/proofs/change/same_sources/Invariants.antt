use Rattle.std.proofs.Common.{◌≡◌, drop, map}
use Rattle.gz_plain.specs.Cluster.{source_named}
use Rattle.gz_plain.specs.Definitions.{same_sources}
use Rattle.gz_plain.specs.Seen.{source_of}
use Rattle.gz_plain.proofs.change.same_sources.Given as goal

abbrev pub invariant-loop-i : goal.invariant-loop-i
invariant-loop-i l =
    same_sources (map source_named (drop l.i l.sources)) (map source_of (drop l.i l.readers)) ≡ same_sources (map source_named l.sources) (map source_of l.readers)
