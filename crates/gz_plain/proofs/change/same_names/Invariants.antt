use Rattle.std.proofs.Common.{◌≡◌, drop, map}
use Rattle.gz_plain.specs.Definitions.{same_names}
use Rattle.gz_plain.specs.Seen.{name_of}
use Rattle.gz_plain.proofs.change.same_names.Given as goal

abbrev pub invariant-loop-i : goal.invariant-loop-i
invariant-loop-i l =
    same_names (drop l.i l.names) (map name_of (drop l.i l.writers)) ≡ same_names l.names (map name_of l.writers)
