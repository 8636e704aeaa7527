use Rattle.std.proofs.Common.{◌≡◌, ◌++◌, drop, map, true}
use Rattle.gz_spec.specs.Specs.{name_of_journal}
use Rattle.gz_spec.specs.Valid.{are_fresh}
use Rattle.gz_links.proofs.by_name.names_of.Given as goal

abbrev pub invariant-loop-journal : goal.invariant-loop-journal
invariant-loop-journal l =
    (are_fresh name_of_journal l.names.keys (drop l.journal-index l.journals) ≡ true)
    × (l.names.keys ++ map name_of_journal (drop l.journal-index l.journals) ≡ map name_of_journal l.journals)
