use Rattle.std.proofs.Common.{◌≡◌, ◌++◌, drop, map}
use Rattle.gz_spec.specs.Specs.{name_of_journal}
use Rattle.gz_world.proofs.start.names.Given as goal

abbrev pub invariant-loop-journal : goal.invariant-loop-journal
invariant-loop-journal l = l.names.items ++ map name_of_journal (drop l.journal-index l.journals) ≡ map name_of_journal l.journals
