use Rattle.std.proofs.Common.{◌≡◌, ◌++◌, drop, map}
use Rattle.gz_spec.specs.Specs.{name_of_journal}
use Rattle.gz_links.specs.Joins.{replaced}
use Rattle.gz_links.proofs.joins.replaced_journals.Given as goal

abbrev pub invariant-loop-journal : goal.invariant-loop-journal
invariant-loop-journal l = l.journals.items ++ map (replaced name_of_journal l.more) (drop l.journal-index l.old) ≡ map (replaced name_of_journal l.more) l.old
