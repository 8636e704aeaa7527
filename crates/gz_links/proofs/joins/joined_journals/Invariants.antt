use Rattle.std.proofs.Common.{◌≡◌, ◌++◌, drop, filter}
use Rattle.gz_spec.specs.Specs.{name_of_journal}
use Rattle.gz_links.specs.Joins.{is_new, joined}
use Rattle.gz_links.proofs.joins.joined_journals.Given as goal

abbrev pub invariant-loop-journal : goal.invariant-loop-journal
invariant-loop-journal l = l.journals.items ++ filter (is_new name_of_journal l.old) (drop l.journal-index l.more) ≡ joined name_of_journal l.old l.more
