use Rattle.std.proofs.Common.{◌≡◌, ◌++◌}
use Rattle.gz_plain.specs.Runs.{all_empty}
use Rattle.gz_plain.proofs.begin.add_journals.Given as goal

abbrev pub invariant-loop-name : goal.invariant-loop-name
invariant-loop-name l = l.journals ++ all_empty l.name-iterator.rest.items ≡ l.fn.journals ++ all_empty l.fn.names.items
