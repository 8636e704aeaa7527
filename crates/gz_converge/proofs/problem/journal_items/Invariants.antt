use Rattle.std.proofs.Common.{◌≡◌, ◌++◌, drop, map}
use Rattle.gz_converge.specs.Converged.{journal_item}
use Rattle.gz_converge.proofs.problem.journal_items.Given as goal

abbrev pub invariant-loop-journal : goal.invariant-loop-journal
invariant-loop-journal l = l.items.items ++ map journal_item (drop l.journal-index l.journals) ≡ map journal_item l.journals
