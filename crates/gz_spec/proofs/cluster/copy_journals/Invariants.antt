use Rattle.std.proofs.Common.{◌≡◌, take}
use Rattle.gz_spec.proofs.cluster.copy_journals.Given as goal

abbrev pub invariant-loop-journal : goal.invariant-loop-journal
invariant-loop-journal l = l.copied.items ≡ take l.journal-index l.journals
