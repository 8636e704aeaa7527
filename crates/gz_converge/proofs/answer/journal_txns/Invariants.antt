use Rattle.std.proofs.Common.{◌≡◌, ◌++◌, drop}
use Rattle.std.specs.Prelude.{filter_map}
use Rattle.gz_converge.specs.Converged.{journal_txn}
use Rattle.gz_converge.proofs.answer.journal_txns.Given as goal

abbrev pub invariant-loop-journal : goal.invariant-loop-journal
invariant-loop-journal l = l.txns.items ++ filter_map (journal_txn l.members l.placed) (drop l.journal-index l.journals) ≡ filter_map (journal_txn l.members l.placed) l.journals
