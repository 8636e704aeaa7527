use Rattle.std.proofs.Common.{◌<◌, length, arith}
use Rattle.std.specs.Prelude.{filter_map}
use Rattle.gz_converge.specs.Converged.{journal_txn}
use Rattle.gz_converge.proofs.Reading.{found_next}
use Rattle.gz_converge.proofs.answer.journal_txns.Goals as goal

pub loop-journal-preserved : goal.loop-journal-preserved
loop-journal-preserved c =
    let within : c.loop-journal.journal-index < length c.args.journals.now = omega arith in
    found_next (journal_txn c.args.members.now c.args.placed.now) c.args.journals.now c.loop-journal.journal-index c.journal-item.result c.loop-journal.txns.items (filter_map (journal_txn c.args.members.now c.args.placed.now) c.args.journals.now) c.push_journal_txn.new.txns.items within
    c.journal-item.is c.loop-journal.invariant c.in_ok-push_journal_txn.ensures
