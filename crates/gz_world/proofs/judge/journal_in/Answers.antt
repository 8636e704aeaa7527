use Rattle.gz_world.proofs.Entries.{entries_at_place, no_entries_at_place}
use Rattle.gz_world.proofs.judge.journal_in.Goals as goal

pub returns-in_err-journal : goal.returns-in_err-journal
returns-in_err-journal c =
    rw c.from_residual.ensures (no_entries_at_place _ _ _ _ c.journals.ensures c.place_of.ensures c.in_err-journal.ensures.lookup.3)

pub returns : goal.returns
returns c = entries_at_place _ _ _ _ _ c.journals.ensures c.place_of.ensures c.in_ok-journal.ensures.lookup.3.0 c.in_ok-journal.ensures.lookup.3.1
