use Rattle.gz_spec.proofs.Readable.{journal_at_good}
use Rattle.gz_spec.proofs.journal.read_journal.Goals as goal

pub returns-clause-valid : goal.returns-clause-valid
returns-clause-valid c = journal_at_good _ _ _ c.in_ok-journal.ensures
