use Rattle.gz_print.proofs.SpecsBack.{journal_back}
use Rattle.gz_print.proofs.print.print_journal.Goals as goal

pub returns-clause-reads_back : goal.returns-clause-reads_back
returns-clause-reads_back c =
    journal_back c.args.journal.now _ _ c.in_ok-value.ensures c.in_ok-text.ensures.reads_back (rw (← c.journal.view_is) c.journal.invariant)
