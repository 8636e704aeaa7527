use Rattle.std.proofs.Common.{codes}
use Rattle.gz_links.proofs.Joining.{journals_joined}
use Rattle.gz_links.proofs.cluster.join_journals.Goals as goal

pub returns-clause-valid : goal.returns-clause-valid
returns-clause-valid c =
    journals_joined c.args.old.now c.args.more.now c.of-journals.result (codes "journals") c.in_ok-refuse_more.field-0
    (rw (c.of-journals.ensures, ← c.as_slice.ensures, ← c.as_slice-2.ensures, ← c.in_ok-here.ensures, ← c.in_ok-there.ensures) c.in_ok-both.ensures)
    (rw (← c.as_slice-3.ensures) c.in_ok-refuse_more.ensures)
    c.requires.old c.requires.more
