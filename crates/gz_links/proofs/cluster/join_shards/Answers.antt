use Rattle.std.proofs.Common.{codes}
use Rattle.gz_links.proofs.Joining.{shards_joined}
use Rattle.gz_links.proofs.cluster.join_shards.Goals as goal

pub returns-clause-valid : goal.returns-clause-valid
returns-clause-valid c =
    shards_joined c.args.old.now c.args.more.now c.of-shards.result (codes "shards") c.in_ok-refuse_more.field-0
    (rw (c.of-shards.ensures, ← c.as_slice.ensures, ← c.as_slice-2.ensures, ← c.in_ok-here.ensures, ← c.in_ok-there.ensures) c.in_ok-both.ensures)
    (rw (← c.as_slice-3.ensures) c.in_ok-refuse_more.ensures)
    c.requires.old c.requires.more
