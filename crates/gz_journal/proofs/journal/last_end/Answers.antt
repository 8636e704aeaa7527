use Rattle.gz_journal.proofs.Ends.{ends_last}
use Rattle.gz_journal.proofs.journal.last_end.Goals as goal

pub returns : goal.returns
returns c = ends_last c.args.placed.now c.index-placed-placed.result c.requires (omega Rattle.std.proofs.Common.arith)
