use Rattle.std.proofs.Common.{arith}
use Rattle.gz_fields.specs.Names.{is_journal_name}
use Rattle.gz_converge.proofs.Forms.{left, short_name}
use Rattle.gz_converge.proofs.read.route_key.Goals as goal

pub key_of-requires : goal.key_of-requires
key_of-requires c =
    let short = short_name c.journal.inside.name (left (is_journal_name c.journal.inside.name) _ c.journal.invariant) in
    omega (arith, short)
