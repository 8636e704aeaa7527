use Rattle.std.proofs.Common.{arith}
use Rattle.gz_fields.specs.Names.{is_id}
use Rattle.gz_converge.proofs.Forms.{left, short_id}
use Rattle.gz_converge.proofs.read.assign_key.Goals as goal

pub key_of-requires : goal.key_of-requires
key_of-requires c =
    let short = short_id c.shard.inside.id (left (is_id c.shard.inside.id) _ c.shard.invariant) in
    omega (arith, short)
