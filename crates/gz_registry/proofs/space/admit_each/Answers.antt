use Rattle.gz_keyspace.specs.Space.{revision_of}
use Rattle.gz_registry.specs.Registered.{seen}
use Rattle.gz_registry.proofs.Starts.{has_joined}
use Rattle.gz_registry.proofs.space.admit_each.Goals as goal

pub loop-one-preserved : goal.loop-one-preserved
loop-one-preserved c =
    let i = c.loop-one.invariant in
    let next = has_joined c.args.joined.now c.loop-one.one-index (revision_of c.args.keys.now.changes) c.one-item.result (seen c.loop-one.keys c.loop-one.members.entries)
    (seen c.admit_one.new.keys c.admit_one.new.members.entries) _ c.loop-one-test.true c.one-item.is c.in_ok-admit_one.ensures i.value i.new i.only i.count in
    record { value = next.0; new = next.1.0; only = next.1.1.0; count = next.1.1.1 }
