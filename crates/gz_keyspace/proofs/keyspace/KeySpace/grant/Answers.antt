use Rattle.indexmap.specs.IndexMap.{get}
use Rattle.gz_keyspace.specs.Keys.{same_key}
use Rattle.gz_keyspace.proofs.SpaceLemmas.{kept, lease_gone_after}
use Rattle.gz_keyspace.proofs.keyspace.KeySpace.grant.Goals as goal

pub invariant_of-self-2 : goal.invariant_of-self-2
invariant_of-self-2 c =
    kept c.self.inside.tables.changes.items c.commit.new.self.changes.items _
    (λ key. get same_key c.self.inside.tables.keys key) (λ key. get same_key c.commit.new.self.keys key) _
    c.self.invariant c.in_ok-lease.ensures.answer c.in_ok-lease.ensures.changes c.in_ok-lease.ensures.keys

pub add_lease-requires-clause-absent : goal.add_lease-requires-clause-absent
add_lease-requires-clause-absent c =
    lease_gone_after c.args.key c.in_ok-kept.kept _ c.in_ok-writes.writes c.self.inside.tables.leases.entries c.reserve.new.self.entries c.commit.new.self.leases.entries
    c.len-count.ensures.unique c.in_ok-kept.ensures c.in_ok-writes.ensures c.reserve.ensures.entries c.in_ok-lease.ensures.leases
