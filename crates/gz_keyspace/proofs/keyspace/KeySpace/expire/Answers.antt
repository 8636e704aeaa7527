use Rattle.indexmap.specs.IndexMap.{get}
use Rattle.gz_keyspace.specs.Keys.{same_key}
use Rattle.gz_keyspace.proofs.SpaceLemmas.{kept}
use Rattle.gz_keyspace.proofs.keyspace.KeySpace.expire.Goals as goal

pub invariant_of-self-2 : goal.invariant_of-self-2
invariant_of-self-2 c =
    kept c.self.inside.tables.changes.items c.commit.new.self.changes.items _
    (λ key. get same_key c.self.inside.tables.keys key) (λ key. get same_key c.commit.new.self.keys key) _
    c.self.invariant c.in_ok-revision.ensures.answer c.in_ok-revision.ensures.changes c.in_ok-revision.ensures.keys
