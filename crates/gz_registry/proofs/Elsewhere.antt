-- Specifications write no member's key.
use Rattle.std.proofs.Common.{◌≡◌, ℕ, List, [], ◌∷◌, map, refl}
use Rattle.gz_label.specs.declared.keys.KeyWrite.{KeyWrite}
use Rattle.gz_spec.specs.Records.{JournalSpec, ShardSpec, Specs}
use Rattle.gz_keyspace.specs.Space.{Space, after_txn}
use Rattle.gz_registry.specs.Keys.{member_key, journal_write, shard_write, in_order, writes_of}
use Rattle.gz_registry.specs.Registered.{Member, OnlyMembers}
use Rattle.gz_registry.proofs.Orders.{Each, Values, each_in_order, each_append}
use Rattle.gz_registry.proofs.Members.{IsElsewhere, only_after_txn}

journals_elsewhere : (id : List ℕ) (js : List JournalSpec) → Values (IsElsewhere (member_key id)) (map journal_write js)
journals_elsewhere id [] = tt
journals_elsewhere id (j ∷ js) = (refl, journals_elsewhere id js)

shards_elsewhere : (id : List ℕ) (ss : List ShardSpec) → Values (IsElsewhere (member_key id)) (map shard_write ss)
shards_elsewhere id [] = tt
shards_elsewhere id (s ∷ ss) = (refl, shards_elsewhere id ss)

pub writes_elsewhere : (specs : Specs) (id : List ℕ) → Each (IsElsewhere (member_key id)) (writes_of specs)
writes_elsewhere specs id =
    each_append (IsElsewhere (member_key id)) (in_order (map journal_write specs.journals)) (in_order (map shard_write specs.shards))
    (each_in_order (IsElsewhere (member_key id)) (map journal_write specs.journals) (journals_elsewhere id specs.journals))
    (each_in_order (IsElsewhere (member_key id)) (map shard_write specs.shards) (shards_elsewhere id specs.shards))

-- a part of specifications keeps it so that only members have members' keys
pub only_after_put : (specs : Specs) (keys : Space) (members : List Member) → OnlyMembers (record { keys = keys; members = members })
    → OnlyMembers (record { keys = after_txn (writes_of specs) keys; members = members })
only_after_put specs keys members only = only_after_txn (writes_of specs) keys members (writes_elsewhere specs) only

pub only_put : (specs : Specs) (ws : List KeyWrite) (keys new : Space) (members : List Member) → new ≡ after_txn ws keys → ws ≡ writes_of specs → OnlyMembers (record { keys = keys; members = members })
    → OnlyMembers (record { keys = new; members = members })
only_put specs ws keys new members new_is ws_is only = rw (new_is, ws_is) (only_after_put specs keys members only)
