-- A cluster's key space with everyone who ever joined, and what its calls do.
use Rattle.std.specs.Prelude.{◌≡◌, ℕ, ◌++◌, List, [], ◌∷◌, length, map, ⊤, Bool, false, Option, Some, None, is_some, Result, Ok, Err, if◌then◌else◌, nat_le}
use Rattle.gz_label.specs.declared.keys.Change.{Change}
use Rattle.gz_label.specs.declared.keys.Compare.{Compare}
use Rattle.gz_label.specs.declared.keys.KeyWrite.{KeyWrite}
use Rattle.gz_spec.specs.Limits.{max_members}
use Rattle.gz_spec.specs.Records.{Specs}
use Rattle.gz_keyspace.specs.declared.error.KeyError.{KeyError}
use Rattle.gz_keyspace.specs.declared.formats.Joined.{Joined}
use Rattle.gz_keyspace.specs.Formats.{member_text}
use Rattle.gz_keyspace.specs.Keys.{same_key, held_at, keys_after}
use Rattle.gz_keyspace.specs.Space.{Space, revision_of, next_revision, made_revision, txn_answer, after_txn, after_grant, key_of_lease, after_expire}
use Rattle.gz_registry.specs.declared.error.RegistryError.{RegistryError}
use Rattle.gz_registry.specs.declared.error.RegistryError.TheVariants.{MembersFull, NoMember, KeysEnd}
use Rattle.gz_registry.specs.Keys.{member_key, writes_of, members_of}

-- someone who joined, with the lease of the grant
pub record Member : Type 0 where
  pub id : List ℕ
  pub lease : ℕ

-- a key space, and everyone who ever joined, in the order in which they did
pub record Registered : Type 0 where
  pub keys : Space
  pub members : List Member

-- ---- members

-- the lease that the one of this name joined with
abbrev pub lease_of : List ℕ → List Member → Option ℕ
lease_of name [] = None
lease_of name (m ∷ ms) = if same_key name m.id then Some m.lease else lease_of name ms

-- whether one of this name ever joined
abbrev pub was_member : List ℕ → List Member → Bool
was_member name members = is_some (lease_of name members)

-- ---- answers

-- the answer of the key space, which refuses a change at its last revision alone
abbrev pub key_answer : Result ℕ KeyError → Result ℕ RegistryError
key_answer (Ok revision) = Ok revision
key_answer (Err e) = Err KeysEnd

-- the answer to a part of specifications: the new revision, or the old one where it names nothing
abbrev pub put_answer : Specs → Registered → Result ℕ RegistryError
put_answer part r = key_answer (made_revision (writes_of part) r.keys.changes)

-- the answer to one who joins: the lease. As many as a cluster may have ever join.
abbrev pub join_answer : Registered → Result ℕ RegistryError
join_answer r = if nat_le max_members (length r.members) then Err MembersFull else key_answer (next_revision r.keys.changes)

-- the answer where this key of a live lease is to be deleted
abbrev pub ended_answer : Option (List ℕ) → List Change → Result ℕ RegistryError
ended_answer None changes = Err NoMember
ended_answer (Some key) changes = key_answer (next_revision changes)

abbrev pub lease_answer : Option ℕ → Space → Result ℕ RegistryError
lease_answer None keys = Err NoMember
lease_answer (Some lease) keys = ended_answer (key_of_lease lease keys.leases) keys.changes

-- the answer where the lease of one of this name is to end: the new revision
abbrev pub expire_answer : List ℕ → Registered → Result ℕ RegistryError
expire_answer name r = lease_answer (lease_of name r.members) r.keys

-- ---- what comes after

-- after a part of specifications, in one transaction
abbrev pub after_put : Specs → Registered → Registered
after_put part r = record { keys = after_txn (writes_of part) r.keys; members = r.members }

-- the key space after a transaction of one write, by what was answered to it
abbrev pub written_if : Result ℕ KeyError → KeyWrite → Space → Space
written_if (Ok revision) write keys = after_txn (write ∷ []) keys
written_if (Err e) write keys = keys

-- after a transaction of one compare and one write, which is made where the compare holds and the revision isn't at its end
abbrev pub after_try : Compare → KeyWrite → Registered → Registered
after_try compare write r = record { keys = written_if (txn_answer (compare ∷ []) (write ∷ []) r.keys) write r.keys; members = r.members }

-- after one has joined, by a grant
abbrev pub after_join : Joined → Registered → Registered
after_join j r =
    let keys = after_grant (member_key j.spec.id) (member_text j) r.keys in
    record { keys = keys; members = r.members ++ record { id = j.spec.id; lease = revision_of keys.changes } ∷ [] }

-- the key space after the lease has ended
abbrev pub after_lease : Option ℕ → Space → Space
after_lease None keys = keys
after_lease (Some lease) keys = after_expire lease keys

-- after the lease of one of this name has ended. It stays one who joined.
abbrev pub after_expiry : List ℕ → Registered → Registered
after_expiry name r = record { keys = after_lease (lease_of name r.members) r.keys; members = r.members }

-- ---- the start

-- the key space after these writes, each in a transaction of its own
abbrev pub each_written : List KeyWrite → Space → Space
each_written [] keys = keys
each_written (w ∷ ws) keys = each_written ws (after_txn (w ∷ []) keys)

-- after these have joined, one after another
abbrev pub each_joined : List Joined → Registered → Registered
each_joined [] r = r
each_joined (j ∷ js) r = each_joined js (after_join j r)

-- what a cluster of these specifications starts with
abbrev pub registry_start : Specs → Registered
registry_start specs = each_joined (members_of specs) (record { keys = each_written (writes_of specs) (record { changes = []; leases = [] }); members = [] })

-- ---- what holds at each time

-- the write is of no member's key
abbrev pub IsOfNoMember : KeyWrite → Type 0
IsOfNoMember write = (id : List ℕ) → same_key write.key (member_key id) ≡ false

-- a member's key is there only where one of its name has joined
abbrev pub OnlyMembers : Registered → Type 0
OnlyMembers r = (id : List ℕ) → was_member id r.members ≡ false → held_at (member_key id) (keys_after r.keys.changes) ≡ None

-- the member of an entry, which is a name and a lease
abbrev pub member_in : List ℕ × ℕ → Member
member_in entry = record { id = entry.0; lease = entry.1 }

abbrev pub members_in : List (List ℕ × ℕ) → List Member
members_in entries = map member_in entries

-- the registry of these keys and these entries
abbrev pub seen : Space → List (List ℕ × ℕ) → Registered
seen keys entries = record { keys = keys; members = members_in entries }

-- the members are of different names
abbrev pub IsApart : List ℕ → List Joined → Type 0
IsApart name [] = ⊤
IsApart name (j ∷ js) = (same_key name j.spec.id ≡ false) × IsApart name js

-- these are to join: their names differ from each other, and from those of all who did
abbrev pub AreNew : List Joined → List Member → Type 0
AreNew [] members = ⊤
AreNew (j ∷ js) members = (was_member j.spec.id members ≡ false) × IsApart j.spec.id js × AreNew js members
