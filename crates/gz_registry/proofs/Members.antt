-- Everyone who ever joined.
use Rattle.std.proofs.Common.{◌≡◌, ℕ, ◌+◌, List, [], ◌∷◌, ◌++◌, cond, refl, ap, sym, ◌∙◌, Bool, true, false, Option, Some, None, Result, Ok, Err, subst, is_some}
use Rattle.std.specs.Map.{lookup}
use Rattle.gz_label.specs.declared.keys.KeyWrite.{KeyWrite}
use Rattle.gz_label.specs.declared.keys.Change.{Change}
use Rattle.gz_label.specs.declared.keys.Compare.{Compare}
use Rattle.gz_keyspace.specs.declared.error.KeyError.{KeyError}
use Rattle.gz_keyspace.specs.declared.table.Held.{Held}
use Rattle.gz_keyspace.specs.declared.formats.Joined.{Joined}
use Rattle.gz_keyspace.specs.Formats.{member_text}
use Rattle.gz_keyspace.specs.Keys.{same_key, held_at, keys_after}
use Rattle.gz_keyspace.specs.Table.{puts, prepared_of, prepared_value}
use Rattle.gz_keyspace.specs.Space.{Space, revision_of, with_change, put_of, delete_of, txn_answer, after_txn, after_grant, after_expire, key_of_lease}
use Rattle.gz_keyspace.proofs.KeyLemmas.{one_more, same_laws}
use Rattle.gz_registry.specs.declared.error.RegistryError.TheVariants.{NoMember}
use Rattle.gz_registry.specs.Keys.{member_key}
use Rattle.gz_registry.specs.Registered.{Member, Registered, lease_of, lease_answer, ended_answer, expire_answer, after_lease, after_expiry, each_written, was_member, member_in, members_in, seen, after_join, written_if, IsOfNoMember, OnlyMembers}
use Rattle.gz_registry.proofs.Orders.{Each}

-- ---- leases by names

pub lease_is : (name : List ℕ) (entries : List (List ℕ × ℕ)) → lease_of name (members_in entries) ≡ lookup (same_key name) entries
lease_is name [] = refl
lease_is name (e ∷ es) = ap (λ (o : Option ℕ). cond (same_key name e.0) (Some e.1) o) (lease_is name es)

pub was_in : (name : List ℕ) (entries : List (List ℕ × ℕ)) → is_some (lookup (same_key name) entries) ≡ was_member name (members_in entries)
was_in name entries = ap (λ (o : Option ℕ). is_some o) (sym (lease_is name entries))

no_some : (o : Option ℕ) → is_some o ≡ false → o ≡ None
no_some None empty = refl
no_some (Some n) empty = absurd (cc)

pub absent : (name : List ℕ) (entries : List (List ℕ × ℕ)) → was_member name (members_in entries) ≡ false → lookup (same_key name) entries ≡ None
absent name entries none = no_some (lookup (same_key name) entries) (was_in name entries ∙ none)

members_more : (entries : List (List ℕ × ℕ)) (id : List ℕ) (lease : ℕ) → members_in (entries ++ (id, lease) ∷ []) ≡ members_in entries ++ record { id = id; lease = lease } ∷ []
members_more [] id lease = refl
members_more (e ∷ es) id lease = ap (λ (ms : List Member). member_in e ∷ ms) (members_more es id lease)

pub absent_key : (id key : List ℕ) (r : Registered) → OnlyMembers r → was_member id r.members ≡ false → key ≡ member_key id → held_at key (keys_after r.keys.changes) ≡ None
absent_key id key r only none is = rw is (only id none)

pub joined_is : (j : Joined) (keys new : Space) (entries more : List (List ℕ × ℕ)) (id key value : List ℕ) (lease : ℕ) → id ≡ j.spec.id → key ≡ member_key j.spec.id → value ≡ member_text j
    → new ≡ after_grant key value keys → lease ≡ revision_of new.changes → more ≡ entries ++ (id, lease) ∷ [] → seen new more ≡ after_join j (seen keys entries)
joined_is j keys new entries more id key value lease id_is key_is value_is new_is lease_is_ more_is =
    rw (more_is, members_more entries id lease, lease_is_, new_is, id_is, key_is, value_is) refl

pub expire_none : (name : List ℕ) (keys : Space) (entries : List (List ℕ × ℕ)) → lookup (same_key name) entries ≡ None → expire_answer name (seen keys entries) ≡ Err NoMember
expire_none name keys entries none = ap (λ (o : Option ℕ). lease_answer o keys) (lease_is name entries ∙ none)

pub expire_some : (name : List ℕ) (keys : Space) (entries : List (List ℕ × ℕ)) (lease : ℕ) → lookup (same_key name) entries ≡ Some lease
    → expire_answer name (seen keys entries) ≡ ended_answer (key_of_lease lease keys.leases) keys.changes
expire_some name keys entries lease some = ap (λ (o : Option ℕ). lease_answer o keys) (lease_is name entries ∙ some)

pub expired : (name : List ℕ) (keys new : Space) (entries : List (List ℕ × ℕ)) (lease : ℕ) → lookup (same_key name) entries ≡ Some lease → new ≡ after_expire lease keys
    → seen new entries ≡ after_expiry name (seen keys entries)
expired name keys new entries lease some is =
    ap (λ (k : Space). seen k entries) (is ∙ sym (ap (λ (o : Option ℕ). after_lease o keys) (lease_is name entries ∙ some)))

-- who isn't one of the members and one more isn't one of the members, and is another than the one more
not_one_by : (b : Bool) (n : ℕ) (o : Option ℕ) → is_some (cond b (Some n) o) ≡ false → (b ≡ false) × (is_some o ≡ false)
not_one_by true n o none = absurd (cc)
not_one_by false n o none = (refl, none)

one_passed : (b : Bool) (n : ℕ) (o : Option ℕ) → b ≡ false → is_some o ≡ false → is_some (cond b (Some n) o) ≡ false
one_passed true n o differs none = absurd (cc)
one_passed false n o differs none = none

pub not_one : (name : List ℕ) (members : List Member) (m : Member) → was_member name (members ++ m ∷ []) ≡ false → (was_member name members ≡ false) × (same_key name m.id ≡ false)
not_one name [] m none = (refl, (not_one_by (same_key name m.id) m.lease None none).0)
not_one name (x ∷ xs) m none =
    let here = not_one_by (same_key name x.id) x.lease (lease_of name (xs ++ m ∷ [])) none in
    let rest = not_one name xs m here.1 in
    (one_passed (same_key name x.id) x.lease (lease_of name xs) here.0 rest.0, rest.1)

pub still_none : (name : List ℕ) (members : List Member) (m : Member) → was_member name members ≡ false → same_key name m.id ≡ false → was_member name (members ++ m ∷ []) ≡ false
still_none name [] m none other = one_passed (same_key name m.id) m.lease None other refl
still_none name (x ∷ xs) m none other =
    let here = not_one_by (same_key name x.id) x.lease (lease_of name xs) none in
    one_passed (same_key name x.id) x.lease (lease_of name (xs ++ m ∷ [])) here.0 (still_none name xs m here.1 other)

-- ---- keys of members

-- the write is of another key than this
abbrev pub IsElsewhere : List ℕ → KeyWrite → Type 0
IsElsewhere key w = same_key w.key key ≡ false

-- writes of other keys leave a key what it had
pub no_puts : (key : List ℕ) (revision : ℕ) (ws : List KeyWrite) (had : Option Held) → Each (IsElsewhere key) ws → puts key (prepared_of revision ws) had ≡ had
no_puts key revision [] had each = refl
no_puts key revision (w ∷ ws) had each =
    ap (λ (b : Bool). puts key (prepared_of revision ws) (cond b (prepared_value revision w.value) had)) each.0
    ∙ no_puts key revision ws had each.1

pub held_elsewhere : (key : List ℕ) (ws : List KeyWrite) (changes : List Change) → Each (IsElsewhere key) ws → held_at key (keys_after (with_change ws changes)) ≡ held_at key (keys_after changes)
held_elsewhere key ws changes each =
    sym (one_more changes (record { revision = revision_of changes + 1; writes = ws }) key)
    ∙ no_puts key (revision_of changes + 1) ws (held_at key (keys_after changes)) each

-- a transaction that writes no member's key
pub only_after_txn : (ws : List KeyWrite) (keys : Space) (members : List Member) → ((id : List ℕ) → Each (IsElsewhere (member_key id)) ws)
    → OnlyMembers (record { keys = keys; members = members }) → OnlyMembers (record { keys = after_txn ws keys; members = members })
only_after_txn [] keys members other only = only
only_after_txn (w ∷ ws) keys members other only = λ id none. held_elsewhere (member_key id) (w ∷ ws) keys.changes (other id) ∙ only id none

-- a transaction of one write that is no member's, where it is made
only_if_written : (answer : Result ℕ KeyError) (write : KeyWrite) (keys : Space) (members : List Member) → IsOfNoMember write
    → OnlyMembers (record { keys = keys; members = members }) → OnlyMembers (record { keys = written_if answer write keys; members = members })
only_if_written (Ok revision) write keys members other only = only_after_txn (write ∷ []) keys members (λ id. (other id, tt)) only
only_if_written (Err e) write keys members other only = only

pub only_after_try : (compare : Compare) (write : KeyWrite) (keys new : Space) (members : List Member) → IsOfNoMember write
    → new ≡ written_if (txn_answer (compare ∷ []) (write ∷ []) keys) write keys → OnlyMembers (record { keys = keys; members = members })
    → OnlyMembers (record { keys = new; members = members })
only_after_try compare write keys new members other is only = rw is (only_if_written (txn_answer (compare ∷ []) (write ∷ []) keys) write keys members other only)

same_member : (a b : List ℕ) → same_key (member_key a) (member_key b) ≡ same_key a b
same_member a b = refl

-- a grant to one more
pub only_after_join : (j : Joined) (r : Registered) → OnlyMembers r → OnlyMembers (after_join j r)
only_after_join j r only = λ id none.
    let parts = not_one id r.members (record { id = j.spec.id; lease = revision_of (after_grant (member_key j.spec.id) (member_text j) r.keys).changes }) none in
    let other : same_key (member_key j.spec.id) (member_key id) ≡ false = same_member j.spec.id id ∙ same_laws.symm j.spec.id id ∙ parts.1 in
    held_elsewhere (member_key id) (put_of (member_key j.spec.id) (member_text j) ∷ []) r.keys.changes (other, tt) ∙ only id parts.0

none_by : (b : Bool) (had : Option Held) → had ≡ None → cond b None had ≡ None
none_by true had none = refl
none_by false had none = none

only_without : (key : Option (List ℕ)) (lease : ℕ) (keys : Space) (members : List Member) → key ≡ key_of_lease lease keys.leases
    → OnlyMembers (record { keys = keys; members = members }) → OnlyMembers (record { keys = after_expire lease keys; members = members })
only_without None lease keys members is only = rw (← is) only
only_without (Some key) lease keys members is only = rw (← is) (λ id none.
    sym (one_more keys.changes (record { revision = revision_of keys.changes + 1; writes = delete_of key ∷ [] }) (member_key id))
    ∙ none_by (same_key key (member_key id)) (held_at (member_key id) (keys_after keys.changes)) (only id none))

-- the end of a lease
pub only_after_expire : (lease : ℕ) (keys : Space) (members : List Member)
    → OnlyMembers (record { keys = keys; members = members }) → OnlyMembers (record { keys = after_expire lease keys; members = members })
only_after_expire lease keys members only = only_without (key_of_lease lease keys.leases) lease keys members refl only

only_lease : (lease : Option ℕ) (keys : Space) (members : List Member)
    → OnlyMembers (record { keys = keys; members = members }) → OnlyMembers (record { keys = after_lease lease keys; members = members })
only_lease None keys members only = only
only_lease (Some lease) keys members only = only_after_expire lease keys members only

pub only_after_expiry : (name : List ℕ) (r new : Registered) → OnlyMembers r → new ≡ after_expiry name r → OnlyMembers new
only_after_expiry name r new only is = subst OnlyMembers (sym is) (only_lease (lease_of name r.members) r.keys r.members only)

-- writes, each in a transaction of its own
pub only_after_each : (ws : List KeyWrite) (keys : Space) (members : List Member) → ((id : List ℕ) → Each (IsElsewhere (member_key id)) ws)
    → OnlyMembers (record { keys = keys; members = members }) → OnlyMembers (record { keys = each_written ws keys; members = members })
only_after_each [] keys members other only = only
only_after_each (w ∷ ws) keys members other only =
    only_after_each ws (after_txn (w ∷ []) keys) members (λ id. (other id).1) (only_after_txn (w ∷ []) keys members (λ id. ((other id).0, tt)) only)
