-- A space of keys, and what its calls do.
use Rattle.std.specs.Prelude.{ℕ, ◌+◌, ◌==◌, ◌++◌, List, [], ◌∷◌, length, fold, Option, Some, None, Result, Ok, Err, if◌then◌else◌}
use Rattle.std.specs.Map.{remove_entry}
use Rattle.gz_model.specs.Steps.{◌>>=◌}
use Rattle.gz_label.specs.declared.keys.KeyWrite.{KeyWrite}
use Rattle.gz_label.specs.declared.keys.Compare.{Compare}
use Rattle.gz_label.specs.declared.keys.Change.{Change}
use Rattle.gz_keyspace.specs.declared.table.Held.{Held}
use Rattle.gz_keyspace.specs.declared.error.KeyError.{KeyError}
use Rattle.gz_keyspace.specs.declared.error.KeyError.TheVariants.{CompareFailed, KeysEnd, NoLease}
use Rattle.gz_keyspace.specs.Keys.{same_key, KeyMap, held_at, mod_revision_of, keys_after}

-- the last revision, 2^40 - 1
abbrev pub last_revision : ℕ
last_revision = 1_099_511_627_775

-- live leases in the order of their grants: the key that each keeps, and the lease, which is the grant's revision
abbrev pub Leases : Type 0
Leases = List (List ℕ × ℕ)

-- a space of keys: the changes so far, and the live leases
pub record Space : Type 0 where
  pub changes : List Change
  pub leases : Leases

-- the revision after these changes
abbrev pub revision_of : List Change → ℕ
revision_of changes = length changes

-- the compares hold, or the first one that differs doesn't
abbrev pub compared : KeyMap → List Compare → Result (Unit {0}) KeyError
compared keys [] = Ok tt
compared keys (c ∷ cs) =
    let found = mod_revision_of c.key keys in
    if found == c.mod_revision then compared keys cs else Err (CompareFailed c.key found)

-- the revision of the next change
abbrev pub next_revision : List Change → Result ℕ KeyError
next_revision changes = if revision_of changes == last_revision then Err KeysEnd else Ok (revision_of changes + 1)

-- the changes with one more, which makes these writes
abbrev pub with_change : List KeyWrite → List Change → List Change
with_change writes changes = changes ++ record { revision = revision_of changes + 1; writes = writes } ∷ []

-- the leases without that of the key
abbrev pub without : List ℕ → Leases → Leases
without key leases = remove_entry (same_key key) leases

-- the leases without that of each written key
abbrev pub without_written : List KeyWrite → Leases → Leases
without_written writes leases = fold (λ leases write. without write.key leases) leases writes

-- the space after the writes, with what follows from them for the leases
abbrev pub with_writes : List KeyWrite → Space → Space
with_writes writes space = record { changes = with_change writes space.changes; leases = without_written writes space.leases }

-- a transaction's answer: the new revision, or the old one where there are no writes
abbrev pub made_revision : List KeyWrite → List Change → Result ℕ KeyError
made_revision [] changes = Ok (revision_of changes)
made_revision (w ∷ ws) changes = next_revision changes

abbrev pub txn_answer : List Compare → List KeyWrite → Space → Result ℕ KeyError
txn_answer compares writes space = compared (keys_after space.changes) compares >>= λ _. made_revision writes space.changes

-- the space after a transaction that was made
abbrev pub after_txn : List KeyWrite → Space → Space
after_txn [] space = space
after_txn (w ∷ ws) space = with_writes (w ∷ ws) space

-- a grant's answer, for what its key has: the lease, where the key is absent
abbrev pub granted_revision : List ℕ → Option Held → List Change → Result ℕ KeyError
granted_revision key None changes = next_revision changes
granted_revision key (Some held) changes = Err (CompareFailed key held.mod_revision)

abbrev pub grant_answer : List ℕ → Space → Result ℕ KeyError
grant_answer key space = granted_revision key (held_at key (keys_after space.changes)) space.changes

-- the write of a grant
abbrev pub put_of : List ℕ → List ℕ → KeyWrite
put_of key value = record { key = key; value = Some value }

-- the space after a grant: the lease is the revision
abbrev pub after_grant : List ℕ → List ℕ → Space → Space
after_grant key value space =
    let written = with_writes (put_of key value ∷ []) space in
    record { changes = written.changes; leases = written.leases ++ (key, revision_of written.changes) ∷ [] }

-- the key of a live lease
abbrev pub key_of_lease : ℕ → Leases → Option (List ℕ)
key_of_lease lease [] = None
key_of_lease lease (l ∷ ls) = if l.1 == lease then Some l.0 else key_of_lease lease ls

-- an expire's answer, for what its lease keeps
abbrev pub expired_revision : Option (List ℕ) → List Change → Result ℕ KeyError
expired_revision None changes = Err NoLease
expired_revision (Some key) changes = next_revision changes

abbrev pub expire_answer : ℕ → Space → Result ℕ KeyError
expire_answer lease space = expired_revision (key_of_lease lease space.leases) space.changes

-- the write of an expire
abbrev pub delete_of : List ℕ → KeyWrite
delete_of key = record { key = key; value = None }

-- the space after an expire: the lease's key is deleted
abbrev pub without_key : Option (List ℕ) → Space → Space
without_key None space = space
without_key (Some key) space = with_writes (delete_of key ∷ []) space

abbrev pub after_expire : ℕ → Space → Space
after_expire lease space = without_key (key_of_lease lease space.leases) space
