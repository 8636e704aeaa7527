-- What keys have after changes.
use Rattle.std.specs.Prelude.{◌≡◌, ℕ, ◌+◌, ◌==◌, List, [], ◌∷◌, filter, fold, not, Option, Some, None, Bool, nat_le, ⊤}
use Rattle.std.specs.Option.{option_map_or}
use Rattle.std.specs.Ordering.{nat_cmp}
use Rattle.std.specs.Cmp.Lexicographic.{pointwise, slice_cmp}
use Rattle.std.specs.Map.{lookup}
use Rattle.std.specs.BTreeMap.{insert_entry}
use Rattle.gz_label.specs.declared.keys.KeyWrite.{KeyWrite}
use Rattle.gz_label.specs.declared.keys.Change.{Change}
use Rattle.gz_keyspace.specs.declared.table.Held.{Held}

-- the two texts are equal
abbrev pub same_key : List ℕ → List ℕ → Bool
same_key = pointwise ◌==◌

-- keys with what each has, in the order of the keys
abbrev pub KeyMap : Type 0
KeyMap = List (List ℕ × Held)

-- what a key has, where it is there
abbrev pub held_at : List ℕ → KeyMap → Option Held
held_at key keys = lookup (same_key key) keys

-- the revision of the change that put the key, 0 where it is absent
abbrev pub mod_revision_of : List ℕ → KeyMap → ℕ
mod_revision_of key keys = option_map_or (λ held. held.mod_revision) (held_at key keys) 0

-- a put: an equal key takes what it is to have, and a new one goes to its place in the order
abbrev pub put : List ℕ → Held → KeyMap → KeyMap
put key held keys = insert_entry (slice_cmp nat_cmp) keys key held

-- a delete: the key goes, where it is there
abbrev pub delete : List ℕ → KeyMap → KeyMap
delete key keys = filter (λ row. not (same_key key row.0)) keys

-- the keys after a write of this value in the change of this revision
abbrev pub after_value : ℕ → List ℕ → Option (List ℕ) → KeyMap → KeyMap
after_value revision key None keys = delete key keys
after_value revision key (Some value) keys = put key (record { value = value; mod_revision = revision }) keys

-- the keys after the writes of a change, in their order
abbrev pub after_writes : ℕ → KeyMap → List KeyWrite → KeyMap
after_writes revision keys writes = fold (λ keys write. after_value revision write.key write.value keys) keys writes

-- the keys after changes, from these keys on
abbrev pub after_changes : KeyMap → List Change → KeyMap
after_changes keys changes = fold (λ keys change. after_writes change.revision keys change.writes) keys changes

-- the key map: what keys have after all changes
abbrev pub keys_after : List Change → KeyMap
keys_after changes = after_changes [] changes

-- the key map at a revision: what keys have after the changes up to it
abbrev pub keys_at : List Change → ℕ → KeyMap
keys_at changes revision = keys_after (filter (λ change. nat_le change.revision revision) changes)

-- the revisions count on from this one, without a gap
abbrev pub IsNumberedFrom : ℕ → List Change → Type 0
IsNumberedFrom revision [] = ⊤
IsNumberedFrom revision (change ∷ changes) = (change.revision ≡ revision + 1) × IsNumberedFrom (revision + 1) changes

-- the revisions count from 1
abbrev pub IsNumbered : List Change → Type 0
IsNumbered changes = IsNumberedFrom 0 changes
