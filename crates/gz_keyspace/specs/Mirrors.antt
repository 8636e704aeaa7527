-- Mirrors of a space of keys.
use Rattle.std.specs.Prelude.{◌≡◌, ℕ, ◌+◌, ◌==◌, ◌≤◌, ◌++◌, List, [], ◌∷◌, fold, Bool, true, false, Some, Result, Ok, Err, if◌then◌else◌, nat_le, slice_get, ⊤}
use Rattle.std.specs.Ordering.{nat_cmp}
use Rattle.std.specs.declared.cmp.Ordering.TheVariants.{Less}
use Rattle.std.specs.Cmp.Lexicographic.{slice_cmp}
use Rattle.gz_label.specs.declared.keys.Change.{Change}
use Rattle.gz_keyspace.specs.declared.error.KeyError.{KeyError}
use Rattle.gz_keyspace.specs.declared.error.KeyError.TheVariants.{Skipped}
use Rattle.gz_keyspace.specs.Keys.{KeyMap, after_writes, keys_after, keys_at, IsNumbered}
use Rattle.gz_keyspace.specs.Space.{revision_of}

-- a mirror: a revision, and what keys have there
pub record Mirrored : Type 0 where
  pub revision : ℕ
  pub keys : KeyMap

-- every key is above this one
abbrev pub IsAbove : List ℕ → KeyMap → Type 0
IsAbove key [] = ⊤
IsAbove key (row ∷ rows) = (slice_cmp nat_cmp key row.0 ≡ Less) × IsAbove key rows

-- the keys rise
abbrev pub IsAscending : KeyMap → Type 0
IsAscending [] = ⊤
IsAscending (row ∷ rows) = IsAbove row.0 rows × IsAscending rows

-- what a mirror answers to a change: true where it is the next one, false where the mirror has it already
abbrev pub apply_answer : Change → Mirrored → Result Bool KeyError
apply_answer change m =
    if nat_le change.revision m.revision then Ok false
    else (if change.revision == m.revision + 1 then Ok true else Err (Skipped m.revision change.revision))

-- the mirror after it was given a change: only the next one does something
abbrev pub applied : Change → Mirrored → Mirrored
applied change m =
    if change.revision == m.revision + 1
    then record { revision = change.revision; keys = after_writes change.revision m.keys change.writes }
    else m

-- the mirror after it was given these changes, one after another
abbrev pub after_given : Mirrored → List Change → Mirrored
after_given m changes = fold (λ m change. applied change m) m changes

-- the mirror is the key map of the changes at its revision
abbrev pub IsMirrorOf : List Change → Mirrored → Type 0
IsMirrorOf changes m = m.keys ≡ keys_at changes m.revision

-- each of these is one of the changes
abbrev pub AreAmong : List Change → List Change → Type 0
AreAmong changes [] = ⊤
AreAmong changes (c ∷ cs) = ((place : ℕ) × (slice_get changes place ≡ Some c)) × AreAmong changes cs

-- What is known of mirrors of a space of keys with these changes.
pub record MirrorLaw (changes : List Change) : Type 0 where
  -- an empty one at revision 0, and a copy of the whole key map, are mirrors
  pub new : IsMirrorOf changes (record { revision = 0; keys = [] })
  pub whole : IsMirrorOf changes (record { revision = revision_of changes; keys = keys_after changes })
  -- a mirror stays one, whichever of the changes it is given, in any order and any number of times
  pub given : (m : Mirrored) (some : List Change) → IsMirrorOf changes m → AreAmong changes some → IsMirrorOf changes (after_given m some)
  -- and while the key space goes on
  pub goes_on : (m : Mirrored) (more : List Change) → m.revision ≤ revision_of changes → IsNumbered (changes ++ more) → IsMirrorOf changes m → IsMirrorOf (changes ++ more) m
