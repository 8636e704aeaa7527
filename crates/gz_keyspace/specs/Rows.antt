-- Rows in the order of their keys, as a vector has them.
use Rattle.std.specs.Prelude.{◌≡◌, ℕ, ◌<◌, ◌≤◌, List, [], length, fold, Bool, Option, Some, None, slice_index_or}
use Rattle.std.specs.Ordering.{nat_cmp, is_lt}
use Rattle.std.specs.declared.cmp.Ordering.TheVariants.{Less, Greater}
use Rattle.std.specs.Cmp.Lexicographic.{slice_cmp}
use Rattle.gz_keyspace.specs.declared.table.Held.{Held}
use Rattle.gz_keyspace.specs.declared.table.Prepared.{Prepared}
use Rattle.gz_keyspace.specs.Keys.{KeyMap, put, delete}

-- the row at a place, where there is one
abbrev pub row_at : KeyMap → ℕ → List ℕ × Held
row_at rows place = slice_index_or rows place ([], record { value = []; mod_revision = 0 })

-- the first row's key is less
abbrev pub is_less : List ℕ × Held → List ℕ × Held → Bool
is_less a b = is_lt (slice_cmp nat_cmp a.0 b.0)

-- the key's row is at this place
pub record IsAt (key : List ℕ) (rows : KeyMap) (place : ℕ) : Type 0 where
  pub within : place < length rows
  pub has_key : (row_at rows place).0 ≡ key

-- the key has no row, and its place would be here
pub record IsGap (key : List ℕ) (rows : KeyMap) (place : ℕ) : Type 0 where
  pub within : place ≤ length rows
  pub less : (i : ℕ) → i < place → slice_cmp nat_cmp (row_at rows i).0 key ≡ Less
  pub greater : (i : ℕ) → place ≤ i → i < length rows → slice_cmp nat_cmp (row_at rows i).0 key ≡ Greater

-- the rows after one prepared write
abbrev pub after_one : List ℕ → Option Held → KeyMap → KeyMap
after_one key None rows = delete key rows
after_one key (Some held) rows = put key held rows

-- the rows after the prepared writes
abbrev pub after_prepared : List Prepared → KeyMap → KeyMap
after_prepared ws rows = fold (λ rows w. after_one w.key w.held rows) rows ws
