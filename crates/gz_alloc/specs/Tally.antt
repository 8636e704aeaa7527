-- A table with its counts.
use Rattle.std.specs.Prelude.{◌≡◌, ℕ, ◌+◌, ◌*◌, ◌<◌, Bool, true, false, List, length, slice_index, slice_set, replicate}
use Rattle.gz_alloc.specs.Flow.{Net, IsTable, items, members, row, load, in_zone, cells_of, set_cell}

-- the flags of a table, and beside them how many pairs each item has, each member, and each item in each zone, 64 for an item
pub record Tallied : Type 0 where
  pub flags : List Bool
  pub rows : List ℕ
  pub loads : List ℕ
  pub shares : List ℕ

-- the counts are those of the table
pub record IsTally (net : Net) (t : Tallied) : Type 0 where
  pub table : IsTable net t.flags
  pub each_row : length t.rows ≡ items net
  pub each_load : length t.loads ≡ members net
  pub each_share : length t.shares ≡ 64 * items net
  pub rows : (i : ℕ) → i < items net → slice_index t.rows i ≡ row net (cells_of t.flags) i
  pub loads : (m : ℕ) → m < members net → slice_index t.loads m ≡ load net (cells_of t.flags) m
  pub shares : (i z : ℕ) → i < items net → z < members net → slice_index t.shares (64 * i + z) ≡ in_zone net (cells_of t.flags) i z

-- no pairs of so many items and members
abbrev pub no_tally : ℕ → ℕ → Tallied
no_tally n k = record { flags = replicate (64 * n) false; rows = replicate n 0; loads = replicate k 0; shares = replicate (64 * n) 0 }

-- one pair more, of a member in the zone z
abbrev pub added : Tallied → ℕ → ℕ → ℕ → Tallied
added t i m z = record {
  flags = set_cell t.flags i m true;
  rows = slice_set t.rows i (slice_index t.rows i + 1);
  loads = slice_set t.loads m (slice_index t.loads m + 1);
  shares = slice_set t.shares (64 * i + z) (slice_index t.shares (64 * i + z) + 1);
}
