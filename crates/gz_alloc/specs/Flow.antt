-- Problems by numbers: tables, their bounds, and cuts.
use Rattle.std.specs.Prelude.{◌≡◌, ℕ, ◌+◌, ◌-◌, ◌*◌, ◌<◌, ◌≤◌, ◌==◌, ◌&&◌, Bool, not, min, nat_lt, List, length, slice_index, slice_index_or, slice_set, false, if◌then◌else◌}
use Rattle.gz_alloc.specs.Sums.{when, sum_to, count_to}

-- Each item's replicas, each member's limit, and each member's zone. A zone's number is the place of its first member.
pub record Net : Type 0 where
  pub replicas : List ℕ
  pub limits : List ℕ
  pub zones : List ℕ

abbrev pub items : Net → ℕ
items net = length net.replicas

abbrev pub members : Net → ℕ
members net = length net.limits

abbrev pub replicas : Net → ℕ → ℕ
replicas net i = slice_index net.replicas i

abbrev pub limit : Net → ℕ → ℕ
limit net m = slice_index net.limits m

abbrev pub zone : Net → ℕ → ℕ
zone net m = slice_index net.zones m

-- Each item has a replica, and a zone's number is that of its first member. There are at most 1,024 items and 64 members.
pub record IsNet (net : Net) : Type 0 where
  pub few_items : items net ≤ 1024
  pub few_members : members net ≤ 64
  pub each_zone : length net.zones ≡ members net
  pub asks : (i : ℕ) → i < items net → 0 < replicas net i
  pub within : (m : ℕ) → m < members net → zone net m < members net
  pub first : (m : ℕ) → m < members net → zone net (zone net m) ≡ zone net m

-- a table says of each item and each member whether they are a pair
abbrev pub Cells : Type 0
Cells = ℕ → ℕ → Bool

-- the table that flags say, 64 for an item
abbrev pub cells_of : List Bool → Cells
cells_of flags i m = slice_index_or flags (64 * i + m) false

-- the flags with one changed
abbrev pub set_cell : List Bool → ℕ → ℕ → Bool → List Bool
set_cell flags i m b = slice_set flags (64 * i + m) b

-- there are flags for each item
abbrev pub IsTable : Net → List Bool → Type 0
IsTable net flags = length flags ≡ 64 * items net

-- on how many members an item is placed
abbrev pub row : Net → Cells → ℕ → ℕ
row net x i = count_to (members net) (λ m. x i m)

-- how many items a member holds
abbrev pub load : Net → Cells → ℕ → ℕ
load net x m = count_to (items net) (λ i. x i m)

-- on how many members of a zone an item is placed
abbrev pub in_zone : Net → Cells → ℕ → ℕ → ℕ
in_zone net x i z = count_to (members net) (λ m. x i m && (zone net m == z))

-- how many of an item's replicas one zone may hold: all but one, and one where there is only one
abbrev pub zone_bound : ℕ → ℕ
zone_bound r = if nat_lt 1 r then r - 1 else 1

-- how many pairs there are
abbrev pub total : Net → Cells → ℕ
total net x = sum_to (items net) (λ i. row net x i)

-- No item has more than its replicas, no member more than its limit, and no zone more of an item than its bound.
pub record Keeps (net : Net) (x : Cells) : Type 0 where
  pub rows : (i : ℕ) → i < items net → row net x i ≤ replicas net i
  pub loads : (m : ℕ) → m < members net → load net x m ≤ limit net m
  pub zones : (i m : ℕ) → i < items net → m < members net → in_zone net x i (zone net m) ≤ zone_bound (replicas net i)

-- how many members of a zone aren't chosen
abbrev pub free : Net → (ℕ → Bool) → ℕ → ℕ
free net chosen z = count_to (members net) (λ m. not (chosen m) && (zone net m == z))

-- the number is that of a zone
abbrev pub is_zone : Net → ℕ → Bool
is_zone net z = zone net z == z

-- an item has a pair with some member which passes through neither a chosen member nor a chosen pair of item and zone
abbrev pub is_uncut : Net → (ℕ → Bool) → (ℕ → ℕ → Bool) → ℕ → Bool
is_uncut net chosen zones i = nat_lt 0 (count_to (members net) (λ m. not (chosen m) && not (zones i (zone net m))))

-- what the chosen pairs of an item with a zone count
abbrev pub zones_charge : Net → (ℕ → Bool) → (ℕ → ℕ → Bool) → ℕ → ℕ
zones_charge net chosen zones i = sum_to (members net) (λ z. when (is_zone net z && zones i z) (min (zone_bound (replicas net i)) (free net chosen z)))

-- A chosen member counts with its limit. A chosen pair of an item and a zone counts with the lesser of the item's bound and the number of the zone's members that aren't chosen. An item that isn't cut counts with its replicas.
abbrev pub capacity : Net → (ℕ → Bool) → (ℕ → ℕ → Bool) → ℕ
capacity net chosen zones = sum_to (members net) (λ m. when (chosen m) (limit net m))
    + sum_to (items net) (λ i. zones_charge net chosen zones i + when (is_uncut net chosen zones i) (replicas net i))

-- two tables that differ in one pair
pub record Differs (net : Net) (x y : Cells) (i m : ℕ) (old new : Bool) : Type 0 where
  pub item : i < items net
  pub member : m < members net
  pub before : x i m ≡ old
  pub after : y i m ≡ new
  pub others : (j n : ℕ) → n < members net → (j ≡ i → n ≡ m → ⊥) → y j n ≡ x j n
