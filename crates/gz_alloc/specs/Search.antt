-- The search for a place: which members can take one more item, by moving others.
use Rattle.std.specs.Prelude.{◌≡◌, ◌≢◌, ℕ, ◌+◌, ◌<◌, ◌≤◌, ◌⊎◌, Bool, true, false, not, ◌&&◌, nat_lt, List, length, slice_index, slice_set, replicate}
use Rattle.gz_alloc.specs.Sums.{count_to}
use Rattle.gz_alloc.specs.Flow.{Net, Cells, items, members, replicas, limit, zone, row, load, in_zone, zone_bound, free}

-- What is known so far. An item's target is a member in whose zone it has room, or 64. A member's rank says as the how many'th it was found to have a way, or is 64. Its way begins by moving an item from it to another member.
pub record Marks : Type 0 where
  pub targets : List ℕ
  pub ranks : List ℕ
  pub movers : List ℕ
  pub tos : List ℕ
  pub found : ℕ

abbrev pub target : Marks → ℕ → ℕ
target s b = slice_index s.targets b

abbrev pub rank : Marks → ℕ → ℕ
rank s m = slice_index s.ranks m

abbrev pub mover : Marks → ℕ → ℕ
mover s m = slice_index s.movers m

abbrev pub to : Marks → ℕ → ℕ
to s m = slice_index s.tos m

-- the member has a way
abbrev pub is_open : Marks → ℕ → Bool
is_open s m = nat_lt (rank s m) 64

-- the item b may move from m to t, which has a way
pub record CanMove (net : Net) (x : Cells) (s : Marks) (m b t : ℕ) : Type 0 where
  pub item : b < items net
  pub member : t < members net
  pub has_way : rank s t < 64
  pub placed : x b m ≡ true
  pub missing : x b t ≡ false
  pub room : (zone net t ≡ zone net m) ⊎ (target s b ≡ t)

-- the member's way: it has room, or an item moves to a member that was found before
pub record IsMove (net : Net) (x : Cells) (s : Marks) (m : ℕ) : Type 0 where
  pub can : CanMove net x s m (mover s m) (to s m)
  pub earlier : rank s (to s m) < rank s m

abbrev pub IsReady : Net → Cells → Marks → ℕ → Type 0
IsReady net x s m = (load net x m < limit net m) ⊎ IsMove net x s m

-- the item has room in the target's zone
pub record IsTarget (net : Net) (x : Cells) (b t : ℕ) : Type 0 where
  pub room : in_zone net x b (zone net t) < zone_bound (replicas net b)
  pub full : replicas net b ≤ row net x b

pub record IsSearch (net : Net) (x : Cells) (s : Marks) : Type 0 where
  pub each_target : length s.targets ≡ items net
  pub each_rank : length s.ranks ≡ members net
  pub each_mover : length s.movers ≡ members net
  pub each_to : length s.tos ≡ members net
  pub ready : (m : ℕ) → m < members net → rank s m < 64 → IsReady net x s m
  pub aims : (b : ℕ) → b < items net → target s b < 64 → IsTarget net x b (target s b)
  pub counted : s.found ≡ count_to (members net) (λ m. is_open s m)
  pub below : (m : ℕ) → m < members net → rank s m < 64 → rank s m < s.found

-- the search goes on
pub record Grows (old new : Marks) : Type 0 where
  pub members : (m : ℕ) → rank old m < 64 → rank new m ≡ rank old m
  pub items : (b : ℕ) → target old b < 64 → target new b ≡ target old b
  pub later : (m : ℕ) → 64 ≤ rank old m → rank new m < 64 → old.found ≤ rank new m
  pub more : old.found ≤ new.found

-- each member that has the item has a way
abbrev pub IsTaken : Net → Cells → Marks → ℕ → Type 0
IsTaken net x s b = (m : ℕ) → m < members net → x b m ≡ true → rank s m < 64

-- so it is with each item that has a target
abbrev pub EachTaken : Net → Cells → Marks → Type 0
EachTaken net x s = (b : ℕ) → b < items net → target s b < 64 → IsTaken net x s b

-- the members of a zone that have the item have a way
abbrev pub IsTakenIn : Net → Cells → Marks → ℕ → ℕ → Type 0
IsTakenIn net x s b z = (m : ℕ) → m < members net → x b m ≡ true → z ≡ zone net m → rank s m < 64

-- what an item has to do with a member that has a way
abbrev pub IsPassed : Net → Cells → Marks → ℕ → ℕ → Type 0
IsPassed net x s t b = (x b t ≡ true) ⊎ ((target s b < 64) ⊎ ((zone_bound (replicas net b) ≤ in_zone net x b (zone net t)) × IsTakenIn net x s b (zone net t)))

-- the item is placed too seldom, and may be placed on the member, which has a way
pub record IsWanted (net : Net) (x : Cells) (s : Marks) (b t : ℕ) : Type 0 where
  pub item : b < items net
  pub member : t < members net
  pub has_way : rank s t < 64
  pub untargeted : 64 ≤ target s b
  pub missing : x b t ≡ false
  pub room : in_zone net x b (zone net t) < zone_bound (replicas net b)
  pub less : row net x b < replicas net b

-- the member has a way from now on
abbrev pub open_at : Marks → ℕ → ℕ → ℕ → Marks
open_at s m b t = record { targets = s.targets; ranks = slice_set s.ranks m s.found; movers = slice_set s.movers m b; tos = slice_set s.tos m t; found = s.found + 1 }

-- the item has a target from now on
abbrev pub aim_at : Marks → ℕ → ℕ → Marks
aim_at s b t = record { targets = slice_set s.targets b t; ranks = s.ranks; movers = s.movers; tos = s.tos; found = s.found }

-- each item has passed the members below n of this rank
abbrev pub IsPassedAt : Net → Cells → Marks → ℕ → ℕ → Type 0
IsPassedAt net x s head n = (t b : ℕ) → t < n → rank s t ≡ head → b < items net → IsPassed net x s t b

-- each member with room has a way
abbrev pub IsRoomy : Net → Cells → Marks → Type 0
IsRoomy net x s = (m : ℕ) → m < members net → load net x m < limit net m → rank s m < 64

-- a search in which the members with room have a way, and no item has a target
pub record IsStart (net : Net) (x : Cells) (s : Marks) : Type 0 where
  pub search : IsSearch net x s
  pub taken : EachTaken net x s
  pub roomy : IsRoomy net x s

-- nothing more can be found: each member with room has a way, and each item is taken and has passed each member with a way
pub record IsWhole (net : Net) (x : Cells) (s : Marks) : Type 0 where
  pub search : IsSearch net x s
  pub taken : EachTaken net x s
  pub roomy : (m : ℕ) → m < members net → load net x m < limit net m → rank s m < 64
  pub passed : (t b : ℕ) → t < members net → rank s t < 64 → b < items net → IsPassed net x s t b

-- no member has a way yet
abbrev pub new_marks : ℕ → ℕ → Marks
new_marks n k = record { targets = replicate n 64; ranks = replicate k 64; movers = replicate k 0; tos = replicate k 0; found = 0 }

-- one step of the search
pub record Opens (net : Net) (x : Cells) (old new : Marks) : Type 0 where
  pub search : IsSearch net x new
  pub grows : Grows old new
  pub same : new.targets ≡ old.targets

-- one step of the search, after which it is known again of each item with a target that it is taken
pub record Advances (net : Net) (x : Cells) (old new : Marks) : Type 0 where
  pub search : IsSearch net x new
  pub grows : Grows old new
  pub taken : EachTaken net x new

-- the members without a way are chosen
abbrev pub is_chosen : Marks → ℕ → Bool
is_chosen s m = not (is_open s m)

-- of an item without a target, each zone is chosen that has a member with a way
abbrev pub is_zone_chosen : Net → Marks → ℕ → ℕ → Bool
is_zone_chosen net s i z = not (nat_lt (target s i) 64) && nat_lt 0 (free net (is_chosen s) z)

-- on the way from a member: all bounds are kept, but that the member may have one item too many
pub record IsWalk (net : Net) (x : Cells) (s : Marks) (m : ℕ) : Type 0 where
  pub member : m < members net
  pub has_way : rank s m < 64
  pub rows : (i : ℕ) → i < items net → row net x i ≤ replicas net i
  pub zones : (i n : ℕ) → i < items net → n < members net → in_zone net x i (zone net n) ≤ zone_bound (replicas net i)
  pub loads : (n : ℕ) → n < members net → n ≢ m → load net x n ≤ limit net n
  pub over : load net x m ≤ limit net m + 1
  pub ready : (n : ℕ) → n < members net → rank s n < rank s m → IsReady net x s n
  pub aims : (b : ℕ) → b < items net → target s b < 64 → rank s (target s b) < rank s m → in_zone net x b (zone net (target s b)) < zone_bound (replicas net b)
  pub way : (load net x m ≤ limit net m) ⊎ IsMove net x s m
