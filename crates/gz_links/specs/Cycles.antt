-- Shards that feed one another.
use Rattle.std.specs.Prelude.{◌≡◌, ℕ, zero, suc, ◌<◌, ◌||◌, List, [], ◌∷◌, map, length, Option, Some, None, Bool, true, false, IsTrue, if◌then◌else◌, slice_get}
use Rattle.std.specs.List.{list_any, IsAmong}
use Rattle.std.specs.Str.{bytes_eq}
use Rattle.gz_links.specs.Links.{outputs_of}
use Rattle.gz_spec.specs.Records.{ShardSpec}

-- ---- in words

-- an output of the first shard is a source of the second
abbrev pub feeds : ShardSpec → ShardSpec → Bool
feeds s t = list_any (λ o. list_any (λ u. bytes_eq u.journal o) t.sources) (outputs_of s)

abbrev pub feeds_if : Option ShardSpec → Option ShardSpec → Bool
feeds_if None t = false
feeds_if (Some s) None = false
feeds_if (Some s) (Some t) = feeds s t

-- the same of the shards at two places
abbrev pub feeds_at : List ShardSpec → ℕ → ℕ → Bool
feeds_at shards i j = feeds_if (slice_get shards i) (slice_get shards j)

-- The outputs of the shard at the first place reach the sources of the one at the second: there is a path, each shard of which feeds the next.
pub data Reaches (shards : List ShardSpec) : ℕ → ℕ → Type 0 where
  next : (i j : ℕ) → IsTrue (feeds_at shards i j) → Reaches shards i j
  through : (i k j : ℕ) → IsTrue (feeds_at shards i k) → Reaches shards k j → Reaches shards i j

-- the shard at this place reaches itself, and none at a lesser place does
pub record IsFirstCycle (shards : List ShardSpec) (i : ℕ) : Type 0 where
  pub reaches : Reaches shards i i
  pub is_first : (j : ℕ) → j < i → Reaches shards j j → ⊥

-- what is told of cycles: the first, or that there is none
abbrev pub IsToldCycle : List ShardSpec → Option ℕ → Type 0
IsToldCycle shards None = (i : ℕ) → Reaches shards i i → ⊥
IsToldCycle shards (Some i) = IsFirstCycle shards i

-- Numbers for shards, by their ids, that rise along each path: a shard has a lesser one than each shard that it feeds.
pub record AreRanked (rank : List ℕ → ℕ) (shards : List ShardSpec) : Type 0 where
  pub rises : (s t : ShardSpec) → IsAmong shards s → IsAmong shards t → feeds s t ≡ true → rank s.id < rank t.id
  pub below : (s : ShardSpec) → IsAmong shards s → rank s.id < length shards

-- ---- how it is found

-- a list of flags, one for each shard that may be reached; past its end there is none
abbrev pub bit : ℕ → List Bool → Bool
bit i [] = false
bit zero (b ∷ bs) = b
bit (suc i) (b ∷ bs) = bit i bs

abbrev pub row : ℕ → List (List Bool) → List Bool
row i [] = []
row zero (r ∷ rs) = r
row (suc i) (r ∷ rs) = row i rs

abbrev pub rest_of : List Bool → List Bool
rest_of [] = []
rest_of (b ∷ bs) = bs

-- the flags of either
abbrev pub either : List Bool → List Bool → List Bool
either [] bs = bs
either (a ∷ as_) bs = (a || bit 0 bs) ∷ either as_ (rest_of bs)

-- what is reached with steps through the shard at place m too, whose own row this is
abbrev pub widened : ℕ → List Bool → List Bool → List Bool
widened m pivot r = if bit m r then either r pivot else r

abbrev pub widened_all : ℕ → List (List Bool) → List (List Bool)
widened_all m rows = map (widened m (row m rows)) rows

-- what is reached through the shards below place m
abbrev pub closed : ℕ → List (List Bool) → List (List Bool)
closed zero rows = rows
closed (suc m) rows = widened_all m (closed m rows)

abbrev pub fed_rows : List ShardSpec → List (List Bool)
fed_rows shards = map (λ s. map (λ t. feeds s t) shards) shards

-- the first of c places from i on of which the test holds
abbrev pub first_from : (ℕ → Bool) → ℕ → ℕ → Option ℕ
first_from test i zero = None
first_from test i (suc c) = if test i then Some i else first_from test (suc i) c

-- the row of the first place has the flag of the second
abbrev pub flag : List (List Bool) → ℕ → ℕ → Bool
flag rows i j = bit j (row i rows)

-- the place of the first shard that reaches itself
abbrev pub first_cycle : List ShardSpec → Option ℕ
first_cycle shards =
    let reached = closed (length shards) (fed_rows shards) in
    first_from (λ i. flag reached i i) 0 (length shards)

-- what a search of the places below n tells: the first of which the test holds, or that there is none
abbrev pub IsToldFirst : (ℕ → Bool) → ℕ → Option ℕ → Type 0
IsToldFirst test n None = (k : ℕ) → k < n → test k ≡ false
IsToldFirst test n (Some i) = (i < n) × (test i ≡ true) × ((k : ℕ) → k < i → test k ≡ false)
