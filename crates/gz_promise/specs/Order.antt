-- An order of shards, in which a journal's writers come before its readers.
use Rattle.std.specs.Prelude.{ℕ, ◌<◌, List, [], ◌∷◌, length, ⊤, ◌⊎◌}
use Rattle.gz_promise.specs.Names.{Apart}
use Rattle.gz_promise.specs.Sources.{Source}

-- how a shard is wired: its id, its sources and its outputs, which steps leave
pub record Wiring : Type 0 where
  pub id : List ℕ
  pub sources : List Source
  pub outputs : List (List ℕ)

-- the sources are none of these outputs
abbrev pub IsBeside : List (List ℕ) → List Source → Type 0
IsBeside outputs [] = ⊤
IsBeside outputs (s ∷ ss) = Apart s.journal outputs × IsBeside outputs ss

-- the first one writes nothing that the second one reads, or it comes before it
abbrev pub IsBefore : (List ℕ → ℕ) → Wiring → Wiring → Type 0
IsBefore rank t s = IsBeside t.outputs s.sources ⊎ (rank t.id < rank s.id)

abbrev pub AreBefore : (List ℕ → ℕ) → List Wiring → Wiring → Type 0
AreBefore rank [] s = ⊤
AreBefore rank (t ∷ ts) s = IsBefore rank t s × AreBefore rank ts s

-- every writer comes before its readers
abbrev pub AllBefore : (List ℕ → ℕ) → List Wiring → List Wiring → Type 0
AllBefore rank ts [] = ⊤
AllBefore rank ts (s ∷ ss) = AreBefore rank ts s × AllBefore rank ts ss

-- each place in the order is below their number
abbrev pub AllBelow : (List ℕ → ℕ) → ℕ → List Wiring → Type 0
AllBelow rank n [] = ⊤
AllBelow rank n (s ∷ ss) = (rank s.id < n) × AllBelow rank n ss

-- a place in the order for each id
pub record AreInOrder (rank : List ℕ → ℕ) (ss : List Wiring) : Type 0 where
  pub before : AllBefore rank ss ss
  pub below : AllBelow rank (length ss) ss
