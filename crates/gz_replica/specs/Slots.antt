-- What other members told a primary: a value for each name, in route order.
use Rattle.std.specs.Prelude.{ℕ, zero, suc, List, [], ◌∷◌, Bool, true, false, ◌&&◌, Option, Some, None, is_some, if◌then◌else◌, max, min}
use Rattle.std.specs.Str.{bytes_eq}
use Rattle.gz_label.specs.declared.entry.Image.{Image}

-- what a member promised with
pub record Report : Type 0 where
  pub adopted : ℕ
  pub image : Image

-- a value for each name that has told
abbrev pub Slots : Type 0 → Type 0
Slots A = List (List ℕ × Option A)

abbrev pub first_there : {A : Type 0} → Option A → A → A
first_there None y = y
first_there (Some x) y = x

-- the first value for a name stays
abbrev pub fill : {A : Type 0} → List ℕ → A → Slots A → Slots A
fill m v [] = []
fill m v (p ∷ ps) = if bytes_eq m p.0 then (p.0, Some (first_there p.1 v)) ∷ ps else p ∷ fill m v ps

abbrev pub full : {A : Type 0} → Slots A → Bool
full [] = true
full (p ∷ ps) = is_some p.1 && full ps

abbrev pub slots_for : {A : Type 0} → List (List ℕ) → Slots A
slots_for [] = []
slots_for (m ∷ ms) = (m, None) ∷ slots_for ms

-- the names that haven't told
abbrev pub missing : {A : Type 0} → Slots A → List (List ℕ)
missing [] = []
missing (p ∷ ps) = if is_some p.1 then missing ps else p.0 ∷ missing ps

-- the place of the first slot of a name, and how many slots there are, where there is none
abbrev pub place_of : {A : Type 0} → List ℕ → Slots A → ℕ
place_of m [] = 0
place_of m (p ∷ ps) = if bytes_eq m p.0 then 0 else suc (place_of m ps)

-- the value in the slot at a place, where there is one
abbrev pub value_at : {A : Type 0} → Slots A → ℕ → Option A
value_at [] i = None
value_at (p ∷ ps) zero = p.1
value_at (p ∷ ps) (suc i) = value_at ps i

-- the slots, where the one at a place hasn't told
abbrev pub emptied : {A : Type 0} → Slots A → ℕ → Slots A
emptied [] i = []
emptied (p ∷ ps) zero = (p.0, None) ∷ ps
emptied (p ∷ ps) (suc i) = p ∷ emptied ps i

-- one value for all names
abbrev pub all_at : {A : Type 0} → A → List (List ℕ) → List (List ℕ × A)
all_at v [] = []
all_at v (m ∷ ms) = (m, v) ∷ all_at v ms

-- the least of the own end and all held ends
abbrev pub least : ℕ → List (List ℕ × ℕ) → ℕ
least end [] = end
least end (p ∷ ps) = min p.1 (least end ps)

-- a member's held end becomes the greater
abbrev pub held_raised : List ℕ → ℕ → List (List ℕ × ℕ) → List (List ℕ × ℕ)
held_raised m end [] = []
held_raised m end (p ∷ ps) = (if bytes_eq m p.0 then (p.0, max p.1 end) else p) ∷ held_raised m end ps
