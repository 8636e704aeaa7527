-- Members of lists, and a slot for each name: what a primary waits for from the other members of its route.
use Rattle.std.specs.Prelude.{◌≡◌, ◌==◌, ℕ, Bool, true, ◌&&◌, List, [], ◌∷◌, Option, Some, None, if◌then◌else◌, is_some}
use Rattle.std.specs.Prelude.{◌⊎◌}

-- x is a member of the list
abbrev pub In : {A : Type 0} → A → List A → Type 0
In x [] = ⊥
In x (y ∷ ys) = (x ≡ y) ⊎ In x ys

-- each member has P
abbrev pub Each : {A : Type 0} → (A → Type 0) → List A → Type 0
Each P [] = Unit {0}
Each P (x ∷ xs) = P x × Each P xs

-- no two members are the same
abbrev pub Distinct : {A : Type 0} → List A → Type 0
Distinct [] = Unit {0}
Distinct (x ∷ xs) = (In x xs → ⊥) × Distinct xs

-- the value that is there, or this one
abbrev pub first_there : {A : Type 0} → Option A → A → A
first_there None y = y
first_there (Some x) y = x

-- A value comes for a name. The first one for it stays.
abbrev pub fill : {A : Type 0} → ℕ → A → List (ℕ × Option A) → List (ℕ × Option A)
fill m v [] = []
fill m v (p ∷ ps) = if m == p.0 then (p.0, Some (first_there p.1 v)) ∷ ps else p ∷ fill m v ps

-- each name has its value
abbrev pub full : {A : Type 0} → List (ℕ × Option A) → Bool
full [] = true
full (p ∷ ps) = is_some p.1 && full ps

-- no name has its value yet
abbrev pub slots_for : {A : Type 0} → List ℕ → List (ℕ × Option A)
slots_for [] = []
slots_for (m ∷ ms) = (m, None) ∷ slots_for ms

abbrev pub names : {A : Type 0} → List (ℕ × A) → List ℕ
names [] = []
names (p ∷ ps) = p.0 ∷ names ps

-- one value for all names
abbrev pub all_at : {A : Type 0} → A → List ℕ → List (ℕ × A)
all_at k [] = []
all_at k (m ∷ ms) = (m, k) ∷ all_at k ms
