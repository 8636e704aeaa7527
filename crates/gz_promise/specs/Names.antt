-- Names, each of which stands once, and names that are none of others.
use Rattle.std.specs.Prelude.{◌≡◌, ℕ, List, [], ◌∷◌, false, ⊤}
use Rattle.std.specs.Str.{bytes_eq}

-- the name is none of these
abbrev pub Apart : List ℕ → List (List ℕ) → Type 0
Apart name [] = ⊤
Apart name (n ∷ names) = (bytes_eq name n ≡ false) × (bytes_eq n name ≡ false) × Apart name names

-- each of these stands once
abbrev pub Distinct : List (List ℕ) → Type 0
Distinct [] = ⊤
Distinct (n ∷ names) = Apart n names × Distinct names
