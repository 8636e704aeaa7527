-- Members of lists, and lists that have grown.
use Rattle.std.specs.Prelude.{◌≡◌, ◌⊎◌, List, [], ◌∷◌}

-- x stands in the list
abbrev pub In : {A : Type 0} → A → List A → Type 0
In x [] = ⊥
In x (y ∷ ys) = (x ≡ y) ⊎ In x ys

-- of lists with the newest first: xs has come to be ys
abbrev pub Begins : {A : Type 0} → List A → List A → Type 0
Begins xs [] = xs ≡ []
Begins xs (y ∷ ys) = (xs ≡ y ∷ ys) ⊎ Begins xs ys
