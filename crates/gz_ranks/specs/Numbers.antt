-- Ascending numbers.
use Rattle.std.specs.Prelude.{ℕ, ◌<◌, List, [], ◌∷◌, filter, not, nat_eq}

-- each is greater than this number
abbrev pub AreAbove : ℕ → List ℕ → Type 0
AreAbove n [] = Unit {0}
AreAbove n (x ∷ xs) = (n < x) × AreAbove n xs

-- each is less than this number
abbrev pub AreBelow : ℕ → List ℕ → Type 0
AreBelow n [] = Unit {0}
AreBelow n (x ∷ xs) = (x < n) × AreBelow n xs

-- they ascend, so none stands twice
abbrev pub AreAscending : List ℕ → Type 0
AreAscending [] = Unit {0}
AreAscending (x ∷ xs) = AreAbove x xs × AreAscending xs

-- all but this number
abbrev pub without : ℕ → List ℕ → List ℕ
without n xs = filter (λ x. not (nat_eq x n)) xs
