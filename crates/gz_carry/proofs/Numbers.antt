-- A number for each name, none zero, and two names have one number only where they are the same.
use Rattle.std.proofs.Common.{◌≡◌, ℕ, ◌+◌, ◌<◌, List, [], ◌∷◌, refl, ap, sym, ◌∙◌, arith, inl, inr, zero, suc, true}
use Rattle.std.specs.Str.{bytes_eq}
use Rattle.std.proofs.lemmas.Bool.{cases_Bool, eq-eqb, ne_eqb, true≢false}
use Rattle.std.specs.Cmp.Lexicographic.{same_text}
use Rattle.gz_lineage.specs.Rules.{keys}
use Rattle.gz_carry.specs.Seen.{IsNumbering}

-- m doubled so many times
abbrev doubled : ℕ → ℕ → ℕ
doubled zero m = m
doubled (suc x) m = doubled x m + doubled x m

-- an odd number for what is left, doubled by the first
abbrev number_of : List ℕ → ℕ
number_of [] = 1
number_of (x ∷ xs) = doubled (suc x) (number_of xs + number_of xs + 1)

-- of an odd number doubled some times both are known
doubled_same : (x y a b : ℕ) → doubled x (a + a + 1) ≡ doubled y (b + b + 1) → (x ≡ y) × (a ≡ b)
doubled_same zero zero a b e = (refl, same a b e)
  where
    same : (a b : ℕ) → a + a + 1 ≡ b + b + 1 → a ≡ b
    same a b e = omega arith
doubled_same zero (suc y) a b e = absurd (let d = doubled y (b + b + 1) in odd a d e)
  where
    odd : (a d : ℕ) → a + a + 1 ≡ d + d → ⊥
    odd a d e = omega arith
doubled_same (suc x) zero a b e = absurd (let d = doubled x (a + a + 1) in odd b d (sym e))
  where
    odd : (a d : ℕ) → a + a + 1 ≡ d + d → ⊥
    odd a d e = omega arith
doubled_same (suc x) (suc y) a b e = let r = doubled_same x y a b (halves (doubled x (a + a + 1)) (doubled y (b + b + 1)) e) in (ap suc r.0, r.1)
  where
    halves : (c d : ℕ) → c + c ≡ d + d → c ≡ d
    halves c d e = omega arith

-- what is doubled isn't zero
doubled_some : (x m : ℕ) → 0 < m → 0 < doubled x m
doubled_some zero m p = p
doubled_some (suc x) m p = omega (arith, doubled_some x m p)

-- no name has the number zero
number_some : (a : List ℕ) → 0 < number_of a
number_some [] = omega arith
number_some (x ∷ xs) = doubled_some (suc x) (number_of xs + number_of xs + 1) (omega arith)

-- one isn't even
even_one : (d : ℕ) → 1 ≡ d + d → ⊥
even_one d e = omega arith

-- two names of one number are the same
number_same : (a b : List ℕ) → number_of a ≡ number_of b → a ≡ b
number_same [] [] e = refl
number_same [] (y ∷ ys) e = absurd (even_one (doubled y (number_of ys + number_of ys + 1)) e)
number_same (x ∷ xs) [] e = absurd (even_one (doubled x (number_of xs + number_of xs + 1)) (sym e))
number_same (x ∷ xs) (y ∷ ys) e =
    let r = doubled_same (suc x) (suc y) (number_of xs) (number_of ys) e in
    let first : x ≡ y = omega (arith, r.0) in
    ap (λ z. z ∷ xs) first ∙ ap (λ zs. y ∷ zs) (number_same xs ys r.1)

-- a name is the same as itself
pub same_bytes : (a : List ℕ) → bytes_eq a a ≡ true
same_bytes [] = refl
same_bytes (x ∷ xs) = rw (eq-eqb x x refl, same_bytes xs) refl

-- names are the same where their numbers are
names_apart : IsNumbering number_of
names_apart a b = elim (cases_Bool (bytes_eq a b)) [
  | inl t ↦ t ∙ sym (eq-eqb (number_of a) (number_of b) (ap number_of (same_text a b (sym t))))
  | inr t ↦ t ∙ sym (ne_eqb (number_of a) (number_of b) (λ e. true≢false (sym (same_bytes a) ∙ ap (bytes_eq a) (number_same a b e) ∙ t)))
]

-- no name has the number of the key space and the store
no_keys : (a : List ℕ) → number_of a ≡ keys → ⊥
no_keys a e = absurd (omega (arith, number_some a, e))

-- so names can be numbered
pub names_have_numbers : (num : List ℕ → ℕ) × IsNumbering num × ((name : List ℕ) → num name ≡ keys → ⊥)
names_have_numbers = (number_of, names_apart, no_keys)
