-- Different lists have different numbers.
use Rattle.std.proofs.Common.{◌≡◌, ℕ, zero, suc, ◌+◌, ◌<◌, List, [], ◌∷◌, refl, ap, ◌∙◌, arith}
use Rattle.gz_reader.specs.Coding.{TellsProducers, doubled, number_of, plain_coding}

-- the places of a pair of equal numbers
odd_apart : (m n a b : ℕ) → doubled m (a + a + 1) ≡ doubled n (b + b + 1) → (m ≡ n) × (a ≡ b)
odd_apart zero zero a b e = (refl, omega arith)
odd_apart zero (suc n) a b e = absurd (let d : ℕ = doubled n (b + b + 1) in let f : a + a + 1 ≡ d + d = e in omega arith)
odd_apart (suc m) zero a b e = absurd (let d : ℕ = doubled m (a + a + 1) in let f : d + d ≡ b + b + 1 = e in omega arith)
odd_apart (suc m) (suc n) a b e =
    let i = odd_apart m n a b (omega arith) in
    (ap suc i.0, i.1)

odd_some : (m a : ℕ) → 0 < doubled m (a + a + 1)
odd_some zero a = omega arith
odd_some (suc m) a = let h = odd_some m a in omega arith

number_tells : (xs ys : List ℕ) → number_of xs ≡ number_of ys → xs ≡ ys
number_tells [] [] e = refl
number_tells [] (y ∷ ys) e = absurd (let h = odd_some y (number_of ys) in omega arith)
number_tells (x ∷ xs) [] e = absurd (let h = odd_some x (number_of xs) in omega arith)
number_tells (x ∷ xs) (y ∷ ys) e =
    let i = odd_apart x y (number_of xs) (number_of ys) e in
    ap (λ v. v ∷ xs) i.0 ∙ ap (λ v. y ∷ v) (number_tells xs ys i.1)

pub plain_tells : TellsProducers plain_coding
plain_tells p q e = number_tells p q e
