-- Ascending numbers, and one of them taken away.
use Rattle.std.proofs.Common.{◌≡◌, ℕ, ◌+◌, ◌<◌, ◌≤◌, List, [], ◌∷◌, ◌++◌, Bool, true, false, not, length, refl, ap, ◌∙◌, sym, subst, arith, nat_eq, eq-eqb}
use Rattle.std.specs.Prelude.{cond, filter}
use Rattle.std.proofs.lemmas.List.Elements.{filter-append}
use Rattle.gz_ranks.specs.Numbers.{AreAbove, AreBelow, AreAscending, without}

-- ---- parts of a list that ascends

above_left : (n : ℕ) (xs ys : List ℕ) → AreAbove n (xs ++ ys) → AreAbove n xs
above_left n [] ys h = tt
above_left n (x ∷ xs) ys h = (h.0, above_left n xs ys h.1)

above_at : (n : ℕ) (xs : List ℕ) (y : ℕ) (ys : List ℕ) → AreAbove n (xs ++ y ∷ ys) → n < y
above_at n [] y ys h = h.0
above_at n (x ∷ xs) y ys h = above_at n xs y ys h.1

pub ascending_left : (xs : List ℕ) (y : ℕ) (ys : List ℕ) → AreAscending (xs ++ y ∷ ys) → AreAscending xs
ascending_left [] y ys h = tt
ascending_left (x ∷ xs) y ys h = (above_left x xs (y ∷ ys) h.0, ascending_left xs y ys h.1)

pub ascending_right : (xs : List ℕ) (y : ℕ) (ys : List ℕ) → AreAscending (xs ++ y ∷ ys) → AreAscending ys
ascending_right [] y ys h = h.1
ascending_right (x ∷ xs) y ys h = ascending_right xs y ys h.1

pub below_left : (xs : List ℕ) (y : ℕ) (ys : List ℕ) → AreAscending (xs ++ y ∷ ys) → AreBelow y xs
below_left [] y ys h = tt
below_left (x ∷ xs) y ys h = (above_at x xs y ys h.0, below_left xs y ys h.1)

pub above_right : (xs : List ℕ) (y : ℕ) (ys : List ℕ) → AreAscending (xs ++ y ∷ ys) → AreAbove y ys
above_right [] y ys h = h.0
above_right (x ∷ xs) y ys h = above_right xs y ys h.1

-- ---- one taken away

keeps : (n x : ℕ) (xs : List ℕ) → nat_eq x n ≡ false → without n (x ∷ xs) ≡ x ∷ without n xs
keeps n x xs e = ap (λ b. cond (not b) (x ∷ without n xs) (without n xs)) e

loses : (n : ℕ) (xs : List ℕ) → without n (n ∷ xs) ≡ without n xs
loses n xs = ap (λ b. cond (not b) (n ∷ without n xs) (without n xs)) (eq-eqb n n refl)

differs : (x n : ℕ) → (x < n) → nat_eq x n ≡ false
differs x n h = grind arith

differs_above : (x n : ℕ) → (n < x) → nat_eq x n ≡ false
differs_above x n h = grind arith

without_below : (n m : ℕ) (xs : List ℕ) → m ≤ n → AreBelow m xs → without n xs ≡ xs
without_below n m [] le h = refl
without_below n m (x ∷ xs) le h = keeps n x xs (differs x n (omega (arith, h.0))) ∙ ap (λ l. x ∷ l) (without_below n m xs le h.1)

without_above : (n m : ℕ) (xs : List ℕ) → n ≤ m → AreAbove m xs → without n xs ≡ xs
without_above n m [] le h = refl
without_above n m (x ∷ xs) le h = keeps n x xs (differs_above x n (omega (arith, h.0))) ∙ ap (λ l. x ∷ l) (without_above n m xs le h.1)

-- a number that is less than the middle one
pub without_left : (n : ℕ) (xs : List ℕ) (y : ℕ) (ys : List ℕ) → AreAscending (xs ++ y ∷ ys) → n < y → without n (xs ++ y ∷ ys) ≡ without n xs ++ y ∷ ys
without_left n xs y ys h less =
    filter-append (λ x. not (nat_eq x n)) xs (y ∷ ys)
    ∙ ap (λ l. without n xs ++ l) (keeps n y ys (differs_above y n less) ∙ ap (λ l. y ∷ l) (without_above n y ys (omega arith) (above_right xs y ys h)))

-- the middle one
pub without_middle : (xs : List ℕ) (y : ℕ) (ys : List ℕ) → AreAscending (xs ++ y ∷ ys) → without y (xs ++ y ∷ ys) ≡ xs ++ ys
without_middle xs y ys h =
    filter-append (λ x. not (nat_eq x y)) xs (y ∷ ys)
    ∙ ap (λ l. l ++ without y (y ∷ ys)) (without_below y y xs (omega arith) (below_left xs y ys h))
    ∙ ap (λ l. xs ++ l) (loses y ys ∙ without_above y y ys (omega arith) (above_right xs y ys h))

-- a number that is greater than the middle one
pub without_right : (n : ℕ) (xs : List ℕ) (y : ℕ) (ys : List ℕ) → AreAscending (xs ++ y ∷ ys) → y < n → without n (xs ++ y ∷ ys) ≡ xs ++ y ∷ without n ys
without_right n xs y ys h more =
    filter-append (λ x. not (nat_eq x n)) xs (y ∷ ys)
    ∙ ap (λ l. l ++ without n (y ∷ ys)) (without_below n y xs (omega arith) (below_left xs y ys h))
    ∙ ap (λ l. xs ++ l) (keeps n y ys (differs y n more))

-- ---- what ascends goes on to ascend

above_without : (m n : ℕ) (xs : List ℕ) → AreAbove m xs → AreAbove m (without n xs)
above_without m n [] h = tt
above_without m n (x ∷ xs) h = step (nat_eq x n) (above_without m n xs h.1) where
  step : (b : Bool) → AreAbove m (without n xs) → AreAbove m (cond (not b) (x ∷ without n xs) (without n xs))
  step true more = more
  step false more = (h.0, more)

pub ascending_without : (n : ℕ) (xs : List ℕ) → AreAscending xs → AreAscending (without n xs)
ascending_without n [] h = tt
ascending_without n (x ∷ xs) h = step (nat_eq x n) (ascending_without n xs h.1) where
  step : (b : Bool) → AreAscending (without n xs) → AreAscending (cond (not b) (x ∷ without n xs) (without n xs))
  step true more = more
  step false more = (above_without x n xs h.0, more)

above_last : (m n : ℕ) (xs : List ℕ) → AreAbove m xs → m < n → AreAbove m (xs ++ n ∷ [])
above_last m n [] h less = (less, tt)
above_last m n (x ∷ xs) h less = (h.0, above_last m n xs h.1 less)

pub ascending_last : (n : ℕ) (xs : List ℕ) → AreAscending xs → AreBelow n xs → AreAscending (xs ++ n ∷ [])
ascending_last n [] h below = (tt, tt)
ascending_last n (x ∷ xs) h below = (above_last x n xs h.0 below.0, ascending_last n xs h.1 below.1)

-- a list gets no longer
pub length_without : (n : ℕ) (xs : List ℕ) → length (without n xs) ≤ length xs
length_without n [] = omega arith
length_without n (x ∷ xs) = step (nat_eq x n) (length_without n xs) where
  step : (b : Bool) → length (without n xs) ≤ length xs → length (cond (not b) (x ∷ without n xs) (without n xs)) ≤ length (x ∷ xs)
  step true more = omega arith
  step false more = omega arith

-- the same of values that are equal to these
pub ascending_pushed : {made tree inside old : List ℕ} {number slot : ℕ} → made ≡ tree ++ number ∷ [] → tree ≡ inside → number ≡ slot → inside ≡ old → AreAscending inside → AreBelow slot old → AreAscending made
ascending_pushed {made} {tree} {inside} {old} {number} {slot} is from same view ascending below =
    let above : AreBelow number inside = subst (λ n. AreBelow n inside) (sym same) (subst (AreBelow slot) (sym view) below) in
    subst AreAscending (sym (is ∙ ap (λ l. l ++ number ∷ []) from)) (ascending_last number inside ascending above)

pub ascending_removed : {made tree inside : List ℕ} (number : ℕ) → made ≡ without number tree → tree ≡ inside → AreAscending inside → AreAscending made
ascending_removed {made} {tree} {inside} number is from ascending =
    subst AreAscending (sym (is ∙ ap (without number) from)) (ascending_without number inside ascending)
