-- Lemmas on sums and counts.
use Rattle.std.proofs.Common.{◌≡◌, ℕ, ◌+◌, ◌*◌, ◌<◌, ◌≤◌, ◌≢◌, Bool, true, false, refl, ap, ◌∙◌, sym, arith, inl, inr, ◌⊎◌, ⊎_elim, add-one}
use Prim.Native.Nat.{zero, suc}
use Rattle.std.proofs.lemmas.Bool.{cases_eq}
use Rattle.gz_alloc.specs.Sums.{when, sum_to, count_to}

pub sum_to_le : (n : ℕ) (f g : ℕ → ℕ) → ((i : ℕ) → i < n → f i ≤ g i) → sum_to n f ≤ sum_to n g
sum_to_le zero f g h = omega arith
sum_to_le (suc n) f g h = let prefix : sum_to n f ≤ sum_to n g = sum_to_le n f g (λ i p. h i (omega arith)) in let last : f n ≤ g n = h n (omega arith) in omega arith

pub sum_to_eq : (n : ℕ) (f g : ℕ → ℕ) → ((i : ℕ) → i < n → f i ≡ g i) → sum_to n f ≡ sum_to n g
sum_to_eq zero f g h = refl
sum_to_eq (suc n) f g h = let prefix : sum_to n f ≡ sum_to n g = sum_to_eq n f g (λ i p. h i (omega arith)) in let last : f n ≡ g n = h n (omega arith) in omega arith

pub sum_to_add : (n : ℕ) (f g : ℕ → ℕ) → sum_to n (λ i. f i + g i) ≡ sum_to n f + sum_to n g
sum_to_add zero f g = refl
sum_to_add (suc n) f g = let prefix : sum_to n (λ i. f i + g i) ≡ sum_to n f + sum_to n g = sum_to_add n f g in omega arith

pub sum_to_none : (n : ℕ) → sum_to n (λ _. 0) ≡ 0
sum_to_none zero = refl
sum_to_none (suc n) = let prefix : sum_to n (λ _. 0) ≡ 0 = sum_to_none n in omega arith

pub sum_to_zero : (n : ℕ) (f : ℕ → ℕ) → ((i : ℕ) → i < n → f i ≡ 0) → sum_to n f ≡ 0
sum_to_zero n f h = sum_to_eq n f (λ _. 0) h ∙ sum_to_none n

pub sum_to_swap : (n k : ℕ) (f : ℕ → ℕ → ℕ) → sum_to n (λ i. sum_to k (λ m. f i m)) ≡ sum_to k (λ m. sum_to n (λ i. f i m))
sum_to_swap zero k f = sym (sum_to_none k)
sum_to_swap (suc n) k f = ap (λ s. s + sum_to k (λ m. f n m)) (sum_to_swap n k f) ∙ sym (sum_to_add k (λ m. sum_to n (λ i. f i m)) (λ m. f n m))

-- a place is part of the sum
pub sum_to_part : (n : ℕ) (f : ℕ → ℕ) (j : ℕ) → j < n → f j ≤ sum_to n f
sum_to_part zero f j h = omega arith
sum_to_part (suc n) f j h = ⊎_elim (λ (e : j ≡ n). let here : f j ≡ f n = ap f e in omega arith) (λ (ne : j ≢ n). let prefix : f j ≤ sum_to n f = sum_to_part n f j (omega arith) in omega arith) (cases_eq j n)

-- two functions that agree but at one place
pub sum_to_but : (n : ℕ) (f g : ℕ → ℕ) (j : ℕ) → j < n → ((i : ℕ) → i < n → i ≢ j → f i ≡ g i) → sum_to n f + g j ≡ sum_to n g + f j
sum_to_but zero f g j h same = omega arith
sum_to_but (suc n) f g j h same = ⊎_elim
    (λ (e : j ≡ n). let prefix : sum_to n f ≡ sum_to n g = sum_to_eq n f g (λ i p. same i (omega arith) (omega arith)) in let hf : f j ≡ f n = ap f e in let hg : g j ≡ g n = ap g e in omega arith)
    (λ (ne : j ≢ n). let prefix : sum_to n f + g j ≡ sum_to n g + f j = sum_to_but n f g j (omega arith) (λ i p q. same i (omega arith) q) in let last : f n ≡ g n = same n (omega arith) (λ e. ne (sym e)) in omega arith)
    (cases_eq j n)

-- a function that is 0 but at one place
pub sum_to_one : (n : ℕ) (f : ℕ → ℕ) (j : ℕ) → j < n → ((i : ℕ) → i < n → i ≢ j → f i ≡ 0) → sum_to n f ≡ f j
sum_to_one n f j h zeros = let e : sum_to n f + 0 ≡ sum_to n (λ _. 0) + f j = sum_to_but n f (λ _. 0) j h zeros in let none : sum_to n (λ _. 0) ≡ 0 = sum_to_none n in omega arith

pub count_to_le : (n : ℕ) (p : ℕ → Bool) → count_to n p ≤ n
count_to_le zero p = omega arith
count_to_le (suc n) p = let prefix : count_to n p ≤ n = count_to_le n p in let last : when (p n) 1 ≤ 1 = when_below (p n) 1 in omega arith
  where
    when_below : (b : Bool) (v : ℕ) → when b v ≤ v
    when_below true v = omega arith
    when_below false v = omega arith

pub count_to_more : (n : ℕ) (p : ℕ → Bool) → count_to (n + 1) p ≡ count_to n p + when (p n) 1
count_to_more n p = rw add-one refl

-- where one number fails the test, fewer pass than there are
pub count_to_room : (n : ℕ) (p : ℕ → Bool) (j : ℕ) → j < n → p j ≡ false → count_to n p + 1 ≤ n
count_to_room zero p j h e = omega arith
count_to_room (suc n) p j h e = ⊎_elim
    (λ (here : j ≡ n). let last : when (p n) 1 ≡ 0 = ap (λ t. when t 1) (sym (ap p here) ∙ e) in let prefix : count_to n p ≤ n = count_to_le n p in omega arith)
    (λ (ne : j ≢ n). let prefix : count_to n p + 1 ≤ n = count_to_room n p j (omega arith) e in let last : when (p n) 1 ≤ 1 = at_most_one (p n) in omega arith)
    (cases_eq j n)
  where
    at_most_one : (b : Bool) → when b 1 ≤ 1
    at_most_one true = omega arith
    at_most_one false = omega arith

pub sum_to_most : (n : ℕ) (f : ℕ → ℕ) → ((i : ℕ) → i < n → f i ≤ 64) → sum_to n f ≤ 64 * n
sum_to_most zero f h = omega arith
sum_to_most (suc n) f h = let prefix : sum_to n f ≤ 64 * n = sum_to_most n f (λ i p. h i (omega arith)) in let last : f n ≤ 64 = h n (omega arith) in omega arith

pub sum_to_more : (n : ℕ) (f : ℕ → ℕ) → sum_to (n + 1) f ≡ sum_to n f + f n
sum_to_more n f = rw add-one refl

-- no number passes, or one does
pub count_to_found : (n : ℕ) (p : ℕ → Bool) → (count_to n p ≡ 0) ⊎ ((j : ℕ) × ((j < n) × (p j ≡ true)))
count_to_found zero p = inl refl
count_to_found (suc n) p = at (p n) refl (count_to_found n p)
  where
    one_up : (j n : ℕ) → j < n → j < suc n
    one_up j n lt = omega arith

    at : (b : Bool) → p n ≡ b → (count_to n p ≡ 0) ⊎ ((j : ℕ) × ((j < n) × (p j ≡ true))) → (count_to (suc n) p ≡ 0) ⊎ ((j : ℕ) × ((j < suc n) × (p j ≡ true)))
    at true e rest = inr (n, (omega arith, e))
    at false e (inl none) = inl (let last : when (p n) 1 ≡ 0 = ap (λ t. when t 1) e in omega arith)
    at false e (inr found) = inr (found.0, (one_up found.0 n found.1.0, found.1.1))
