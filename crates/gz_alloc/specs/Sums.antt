-- Sums and counts over the numbers below a number.
use Rattle.std.specs.Prelude.{ℕ, ◌+◌, ◌&&◌, Bool, true, false, suc}
use Prim.Native.Nat.{zero}

-- the value where the test passes, else 0
abbrev pub when : Bool → ℕ → ℕ
when true v = v
when false v = 0

-- f 0 + f 1 + .. + f (n - 1)
abbrev pub sum_to : ℕ → (ℕ → ℕ) → ℕ
sum_to zero f = 0
sum_to (suc n) f = sum_to n f + f n

-- how many of the numbers below n pass
abbrev pub count_to : ℕ → (ℕ → Bool) → ℕ
count_to n p = sum_to n (λ i. when (p i) 1)

-- all of the numbers below n pass
abbrev pub all_to : ℕ → (ℕ → Bool) → Bool
all_to zero p = true
all_to (suc n) p = all_to n p && p n
