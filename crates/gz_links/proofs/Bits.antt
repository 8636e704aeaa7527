-- Flags and rows at their places.
use Rattle.std.proofs.Common.{◌≡◌, ℕ, zero, suc, ◌+◌, ◌<◌, ◌≤◌, ◌||◌, inl, inr, List, [], ◌∷◌, ◌++◌, drop, length, get_or, refl, sym, arith, append_assoc, add-one, Bool, false}
use Rattle.std.proofs.Math.Seq.{drop-cons}
use Rattle.std.proofs.lemmas.Bool.{cases_lt}
use Rattle.gz_links.specs.Cycles.{bit, row, rest_of, either}

pub bit_get : (i : ℕ) (xs : List Bool) → bit i xs ≡ get_or xs i false
bit_get i [] = refl
bit_get zero (x ∷ xs) = refl
bit_get (suc i) (x ∷ xs) = bit_get i xs

pub bit_past : (i : ℕ) (xs : List Bool) → length xs ≤ i → bit i xs ≡ false
bit_past i [] past = refl
bit_past zero (x ∷ xs) past = absurd (omega arith)
bit_past (suc i) (x ∷ xs) past = bit_past i xs (omega arith)

pub row_here : (i : ℕ) (rs : List (List Bool)) (r : List Bool) → i < length rs → r ≡ get_or rs i r → row i rs ≡ r
row_here i [] r below is = absurd (omega arith)
row_here zero (s ∷ rs) r below is = sym is
row_here (suc i) (s ∷ rs) r below is = row_here i rs r (omega arith) is

pub row_past : (i : ℕ) (rs : List (List Bool)) → length rs ≤ i → row i rs ≡ []
row_past i [] past = refl
row_past zero (s ∷ rs) past = absurd (omega arith)
row_past (suc i) (s ∷ rs) past = row_past i rs (omega arith)

pub none_past : (n : ℕ) (xs : List Bool) → length xs ≤ n → drop n xs ≡ []
none_past zero [] past = refl
none_past (suc n) [] past = refl
none_past zero (x ∷ xs) past = absurd (omega arith)
none_past (suc n) (x ∷ xs) past = none_past n xs (omega arith)

drop_bit : (i : ℕ) (xs : List Bool) → i < length xs → drop i xs ≡ bit i xs ∷ drop (suc i) xs
drop_bit i xs below = rw (drop-cons xs i false below, bit_get i xs) refl

first_bit : (i : ℕ) (xs : List Bool) → bit 0 (drop i xs) ≡ bit i xs
first_bit i xs = elim (cases_lt i (length xs)) [ inl below ↦ rw (drop_bit i xs below) refl | inr past ↦ rw (none_past i xs past, bit_past i xs past) refl ]

rest_bits : (i : ℕ) (xs : List Bool) → rest_of (drop i xs) ≡ drop (suc i) xs
rest_bits i xs =
    elim (cases_lt i (length xs)) [
      | inl below ↦ rw (drop_bit i xs below) refl
      | inr past ↦ (let more : length xs ≤ suc i = omega arith in rw (none_past i xs past, none_past (suc i) xs more) refl)
    ]

-- the flags at place i of two rows were put behind the others
pub either_turn : (r o : List Bool) (i : ℕ) (y : Bool) (prefix longer : List Bool) → i < length r → y ≡ (bit i r || bit i o) → longer ≡ prefix ++ y ∷ []
    → longer ++ either (drop (i + 1) r) (drop (i + 1) o) ≡ prefix ++ either (drop i r) (drop i o)
either_turn r o i y prefix longer below is l =
    rw (add-one, drop_bit i r below, first_bit i o, rest_bits i o, l, is, append_assoc) refl

-- behind the last flag of a row the other's flags are left
pub either_past : (r o : List Bool) → either (drop (length r) r) (drop (length r) o) ≡ drop (length r) o
either_past r o = let past : length r ≤ length r = omega arith in rw (none_past (length r) r past) refl
