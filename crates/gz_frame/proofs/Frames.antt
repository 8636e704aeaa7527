-- The bytes with which a frame begins, compared one by one.
use Rattle.std.proofs.Common.{◌≡◌, ℕ, ◌<◌, ◌≤◌, ◌+◌, ◌*◌, ◌^◌, ◌==◌, List, [], ◌∷◌, length, drop, get_or, slice_index, Some, None, refl, false, drop-cons, arith}
use Rattle.std.proofs.lemmas.Grind.{common_steps}
use Rattle.gz_frame.specs.Frame.{magic, first_other, length_in}

nothing_left : (at : ℕ) (ms : List ℕ) → None ≡ first_other at ms []
nothing_left at [] = refl
nothing_left at (m ∷ ms) = refl

drop_past : (bytes : List ℕ) (i : ℕ) → length bytes ≤ i → drop i bytes ≡ []
drop_past bytes i past = grind (arith, common_steps)

pub no_more_bytes : (i : ℕ) (bytes : List ℕ) → length bytes ≤ i → None ≡ first_other i (drop i magic) (drop i bytes)
no_more_bytes i bytes past = rw (drop_past bytes i past) (nothing_left i (drop i magic))

not_same : (m b : ℕ) → (b ≡ m → ⊥) → (b == m) ≡ false
not_same m b other = grind (arith, common_steps)

pub other_here : (i : ℕ) (bytes : List ℕ) → i < 4 → i < length bytes → (slice_index bytes i ≡ slice_index magic i → ⊥) →
    Some i ≡ first_other i (drop i magic) (drop i bytes)
other_here i bytes few within other = rw (drop-cons bytes i 0 within, drop-cons magic i 0 few, not_same (slice_index magic i) (slice_index bytes i) other) refl

-- ---- the length behind the magic

pub length_read : (bytes : List ℕ) → length_in bytes ≡ get_or bytes 4 0 + 2 ^ 8 * (get_or bytes 5 0 + 2 ^ 8 * (get_or bytes 6 0 + 2 ^ 8 * get_or bytes 7 0))
length_read [] = refl
length_read (a ∷ []) = refl
length_read (a ∷ b ∷ []) = refl
length_read (a ∷ b ∷ c ∷ []) = refl
length_read (a ∷ b ∷ c ∷ d ∷ []) = refl
length_read (a ∷ b ∷ c ∷ d ∷ e ∷ []) = omega arith
length_read (a ∷ b ∷ c ∷ d ∷ e ∷ f ∷ []) = omega arith
length_read (a ∷ b ∷ c ∷ d ∷ e ∷ f ∷ g ∷ []) = omega arith
length_read (a ∷ b ∷ c ∷ d ∷ e ∷ f ∷ g ∷ h ∷ rest) = omega arith
