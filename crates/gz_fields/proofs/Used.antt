-- Names that were used before.
use Rattle.std.proofs.Common.{◌≡◌, ℕ, ◌||◌, List, [], ◌∷◌, ◌++◌, refl, sym, ◌∙◌, Bool, true, false}
use Rattle.std.specs.Str.{bytes_eq}
use Rattle.std.proofs.lemmas.Slice.Eq.{bytes_eq-Decides}
use Rattle.gz_fields.specs.Lists.{is_used}

pub not_true : (b : Bool) → (b ≡ true → ⊥) → b ≡ false
not_true true none = absurd (none refl)
not_true false none = refl

pub same_bytes : (xs : List ℕ) → bytes_eq xs xs ≡ true
same_bytes xs = (bytes_eq-Decides xs xs).1 refl

one_same : (a b : List ℕ) (t : Bool) → t ≡ bytes_eq b a → bytes_eq a b ≡ true → t ≡ true
one_same a b t is same = let e : a ≡ b = (bytes_eq-Decides a b).0 same in is ∙ rw e (same_bytes b)

turned : (s t : Bool) → (s ≡ true → t ≡ true) → (t ≡ true → s ≡ true) → s ≡ t
turned true t there back = sym (there refl)
turned false true there back = back refl
turned false false there back = refl

pub bytes_turned : (a b : List ℕ) → bytes_eq a b ≡ bytes_eq b a
bytes_turned a b = turned (bytes_eq a b) (bytes_eq b a) (one_same a b (bytes_eq b a) refl) (one_same b a (bytes_eq a b) refl)

left_false : (a b : Bool) → (a || b) ≡ false → a ≡ false
left_false false b none = refl
left_false true b none = none

right_false : (a b : Bool) → (a || b) ≡ false → b ≡ false
right_false false b none = none
right_false true b none = absurd (cc)

neither : (a b : Bool) → a ≡ false → b ≡ false → (a || b) ≡ false
neither a b f g = rw (f, g) refl

pub used_parts : (used : List (List ℕ)) (name other : List ℕ) → is_used (used ++ name ∷ []) other ≡ false
    → (is_used used other ≡ false) × (bytes_eq other name ≡ false)
used_parts [] name other none = (refl, left_false (bytes_eq other name) false none)
used_parts (u ∷ us) name other none =
    let b = used_parts us name other (right_false (bytes_eq other u) (is_used (us ++ name ∷ []) other) none) in (
      neither (bytes_eq other u) (is_used us other)
          (left_false (bytes_eq other u) (is_used (us ++ name ∷ []) other) none) b.0,
      b.1,
    )
