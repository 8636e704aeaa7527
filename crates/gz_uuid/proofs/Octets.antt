-- Lists of a known length, item by item.
use Rattle.std.proofs.Common.{◌≡◌, ℕ, List, [], ◌∷◌, length, slice_index, refl, arith}

-- a list of six is its six items
pub six_items : (xs : List ℕ) → length xs ≡ 6 →
    xs ≡ slice_index xs 0 ∷ slice_index xs 1 ∷ slice_index xs 2 ∷ slice_index xs 3 ∷ slice_index xs 4 ∷ slice_index xs 5 ∷ []
six_items (a ∷ b ∷ c ∷ d ∷ e ∷ f ∷ []) six = refl
six_items xs six = absurd (omega arith)
