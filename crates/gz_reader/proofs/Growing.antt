-- Lists with the newest first that have grown.
use Rattle.std.proofs.Common.{◌≡◌, ◌≤◌, List, [], ◌∷◌, length, refl, arith, inl, inr}
use Rattle.gz_reader.specs.Lists.{Begins}

pub begins_refl : {A : Type 0} (xs : List A) → Begins xs xs
begins_refl [] = refl
begins_refl (x ∷ xs) = inl refl
