-- Lists that begin alike. The proofs compare prefixes by the number of their members, so that is how it is said.
use Rattle.std.specs.Prelude.{◌≡◌, List, length, take}

-- ys begins with xs
pub record IsPrefix {A : Type 0} (xs ys : List A) : Type 0 where
  pub prefix : take (length xs) ys ≡ xs
