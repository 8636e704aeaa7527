-- The greatest size of a placement, as the words have it.
use Rattle.std.specs.Prelude.{◌≡◌, ℕ, ◌+◌, ◌*◌, ◌<◌, ◌≤◌, List}
use Rattle.gz_alloc.specs.Flow.{Net, Cells, Keeps, items, members, total}
use Rattle.gz_alloc.specs.Names.{Asked, IsFeasible, IsFeasibleOf, size}

-- some feasible placement has so many pairs, and none has more
pub record IsGreatest (asked : Asked) (n : ℕ) : Type 0 where
  pub attained : (pairs : List (List ℕ × List ℕ)) × IsFeasibleOf asked pairs n
  pub most : (pairs : List (List ℕ × List ℕ)) → IsFeasible asked pairs → size asked pairs ≤ n

-- two tables agree at each pair that comes before the item and the member
abbrev pub AgreeBefore : Net → Cells → Cells → ℕ → ℕ → Type 0
AgreeBefore net x y i m = (j n : ℕ) → j < items net → n < members net → 64 * j + n < 64 * i + m → x j n ≡ y j n

-- some table that keeps the bounds has so many pairs
abbrev pub IsAttained : Net → ℕ → Type 0
IsAttained net n = (x : Cells) × (Keeps net x × (total net x ≡ n))

-- no table that keeps the bounds, and agrees with this one so far, has more pairs
abbrev pub IsMostOf : Net → Cells → ℕ → ℕ → ℕ → Type 0
IsMostOf net x i m n = (y : Cells) → Keeps net y → AgreeBefore net x y i m → total net y ≤ n
