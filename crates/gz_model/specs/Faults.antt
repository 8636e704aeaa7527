-- Counts of faults.
use Rattle.std.specs.Prelude.{ℕ, ◌+◌, ◌-◌, ◌^◌, ◌≤◌, min}

-- A count has risen. One that stands at its type's end counts as risen.
abbrev pub HasRisen : ℕ → ℕ → Type 0
HasRisen old new = min (old + 1) (2 ^ 64 - 1) ≤ new
