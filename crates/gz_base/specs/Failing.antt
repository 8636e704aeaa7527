-- Which of the calls to come fail.
use Rattle.std.specs.Prelude.{◌≡◌, ℕ, ◌+◌, ◌-◌, ◌^◌, ◌==◌, min, List, Bool, Option, Some, None, ⊤}
use Rattle.std.specs.List.{list_any}

-- a call ends as was told, and the later ones have moved up by one
abbrev pub FailsAsTold : Option (ℕ → Bool) → Option (ℕ → Bool) → Bool → Type 0
FailsAsTold None new failed = ⊤
FailsAsTold (Some old) None failed = ⊥
FailsAsTold (Some old) (Some new) failed = (old 0 ≡ failed) × ((k : ℕ) → new k ≡ old (k + 1))

-- a call that may fail beside what was told, and the later ones have moved up by one
abbrev pub MovesUp : Option (ℕ → Bool) → Option (ℕ → Bool) → Type 0
MovesUp None new = ⊤
MovesUp (Some old) None = ⊥
MovesUp (Some old) (Some new) = (k : ℕ) → new k ≡ old (k + 1)

-- Whether the call fails that has this number among those to come: after so many calls, where the numbers from 0 of
-- those that fail are these. The count of calls stands still at its type's end.
abbrev pub is_failing : List ℕ → ℕ → ℕ → Bool
is_failing failing calls k = list_any (λ n. n == min (calls + k) (2 ^ 64 - 1)) failing
