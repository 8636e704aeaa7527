-- Answers that wait, in the order in which they came.
use Rattle.std.specs.Prelude.{ℕ, List, [], ◌∷◌, Bool, true, false, ◌&&◌, nat_le}
use Rattle.gz_broker.specs.Brokers.{Queued}

-- the first one has its reach below the head, or at it
abbrev pub is_first_reached : ℕ → List Queued → Bool
is_first_reached head [] = false
is_first_reached head (q ∷ qs) = nat_le q.reach head

-- no reach is below this one, nor below the one before it
abbrev pub is_ascending_from : ℕ → List Queued → Bool
is_ascending_from low [] = true
is_ascending_from low (q ∷ qs) = nat_le low q.reach && is_ascending_from q.reach qs
