-- The clock of a producer.
use Rattle.std.specs.Prelude.{ℕ, ◌+◌, ◌*◌, max, List}

-- what clauses see of a producer: its octets, and the last clock that it gave
pub record Ticking : Type 0 where
  pub id : List ℕ
  pub last : ℕ

-- the clock after the last one, at a time: the next one, or the start of that time where it is later
abbrev pub tick_of : ℕ → ℕ → ℕ
tick_of last now = max (last + 1) (now * 16)
