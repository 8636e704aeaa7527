-- Which output a key chooses, and what readers of an output accept.
use Rattle.std.specs.Prelude.{ℕ, ◌%◌, ◌==◌, ◌||◌, List, [], ◌∷◌, map, filter, sum, Bool, false}
use Rattle.std.specs.Str.{bytes_eq}
use Rattle.gz_frame.specs.Messages.{Message}
use Rattle.gz_app.specs.Applications.{Output}
use Rattle.gz_sequencer.specs.Committed.{committed, released_in}

-- A key chooses an output by the sum of its bytes.
abbrev pub choice : ℕ → List ℕ → ℕ
choice count key = sum key % count

-- what goes to this one of so many outputs
abbrev pub routed : ℕ → ℕ → List Output → List Output
routed count place os = filter (λ o. choice count o.key == place) os

-- the key and the value of each message
abbrev pub outputs_in : List Message → List Output
outputs_in ms = map (λ m. record { key = m.key; value = m.value }) ms

-- the producer is one of these
abbrev pub is_one : List (List ℕ) → List ℕ → Bool
is_one [] producer = false
is_one (p ∷ ps) producer = bytes_eq producer p || is_one ps producer

-- what readers of a text accept of these producers
abbrev pub accepted_of : List (List ℕ) → List ℕ → List Output
accepted_of producers text = outputs_in (filter (λ m. is_one producers m.producer) (released_in (committed 0 text)))
