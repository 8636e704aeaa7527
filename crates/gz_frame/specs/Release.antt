-- The release rule, after Gazette's message package: which messages of a journal's text are read, each once.
use Rattle.std.specs.Prelude.{ℕ, ◌+◌, List, [], ◌∷◌, ◌++◌, length, map, filter, Option, Some, None, Bool, true, if◌then◌else◌, nat_lt, nat_le, max}
use Rattle.std.specs.List.{list_any}
use Rattle.std.specs.Str.{bytes_eq}
use Rattle.gz_frame.specs.Messages.{Message, is_outside, is_ack, is_end}

-- a clock is above the greatest one so far; where there is none, every clock is
abbrev pub is_above : Option ℕ → ℕ → Bool
is_above None clock = true
is_above (Some greatest) clock = nat_lt greatest clock

abbrev pub greater_of : Option ℕ → ℕ → Option ℕ
greater_of None clock = Some clock
greater_of (Some greatest) clock = Some (max greatest clock)

-- the greatest clock of the ACK and OUTSIDE messages, where these go on after `top`
abbrev pub greatest_from : Option ℕ → List Message → Option ℕ
greatest_from top [] = top
greatest_from top (m ∷ ms) = greatest_from (if is_end m then greater_of top m.clock else top) ms

abbrev pub greatest : List Message → Option ℕ
greatest history = greatest_from None history

-- the messages after the last ACK or OUTSIDE one
abbrev pub since_end : List Message → List Message
since_end [] = []
since_end (m ∷ ms) = if list_any is_end (m ∷ ms) then since_end ms else m ∷ ms

-- those whose clock is above every earlier one's, and above the top
abbrev pub ascending : Option ℕ → List Message → List Message
ascending top [] = []
ascending top (m ∷ ms) = if is_above top m.clock then m ∷ ascending (Some m.clock) ms else ascending top ms

-- What waits for the producer's acknowledgement: the CONTINUE messages since its last ACK or OUTSIDE message
-- whose clock is above the greatest of these, each above every earlier one of them.
abbrev pub chain : List Message → List Message
chain history = ascending None (filter (λ m. is_above (greatest history) m.clock) (since_end history))

-- What a message releases after the earlier messages of its producer. An ACK releases what waits, up to its own
-- clock; an OUTSIDE message releases itself, unless it is a repeat; a CONTINUE message releases nothing.
abbrev pub released : List Message → Message → List Message
released history m =
    if is_ack m then filter (λ w. nat_le w.clock m.clock) (chain history)
    else (if is_outside m then (if is_above (greatest history) m.clock then m ∷ [] else []) else [])

-- the messages of one producer
abbrev pub of_producer : List ℕ → List Message → List Message
of_producer producer ms = filter (λ m. bytes_eq m.producer producer) ms

-- a released message, with the end of the line that released it
pub record Release : Type 0 where
  pub message : Message
  pub end : ℕ
