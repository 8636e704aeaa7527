-- How the messages of journals are told to the reader: a producer by a number, a key and a value by one number.
use Rattle.std.specs.Prelude.{ℕ, ◌+◌, ◌≡◌, zero, suc, List, [], ◌∷◌, ◌++◌, length, if◌then◌else◌}
use Rattle.gz_frame.specs.Messages as frame
use Rattle.gz_frame.specs.Text.{messages_of}
use Rattle.gz_sequencer.specs.Committed.{messages_alone}
use Rattle.gz_reader.specs.Reader.{Kind, Continue, Acknowledge, Outside, Message}

-- a number for each producer, and one for each key and value
pub record Coding : Type 0 where
  pub producer : List ℕ → ℕ
  pub value : List ℕ → List ℕ → ℕ

-- different producers have different numbers
abbrev pub TellsProducers : Coding → Type 0
TellsProducers c = (p q : List ℕ) → c.producer p ≡ c.producer q → p ≡ q

abbrev pub kind_of : frame.Message → Kind
kind_of m = if frame.is_ack m then Acknowledge else (if frame.is_outside m then Outside else Continue)

-- the message as the reader takes it
abbrev pub coded : Coding → frame.Message → Message
coded c m = record { producer = c.producer m.producer; clock = m.clock; kind = kind_of m; value = c.value m.key m.value }

abbrev pub all_coded : Coding → List frame.Message → List Message
all_coded c [] = []
all_coded c (m ∷ ms) = coded c m ∷ all_coded c ms

-- messages in order come to the end of a text
abbrev pub text_after : Coding → List Message → List frame.Message → List Message
text_after c text [] = text
text_after c text (m ∷ ms) = text_after c (coded c m ∷ text) ms

-- the text of a journal, from an offset on, as the reader has it
abbrev pub text_of : Coding → ℕ → List ℕ → List Message
text_of c offset bytes = text_after c [] (messages_alone (messages_of offset bytes))

-- n doubled m times
abbrev pub doubled : ℕ → ℕ → ℕ
doubled zero n = n
doubled (suc m) n = doubled m n + doubled m n

-- a number for each list of numbers
abbrev pub number_of : List ℕ → ℕ
number_of [] = 0
number_of (x ∷ xs) = doubled x (number_of xs + number_of xs + 1)

-- one that tells everything apart
abbrev pub plain_coding : Coding
plain_coding = record { producer = number_of; value = λ key value. number_of (length key ∷ key ++ value) }
