-- A reader of a journal, as the theorem of exactly once needs it: producers and values are numbers, and a text is the
-- list of its messages, the newest first. That it is the release rule of journals' messages is a law (`Coding`).
use Rattle.std.specs.Prelude.{ℕ, ◌+◌, ◌==◌, nat_le, List, [], ◌∷◌, ◌++◌, if◌then◌else◌, Bool}

-- what a line says to its readers
pub record Line : Type 0 where
  pub clock : ℕ
  pub value : ℕ

-- A message waits for an acknowledgement of its producer, acknowledges those before it, or stands by itself.
pub data Kind : Type 0 where
  Continue : Kind
  Acknowledge : Kind
  Outside : Kind

pub record Message : Type 0 where
  pub producer : ℕ
  pub clock : ℕ
  pub kind : Kind
  pub value : ℕ

-- What a reader keeps of one producer: the least clock above all that was acknowledged or stood by itself, and the
-- lines that wait for the next acknowledgement.
pub record Rest : Type 0 where
  pub next : ℕ
  pub chain : List Line

pub record Reader : Type 0 where
  pub rest : ℕ → Rest
  -- what it accepted so far, in order
  pub accepted : List Message

-- the function f, but v at n
abbrev pub updated : {A : Type 0} → (ℕ → A) → ℕ → A → ℕ → A
updated f n v = λ m. if m == n then v else f m

-- the least clock above n and above the chain
abbrev pub above : ℕ → List Line → ℕ
above n [] = n
above n (l ∷ ls) = above (l.clock + 1) ls

-- the message of a producer's line
abbrev pub line_message : ℕ → Line → Message
line_message p l = record { producer = p; clock = l.clock; kind = Continue; value = l.value }

-- the chain's messages up to a clock
abbrev pub up_to : ℕ → ℕ → List Line → List Message
up_to p clock [] = []
up_to p clock (l ∷ ls) = if nat_le l.clock clock then line_message p l ∷ up_to p clock ls else up_to p clock ls

-- the least clock above n and above c
abbrev pub raise : ℕ → ℕ → ℕ
raise n c = if nat_le n c then c + 1 else n

-- A line waits where its clock is above all that was acknowledged and all that waits; otherwise it stands again.
abbrev pub take_line : Rest → Line → Rest
take_line r l = if nat_le (above r.next r.chain) l.clock then record r { chain = r.chain ++ l ∷ [] } else r

abbrev pub take_lines : Rest → List Line → Rest
take_lines r [] = r
take_lines r (l ∷ ls) = take_lines (take_line r l) ls

-- an acknowledgement ends what waits
abbrev pub take_ack : Rest → ℕ → Rest
take_ack r c = record { next = raise r.next c; chain = [] }

-- The reader after one message. An acknowledgement releases what waits, up to its clock.
abbrev pub take_kind : Reader → ℕ → ℕ → ℕ → Kind → Reader
take_kind s p c v Continue =
    record s { rest = updated s.rest p (take_line (s.rest p) (record { clock = c; value = v })) }
take_kind s p c v Acknowledge =
    record { rest = updated s.rest p (take_ack (s.rest p) c); accepted = s.accepted ++ up_to p c (s.rest p).chain }
take_kind s p c v Outside = record {
  rest = updated s.rest p (take_ack (s.rest p) c);
  accepted = if nat_le (s.rest p).next c then s.accepted ++ record { producer = p; clock = c; kind = Outside; value = v } ∷ [] else s.accepted;
}

abbrev pub takes : Reader → Message → Reader
takes s m = take_kind s m.producer m.clock m.value m.kind

-- the reader of a text
abbrev pub read : List Message → Reader
read [] = record { rest = λ p. record { next = 0; chain = [] }; accepted = [] }
read (m ∷ ms) = takes (read ms) m

-- the committed messages of a text: those that its reader accepts
abbrev pub committed : List Message → List Message
committed text = (read text).accepted

-- the lines of one append come to the end of a text
abbrev pub pour : ℕ → List Line → List Message → List Message
pour p [] t = t
pour p (l ∷ ls) t = pour p ls (line_message p l ∷ t)

-- the message that acknowledges a producer's lines up to a clock
abbrev pub acknowledgement : ℕ → ℕ → Message
acknowledgement p c = record { producer = p; clock = c; kind = Acknowledge; value = 0 }

-- the values of the messages whose producer is one of these
abbrev pub values_of : (ℕ → Bool) → List Message → List ℕ
values_of own [] = []
values_of own (m ∷ ms) = if own m.producer then m.value ∷ values_of own ms else values_of own ms
