-- What an answer says of the request that it answers.
use Rattle.std.specs.Prelude.{ℕ, ◌+◌, ◌-◌, ◌^◌, ◌==◌, ◌&&◌, ◌||◌, List, length, Bool, if◌then◌else◌, nat_le}
use Rattle.gz_label.specs.declared.label.Label.{Label}
use Rattle.gz_journal.specs.JournalList.{max_end}

-- an append's answer
pub record Done : Type 0 where
  pub status : ℕ
  pub begin : ℕ
  pub end : ℕ
  pub registers : List Label

-- a read's answer
pub record Returned : Type 0 where
  pub status : ℕ
  pub offset : ℕ
  pub content : List ℕ
  pub head : ℕ

-- an answer: a draw was made or refused, or what an append or a read came to
pub data Answer : Type 0 where
  Made : (revision : ℕ) → Answer
  Refused : Answer
  Appended : (done : Done) → Answer
  Given : (returned : Returned) → Answer

-- ---- appends

-- what became of an append
pub data Fate : Type 0 where
  Landed : Fate
  -- nothing landed, and the same is sent again
  Again : Fate
  -- nothing landed: the journal has no room, it ends at another offset, or its registers don't match
  NoRoom : Fate
  Elsewhere : Fate
  Mismatch : (registers : List Label) → Fate
  -- it lands or not
  Closed : Fate
  -- no answer that it can have
  NoFate : Fate

abbrev pub is_again : ℕ → Bool
is_again status = (nat_le 1 status && nat_le status 4) || (status == 6) || (status == 7)

-- an append of so many bytes landed at these places
abbrev pub fits : ℕ → Done → Bool
fits len d = (d.end == d.begin + len) && nat_le d.end max_end

abbrev pub fate_of : ℕ → Done → Fate
fate_of len d =
    if d.status == 0 then (if fits len d then Landed else NoFate)
    else (if is_again d.status then Again
    else (if d.status == 5 then NoRoom
    else (if d.status == 8 then Elsewhere
    else (if d.status == 9 then Mismatch d.registers
    else (if d.status == 10 then Closed
    else NoFate)))))

-- ---- reads

-- what a read found: bytes, no broker that reads, nothing yet at this head, or no answer that it can have
pub data Found : Type 0 where
  Bytes : (content : List ℕ) → Found
  NoReader : Found
  NotYet : (head : ℕ) → Found
  NoSense : Found

-- the bytes begin at the offset that was asked for
abbrev pub is_from : ℕ → Returned → Bool
is_from asked r = (r.offset == asked) && nat_le (r.offset + length r.content) max_end

abbrev pub found_at : ℕ → Returned → Found
found_at asked r =
    if r.status == 0 then (if is_from asked r then Bytes r.content else NoSense)
    else (if (r.status == 1) || (r.status == 2) then NoReader
    else (if r.status == 3 then NotYet r.head
    else NoSense))

-- ---- draws

-- the greatest revision that a producer can carry
abbrev pub max_draw : ℕ
max_draw = 2 ^ 40 - 1
