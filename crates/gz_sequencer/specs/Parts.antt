-- What is kept of each producer, message by message.
use Rattle.std.specs.Prelude.{ℕ, ◌&&◌, List, [], ◌∷◌, ◌++◌, filter, Option, Some, None, unwrap_or, Bool, false, not, if◌then◌else◌, nat_lt, nat_le}
use Rattle.std.specs.Ordering.{nat_cmp}
use Rattle.std.specs.Cmp.Lexicographic.{slice_cmp}
use Rattle.std.specs.Map.{lookup, set_value}
use Rattle.std.specs.BTreeMap.{insert_entry, is_at}
use Rattle.gz_frame.specs.Messages.{Message, is_outside, is_ack, is_end}
use Rattle.gz_frame.specs.Release.{is_above, greater_of}
use Rattle.gz_frame.specs.Text.{Placed}

-- What is kept of a producer: the greatest clock of its ACK and OUTSIDE messages, the offset of the first message
-- that waits for its acknowledgement, the clock of the last one, and these messages.
pub record Part : Type 0 where
  pub ack : Option ℕ
  pub first : Option ℕ
  pub last : Option ℕ
  pub pending : List Message

abbrev pub nothing : Part
nothing = record { ack = None; first = None; last = None; pending = [] }

-- a CONTINUE message waits where its clock is above all that were acknowledged and above all that wait
abbrev pub does_wait : Part → Message → Bool
does_wait part m = is_above part.ack m.clock && is_above part.last m.clock

-- one more message waits
abbrev pub with_waiting : Part → Placed → Part
with_waiting part p = record {
  ack = part.ack;
  first = Some (unwrap_or part.first p.begin);
  last = Some p.message.clock;
  pending = part.pending ++ p.message ∷ [];
}

-- an ACK or an OUTSIDE message ends what waits
abbrev pub ended : Part → ℕ → Part
ended part clock = record { ack = greater_of part.ack clock; first = None; last = None; pending = [] }

abbrev pub continued : Part → Placed → Part
continued part p = if does_wait part p.message then with_waiting part p else part

-- what is kept after a message of the producer
abbrev pub part_after : Part → Placed → Part
part_after part p = if is_end p.message then ended part p.message.clock else continued part p

-- what the message releases
abbrev pub part_releases : Part → Message → List Message
part_releases part m =
    if is_ack m then filter (λ w. nat_le w.clock m.clock) part.pending
    else (if is_outside m then (if is_above part.ack m.clock then m ∷ [] else []) else [])

-- A message is read again: it only waits once more, from the first one that waited on.
abbrev pub is_from : Option ℕ → ℕ → Bool
is_from None begin = false
is_from (Some first) begin = nat_le first begin

abbrev pub part_again : Part → Placed → Part
part_again part p = if is_from part.first p.begin && not (is_end p.message) then continued part p else part

-- what is kept of each producer, in the producers' order
abbrev pub Parts : Type 0
Parts = List (List ℕ × Part)

abbrev pub part_of : List ℕ → Parts → Part
part_of producer parts = unwrap_or (lookup (is_at (slice_cmp nat_cmp producer)) parts) nothing

-- A message whose line begins below `until` is read again.
abbrev pub parts_after : ℕ → Parts → Placed → Parts
parts_after until parts p =
    if nat_lt p.begin until
    then set_value (is_at (slice_cmp nat_cmp p.message.producer)) parts (part_again (part_of p.message.producer parts) p)
    else insert_entry (slice_cmp nat_cmp) parts p.message.producer (part_after (part_of p.message.producer parts) p)

abbrev pub releases : ℕ → Parts → Placed → List Message
releases until parts p = if nat_lt p.begin until then [] else part_releases (part_of p.message.producer parts) p.message

-- what is kept after messages in order, and what they release
abbrev pub parts_after_all : ℕ → Parts → List Placed → Parts
parts_after_all until parts [] = parts
parts_after_all until parts (p ∷ ps) = parts_after_all until (parts_after until parts p) ps

abbrev pub releases_of_all : ℕ → Parts → List Placed → List Message
releases_of_all until parts [] = []
releases_of_all until parts (p ∷ ps) = releases until parts p ++ releases_of_all until (parts_after until parts p) ps
