-- A sequencer: what it keeps of the text that it was fed, byte by byte; its checkpoints, and how it goes on from one.
use Rattle.std.specs.Prelude.{ℕ, ◌+◌, ◌==◌, List, [], ◌∷◌, ◌++◌, length, map, drop, min, max, Option, Some, None, if◌then◌else◌}
use Rattle.gz_model.specs.Lines.{newline}
use Rattle.gz_frame.specs.Messages.{Message}
use Rattle.gz_frame.specs.Text.{Placed, message_of}
use Rattle.gz_sequencer.specs.Parts.{Part, Parts, parts_after, releases}

-- Lines that begin below `until` were read before. The line that begins at `begin` isn't whole yet.
pub record Machine : Type 0 where
  pub until : ℕ
  pub begin : ℕ
  pub line : List ℕ
  pub parts : Parts
  pub released : List Message

-- the offset that it wants next
abbrev pub at : Machine → ℕ
at s = s.begin + length s.line

-- a whole line of so many bytes, with the message that it is, if it is one
abbrev pub after_message : Option Message → Machine → ℕ → Machine
after_message None s len = record { until = s.until; begin = s.begin + len; line = []; parts = s.parts; released = s.released }
after_message (Some m) s len =
    let p : Placed = record { begin = s.begin; end = s.begin + len; message = m } in
    record { until = s.until; begin = s.begin + len; line = []; parts = parts_after s.until s.parts p; released = s.released ++ releases s.until s.parts p }

abbrev pub after_line : Machine → List ℕ → Machine
after_line s line = after_message (message_of line) s (length line)

abbrev pub after_byte : Machine → ℕ → Machine
after_byte s b = if b == newline then after_line s (s.line ++ b ∷ []) else record s { line = s.line ++ b ∷ [] }

-- after one byte after another
abbrev pub fed : Machine → List ℕ → Machine
fed s [] = s
fed s (b ∷ bs) = fed (after_byte s b) bs

-- What a checkpoint has of a producer: the greatest clock of its ACK and OUTSIDE messages, and the offset of the
-- first message that waits.
pub record Mark : Type 0 where
  pub ack : Option ℕ
  pub pending : Option ℕ

-- a checkpoint: the offset after the last whole line, and the marks of the producers in their order
pub record Point : Type 0 where
  pub offset : ℕ
  pub producers : List (List ℕ × Mark)

abbrev pub mark_of : Part → Mark
mark_of part = record { ack = part.ack; pending = part.first }

-- Until the lines below `until` are read again, the checkpoint is the one from which the sequencer was made.
abbrev pub point_of : Machine → Point
point_of s = record { offset = max s.until s.begin; producers = map (λ e. (e.0, mark_of e.1)) s.parts }

-- what is known of a producer from its mark: its messages that waited are to be read again
abbrev pub part_at : Mark → Part
part_at mark = record { ack = mark.ack; first = mark.pending; last = None; pending = [] }

abbrev pub least_with : Option ℕ → ℕ → ℕ
least_with None least = least
least_with (Some first) least = min least first

-- the least of an offset and the offsets of the first messages that wait
abbrev pub least_from : ℕ → List (List ℕ × Mark) → ℕ
least_from least [] = least
least_from least (e ∷ es) = least_from (least_with e.1.pending least) es

abbrev pub resumed : Point → Machine
resumed point = record {
  until = point.offset;
  begin = least_from point.offset point.producers;
  line = [];
  parts = map (λ e. (e.0, part_at e.1)) point.producers;
  released = [];
}

-- a sequencer that begins at an offset
abbrev pub started : ℕ → Machine
started offset = record { until = offset; begin = offset; line = []; parts = []; released = [] }

-- the first released message is taken
abbrev pub taken : Machine → Machine
taken s = record s { released = drop 1 s.released }
