-- What a shard keeps of a source: the checkpoint after what it has read of it; and what reading on gives.
use Rattle.std.specs.Prelude.{◌≡◌, ◌≤◌, ◌<◌, ◌+◌, ◌^◌, ℕ, List, [], ◌∷◌, ◌++◌, length, take, drop, map, flat_map, Option, Some, None, nat_lt, if◌then◌else◌, ⊤}
use Rattle.gz_frame.specs.Messages.{Message}
use Rattle.gz_sequencer.specs.Committed.{committed}
use Rattle.gz_sequencer.specs.Machine.{Point, started, fed, point_of}
use Rattle.gz_promise.specs.Journals.{Journal, text_of, place_of}
use Rattle.gz_promise.specs.Parts.{part}
use Rattle.gz_plain.specs.declared.reader.Next.{Next}
use Rattle.gz_plain.specs.declared.reader.Reader.{Reader}

-- the text of a reader, from its offset on
abbrev pub text_behind : Reader → List ℕ → List ℕ
text_behind r text = drop r.from text

-- The checkpoint is that of so many bytes of the text.
pub record IsRead (r : Reader) (text : List ℕ) : Type 0 where
  pub within : r.read ≤ length (text_behind r text)
  pub at : r.point ≡ point_of (fed (started r.from) (take r.read (text_behind r text)))

-- the messages that the bytes behind those release
abbrev pub news : Reader → List ℕ → List Message
news r text = part (r.from + r.read) (r.from + length (text_behind r text)) (committed r.from (text_behind r text))

-- all of the text, with its checkpoint
abbrev pub whole : Reader → List ℕ → Next
whole r text = record { read = length (text_behind r text); point = point_of (fed (started r.from) (text_behind r text)) }

-- the reader that has read on, where there is more to read
abbrev pub reading : List ℕ → Reader → Reader
reading text r = record r { next = if nat_lt r.read (length (text_behind r text)) then Some (whole r text) else None }

-- what it has read counts
abbrev pub accepted_if : Option Next → Reader → Reader
accepted_if None r = record { journal = r.journal; place = r.place; from = r.from; read = r.read; point = r.point; next = None }
accepted_if (Some n) r = record { journal = r.journal; place = r.place; from = r.from; read = n.read; point = n.point; next = None }

abbrev pub accepted : Reader → Reader
accepted r = accepted_if r.next r

-- ---- among journals

abbrev pub text_for : List Journal → Reader → List ℕ
text_for js r = text_of r.journal js

abbrev pub reading_all : List Journal → List Reader → List Reader
reading_all js rs = map (λ r. reading (text_for js r) r) rs

abbrev pub accepted_all : List Reader → List Reader
accepted_all rs = map accepted rs

abbrev pub all_news : List Journal → List Reader → List Message
all_news js rs = flat_map (λ r. news r (text_for js r)) rs

abbrev pub end_of_reader : Reader → ℕ
end_of_reader r = r.from + r.read

-- each reader knows its journal's place, and what it has read of it
abbrev pub AreRead : List Journal → List Reader → Type 0
AreRead js [] = ⊤
AreRead js (r ∷ rs) = ((r.from ≤ 2 ^ 62) × (r.place ≡ place_of r.journal js) × IsRead r (text_for js r)) × AreRead js rs

-- the offsets up to which they have read are numbers of 64 bits
abbrev pub HaveRoom : List Reader → Type 0
HaveRoom [] = ⊤
HaveRoom (r ∷ rs) = (end_of_reader r < 2 ^ 64) × HaveRoom rs
