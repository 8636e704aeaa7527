-- Shards over the texts of journals, and what a step and a settle make of them.
use Rattle.std.specs.Prelude.{ℕ, zero, suc, ◌+◌, ◌%◌, ◌==◌, List, [], ◌∷◌, ◌++◌, length, filter, flat_map, sum, nat_lt, ◌^◌, Bool, if◌then◌else◌, Option}
use Rattle.gz_label.specs.declared.entry.Attempt.{Attempt}
use Rattle.gz_frame.specs.Messages.{Message}
use Rattle.gz_frame.specs.Line.{line_of}
use Rattle.gz_app.specs.Applications.{Output}
use Rattle.gz_promise.specs.Applications.{folded, emitted}
use Rattle.gz_app.specs.States.{State}
use Rattle.gz_app.specs.declared.app.AppKind.{AppKind}
use Rattle.gz_promise.specs.Journals.{Journal, appended}
use Rattle.gz_promise.specs.Outputs.{choice}
use Rattle.gz_plain.specs.Plain.{lines_from, ack_at}
use Rattle.gz_promise.specs.Sources.{Source, froms_of, ends_of, all_committed, parts, order_of, last_of}

-- the offset to which a shard has read a journal
pub record Mark : Type 0 where
  pub journal : List ℕ
  pub offset : ℕ

-- What earlier definitions of a shard leave it: how many commits they made, and how far each journal was read then.
pub record Past : Type 0 where
  pub commits : ℕ
  pub marks : List Mark

-- A shard: its id, the prefix of its recovery log, the producer of its lines, its sources, the journals that it puts
-- out to, in ascending order of their names, its application, and whether it is disabled; what earlier definitions left
-- it, and nothing where it keeps the one that it began with; and what it has come to: the offsets of its sources in
-- each commit, the last clock of its lines, and the application's state.
pub record Shard : Type 0 where
  pub id : List ℕ
  pub log : List ℕ
  pub producer : List ℕ
  pub sources : List Source
  pub outputs : List (List ℕ)
  pub app : AppKind
  pub is_disabled : Bool
  pub past : Option Past
  pub commits : List (List ℕ)
  pub clock : ℕ
  pub store : State

-- the shard's read order
abbrev pub read_order : List Journal → Shard → List Message
read_order js s = order_of (froms_of s.sources) s.commits (all_committed js s.sources)

-- the offsets of the last commit
abbrev pub last_offsets : Shard → List ℕ
last_offsets s = last_of (froms_of s.sources) s.commits

-- the messages that are released and not yet taken
abbrev pub untaken : List Journal → Shard → List Message
untaken js s = parts (last_offsets s) (ends_of js s.sources) (all_committed js s.sources)

-- ---- what a commit writes

-- the lines for one of so many outputs
abbrev pub lines_to : ℕ → ℕ → List Message → List Message
lines_to count place lines = filter (λ m. choice count m.key == place) lines

-- lines, and behind them their acknowledgement, where there are any
abbrev pub closed : Message → List Message → List Message
closed ack [] = []
closed ack (m ∷ ms) = m ∷ ms ++ ack ∷ []

abbrev pub text_of_lines : List Message → List ℕ
text_of_lines ms = flat_map line_of ms

-- each output journal gets its lines, and the acknowledgement behind them, as one entry of this attempt
abbrev pub written_to : Attempt → ℕ → ℕ → List Message → Message → List (List ℕ) → List Journal → List Journal
written_to attempt count place lines ack [] js = js
written_to attempt count place lines ack (name ∷ names) js =
    written_to attempt count (place + 1) lines ack names (appended attempt name (text_of_lines (closed ack (lines_to count place lines))) js)

-- the attempt of the shard's next commit: the shard's id, and the commit's number, from 1
abbrev pub attempt_of : Shard → Attempt
attempt_of s = record { node = s.id; req = length s.commits + 1 }

-- the journals after a commit of a shard that puts these out
abbrev pub journals_after : Shard → List Output → List Journal → List Journal
journals_after s os js =
    written_to (attempt_of s) (length s.outputs) 0 (lines_from s.producer s.clock os) (ack_at s.producer (s.clock + length os + 1)) s.outputs js

-- ---- a step

-- journals and shards
pub record World : Type 0 where
  pub journals : List Journal
  pub shards : List Shard

-- a shard beside the journals
pub record Beside : Type 0 where
  pub journals : List Journal
  pub shard : Shard

-- the shard after a commit of these messages
abbrev pub committing : List Journal → List Message → Shard → Shard
committing js ms s = record s {
  commits = s.commits ++ ends_of js s.sources ∷ [];
  clock = s.clock + length (emitted s.app s.store ms) + 1;
  store = folded s.app s.store ms;
}

abbrev pub commit : List Journal → List Message → Shard → Beside
commit js ms s = record { journals = journals_after s (emitted s.app s.store ms) js; shard = committing js ms s }

-- The clocks of a commit's lines, of which there is at most one a message, and of its acknowledgement are below 2 to
-- the 64.
abbrev pub has_room : List Message → Shard → Bool
has_room ms s = nat_lt (s.clock + length ms + 1) (2 ^ 64)

-- a commit, unless there is nothing to take, or the clock is at its end
abbrev pub commit_if : List Journal → List Message → Shard → Beside
commit_if js [] s = record { journals = js; shard = s }
commit_if js (m ∷ ms) s = if has_room (m ∷ ms) s then commit js (m ∷ ms) s else record { journals = js; shard = s }

-- The plain step: all messages that are released and not yet taken are one commit. A disabled shard takes none.
abbrev pub stepped : List Journal → Shard → Beside
stepped js s = if s.is_disabled then record { journals = js; shard = s } else commit_if js (untaken js s) s

-- ---- a settle

-- each shard in turn makes a step
abbrev pub round : List Shard → List Journal → World
round [] js = record { journals = js; shards = [] }
round (s ∷ ss) js = record {
  journals = (round ss (stepped js s).journals).journals;
  shards = (stepped js s).shard ∷ (round ss (stepped js s).journals).shards;
}

abbrev pub rounds : ℕ → World → World
rounds zero w = w
rounds (suc n) w = rounds n (round w.shards w.journals)

-- As many rounds as there are shards.
abbrev pub settled : World → World
settled w = rounds (length w.shards) w
