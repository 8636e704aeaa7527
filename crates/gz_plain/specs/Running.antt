-- What shards keep of their sources and outputs, as the program has it.
use Rattle.std.specs.Prelude.{◌≡◌, ◌≤◌, ◌+◌, ℕ, List, [], ◌∷◌, ◌++◌, length, take, map, ⊤}
use Rattle.gz_frame.specs.Messages.{Message}
use Rattle.gz_frame.specs.Release.{Release}
use Rattle.gz_sequencer.specs.Committed.{committed}
use Rattle.gz_promise.specs.Applications.{folded, emitted}
use Rattle.gz_promise.specs.Journals.{Journal}
use Rattle.gz_plain.specs.Places.{ArePlaced}
use Rattle.gz_plain.specs.Readers.{AreRead, accepted_all, end_of_reader, reading_all, text_behind, text_for}
use Rattle.gz_plain.specs.Runs.{ArePresent}
use Rattle.gz_plain.specs.Seen.{shard_of}
use Rattle.gz_plain.specs.Shards as shards
use Rattle.gz_plain.specs.Shards.{read_order, last_offsets}
use Rattle.gz_promise.specs.Sources.{Source, end_of}
use Rattle.gz_plain.specs.declared.reader.Reader.{Reader}
use Rattle.gz_plain.specs.declared.shard.Shard.{Shard}

-- each offset is at or before the end of its source
abbrev pub Upto : List Journal → List ℕ → List Source → Type 0
Upto js [] ss = ⊤
Upto js (to ∷ tos) [] = ⊤
Upto js (to ∷ tos) (s ∷ ss) = (to ≤ end_of js s) × Upto js tos ss

abbrev pub AllUpto : List Journal → List (List ℕ) → List Source → Type 0
AllUpto js [] ss = ⊤
AllUpto js (tos ∷ commits) ss = Upto js tos ss × AllUpto js commits ss

-- the lines that released these end at or before an offset
abbrev pub AllEndBy : ℕ → List Release → Type 0
AllEndBy to [] = ⊤
AllEndBy to (r ∷ rs) = (r.end ≤ to) × AllEndBy to rs

-- Of what was read, all that was released was released up to the offset of the last commit.
pub record IsTaken (offset : ℕ) (r : Reader) (text : List ℕ) : Type 0 where
  pub below : offset ≤ r.from + r.read
  pub ended : AllEndBy offset (committed r.from (take r.read (text_behind r text)))

abbrev pub AreTaken : List Journal → List ℕ → List Reader → Type 0
AreTaken js [] [] = ⊤
AreTaken js [] (r ∷ rs) = ⊥
AreTaken js (o ∷ os) [] = ⊥
AreTaken js (o ∷ os) (r ∷ rs) = IsTaken o r (text_for js r) × AreTaken js os rs

-- the journals that sources read
abbrev pub journals_of : List Source → List (List ℕ)
journals_of sources = map (λ s. s.journal) sources

-- what a shard reads and writes is there
abbrev pub IsLinked : List Journal → shards.Shard → Type 0
IsLinked js s = ArePresent (journals_of s.sources) js × ArePresent s.outputs js

-- what is kept of a shard fits the journals
pub record IsKept (js : List Journal) (s : Shard) : Type 0 where
  pub readers : AreRead js s.readers
  pub taken : AreTaken js (last_offsets (shard_of s)) s.readers
  pub upto : AllUpto js s.commits.items (shard_of s).sources
  pub writers : ArePlaced js s.writers.items
  pub linked : IsLinked js (shard_of s)
  pub count : s.messages ≡ length (read_order js (shard_of s))

abbrev pub AllKept : List Journal → List Shard → Type 0
AllKept js [] = ⊤
AllKept js (s ∷ ss) = IsKept js s × AllKept js ss

-- a shard that has read on
abbrev pub read_further : List Journal → Shard → Shard
read_further js s = record s { readers = reading_all js s.readers }

-- what was read counts
abbrev pub read_up : Shard → Shard
read_up s = record s { readers = accepted_all s.readers }

-- the shard after a commit of messages, which its readers have read
pub record IsCommitted (s : Shard) (ms : List Message) (new : Shard) : Type 0 where
  pub producer : new.producer ≡ record s.producer { last = s.producer.last + length (emitted s.app s.store ms) + 1 }
  pub readers : new.readers ≡ accepted_all s.readers
  pub writers : new.writers.items ≡ s.writers.items
  pub app : new.app ≡ s.app
  pub is_disabled : new.is_disabled ≡ s.is_disabled
  pub id : new.id ≡ s.id
  pub log : new.log ≡ s.log
  pub past : new.past ≡ s.past
  pub commits : new.commits.items ≡ s.commits.items ++ map end_of_reader (accepted_all s.readers) ∷ []
  pub messages : new.messages ≡ s.messages + length ms
  pub store : new.store ≡ folded s.app s.store ms
