-- How what shards are said to be is seen.
use Rattle.std.specs.Prelude.{ℕ, ◌≤◌, ◌^◌, ◌-◌, List, [], ◌∷◌, length, map, take, Bool, if◌then◌else◌, Option, Some, None, ⊤}
use Rattle.std.specs.Str.{bytes_eq}
use Rattle.gz_sequencer.specs.Machine.{fed, point_of, started}
use Rattle.gz_plain.specs.declared.cluster.Definition as declared
use Rattle.gz_plain.specs.declared.cluster.Source as named
use Rattle.gz_plain.specs.declared.reader.Reader.{Reader}
use Rattle.gz_plain.specs.declared.shard.Shard.{Shard}
use Rattle.gz_plain.specs.declared.writer.Writer.{Writer}
use Rattle.gz_promise.specs.Journals.{Journal, place_of}
use Rattle.gz_plain.specs.Definitions.{Definition, resumes_at}
use Rattle.gz_plain.specs.Running.{journals_of}
use Rattle.gz_plain.specs.Runs.{ArePresent}
use Rattle.gz_plain.specs.Shards.{Mark}
use Rattle.gz_promise.specs.Sources.{Source, all_committed, froms_of, parts, text_from}

abbrev pub source_named : named.Source → Source
source_named s = record { journal = s.journal; from = s.from }

abbrev pub definition_of : declared.Definition → Definition
definition_of d = record { id = d.id; log = d.log; sources = map source_named d.sources.items; outputs = d.outputs.items; app = d.app; is_disabled = d.is_disabled }

abbrev pub definitions_of : List declared.Definition → List Definition
definitions_of ds = map definition_of ds

-- offsets of at most 2^62
abbrev pub AreSmallSources : List named.Source → Type 0
AreSmallSources [] = ⊤
AreSmallSources (s ∷ ss) = (s.from ≤ 2 ^ 62) × AreSmallSources ss

abbrev pub AreSmall : List declared.Definition → Type 0
AreSmall [] = ⊤
AreSmall (d ∷ ds) = AreSmallSources d.sources.items × AreSmall ds

-- each source and each output is a journal
abbrev pub AreLinked : List Journal → List Definition → Type 0
AreLinked js [] = ⊤
AreLinked js (d ∷ ds) = (ArePresent (journals_of d.sources) js × ArePresent d.outputs js) × AreLinked js ds

-- a reader of a source that has read nothing, and a writer to an output
abbrev pub reader_at : List Journal → named.Source → Reader
reader_at js s = record { journal = s.journal; place = place_of s.journal js; from = s.from; read = 0; point = point_of (started s.from); next = None }

abbrev pub writer_at : List Journal → List ℕ → Writer
writer_at js name = record { journal = name; place = place_of name js }

-- Where a shard of these marks reads a source on: where its commits have read it to, or from its offset on where there
-- are none.
abbrev pub reaches : List Journal → Bool → List Mark → Source → ℕ
reaches js has_commits marks s = if has_commits then resumes_at js marks s else s.from

-- a reader of a source that has read it up to an offset
abbrev pub reader_upto : List Journal → ℕ → named.Source → Reader
reader_upto js to s = record {
  journal = s.journal;
  place = place_of s.journal js;
  from = s.from;
  read = to - s.from;
  point = point_of (fed (started s.from) (take (to - s.from) (text_from js (source_named s))));
  next = None;
}

-- readers that have read each source up to where the shard reads it on
abbrev pub readers_upto : List Journal → Bool → List Mark → List named.Source → List Reader
readers_upto js has_commits marks ss = map (λ s. reader_upto js (reaches js has_commits marks (source_named s)) s) ss

-- how many messages they have passed
abbrev pub passed : List Journal → Bool → List Mark → List Source → ℕ
passed js has_commits marks ss = length (parts (froms_of ss) (map (reaches js has_commits marks) ss) (all_committed js ss))

-- the first of the shards, where it has the id, and the shards but for that one
abbrev pub lead_of : List ℕ → List Shard → Option Shard
lead_of id [] = None
lead_of id (s ∷ ss) = if bytes_eq s.id id then Some s else None

abbrev pub behind_lead : List ℕ → List Shard → List Shard
behind_lead id [] = []
behind_lead id (s ∷ ss) = if bytes_eq s.id id then ss else s ∷ ss
