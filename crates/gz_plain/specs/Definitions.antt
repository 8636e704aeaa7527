-- What shards are said to be, and what another definition makes of a shard.
use Rattle.std.specs.Prelude.{◌≡◌, ℕ, ◌+◌, ◌==◌, ◌&&◌, ◌||◌, not, List, [], ◌∷◌, ◌++◌, length, filter, map, Bool, true, false, if◌then◌else◌, Option, Some, None, nat_le, ⊤, ◌⊎◌}
use Rattle.std.specs.Str.{bytes_eq}
use Rattle.gz_uuid.specs.Producer.{shard_octets}
use Rattle.gz_app.specs.declared.app.AppKind.{AppKind}
use Rattle.gz_app.specs.declared.app.AppKind.TheVariants.{Count, Relay, Latest}
use Rattle.gz_promise.specs.Journals.{Journal}
use Rattle.gz_plain.specs.Shards.{Mark, Past, Shard, last_offsets}
use Rattle.gz_promise.specs.Sources.{Source, end_of}

-- what a shard is said to be
pub record Definition : Type 0 where
  pub id : List ℕ
  pub log : List ℕ
  pub sources : List Source
  pub outputs : List (List ℕ)
  pub app : AppKind
  pub is_disabled : Bool

-- ---- a shard that begins

-- A shard that has read nothing. The producer of its lines is 05 and its number.
abbrev pub fresh : ℕ → Definition → Shard
fresh number d = record {
  id = d.id;
  log = d.log;
  producer = shard_octets number;
  sources = d.sources;
  outputs = d.outputs;
  app = d.app;
  is_disabled = d.is_disabled;
  past = None;
  commits = [];
  clock = 0;
  store = [];
}

-- ---- the same definition

abbrev pub same_app : AppKind → AppKind → Bool
same_app Count Count = true
same_app Relay Relay = true
same_app Latest Latest = true
same_app _ _ = false

abbrev pub same_names : List (List ℕ) → List (List ℕ) → Bool
same_names [] [] = true
same_names [] (y ∷ ys) = false
same_names (x ∷ xs) [] = false
same_names (x ∷ xs) (y ∷ ys) = bytes_eq x y && same_names xs ys

abbrev pub same_sources : List Source → List Source → Bool
same_sources [] [] = true
same_sources [] (y ∷ ys) = false
same_sources (x ∷ xs) [] = false
same_sources (x ∷ xs) (y ∷ ys) = bytes_eq x.journal y.journal && (x.from == y.from) && same_sources xs ys

-- The shard keeps its definition: the same sources with the same least offsets, recovery log, application and outputs.
-- Whether it is disabled may change.
abbrev pub keeps_definition : Definition → Shard → Bool
keeps_definition d s = same_sources d.sources s.sources && same_names d.outputs s.outputs && same_app d.app s.app && bytes_eq d.log s.log

-- ---- another definition

-- one of the sources is this journal
abbrev pub is_read : List ℕ → List Source → Bool
is_read journal [] = false
is_read journal (s ∷ ss) = bytes_eq s.journal journal || is_read journal ss

-- a mark for each source
abbrev pub marked : List Source → List ℕ → List Mark
marked [] offsets = []
marked (s ∷ ss) [] = []
marked (s ∷ ss) (o ∷ offsets) = record { journal = s.journal; offset = o } ∷ marked ss offsets

-- where the commits of these sources came to, and for other journals where the earlier ones had come to
abbrev pub remarked : List Source → List ℕ → List Mark → List Mark
remarked sources offsets marks = marked sources offsets ++ filter (λ m. not (is_read m.journal sources)) marks

abbrev pub marks_after : Option Past → Shard → List Mark
marks_after None s = if length s.commits == 0 then [] else marked s.sources (last_offsets s)
marks_after (Some p) s = if length s.commits == p.commits then p.marks else remarked s.sources (last_offsets s) p.marks

-- how far the shard's commits have read each journal; where none was made under its definition, that leaves no mark
abbrev pub marks_of : Shard → List Mark
marks_of s = marks_after s.past s

-- the mark of a journal; where there is none, the offset from which it is read
abbrev pub mark_or : ℕ → List ℕ → List Mark → ℕ
mark_or from journal [] = from
mark_or from journal (m ∷ ms) = if bytes_eq m.journal journal then m.offset else mark_or from journal ms

abbrev pub least : ℕ → ℕ → ℕ
least a b = if nat_le a b then a else b

-- The offset from which a source is read on: its mark, or its end where that comes before.
abbrev pub resumes_at : List Journal → List Mark → Source → ℕ
resumes_at js marks s = least (mark_or s.from s.journal marks) (end_of js s)

-- A shard of another definition. It keeps its producer, its clock and its state. Its commits so far count as commits of
-- the sources that it has now, up to where these were read.
abbrev pub with_definition : List Journal → Definition → Shard → Shard
with_definition js d s = record {
  id = s.id;
  log = d.log;
  producer = s.producer;
  sources = d.sources;
  outputs = d.outputs;
  app = d.app;
  is_disabled = d.is_disabled;
  past = Some (record { commits = length s.commits; marks = marks_of s });
  commits = map (λ offsets. map (resumes_at js (marks_of s)) d.sources) s.commits;
  clock = s.clock;
  store = s.store;
}

-- the shard from now on
abbrev pub continued : List Journal → Definition → Shard → Shard
continued js d s = if keeps_definition d s then record s { is_disabled = d.is_disabled } else with_definition js d s

-- ---- all shards

-- The shards of these definitions. A definition of the next shard's id is that shard's from now on, and any other one
-- begins a shard, which gets the next number.
abbrev pub redefined : List Journal → ℕ → List Definition → List Shard → List Shard
redefined js number [] ss = []
redefined js number (d ∷ ds) [] = fresh number d ∷ redefined js (number + 1) ds []
redefined js number (d ∷ ds) (s ∷ ss) =
    if bytes_eq s.id d.id then continued js d s ∷ redefined js number ds ss else fresh number d ∷ redefined js (number + 1) ds (s ∷ ss)

-- what a shard is
abbrev pub definition_of : Shard → Definition
definition_of s = record { id = s.id; log = s.log; sources = s.sources; outputs = s.outputs; app = s.app; is_disabled = s.is_disabled }

-- ---- shards that go on

-- A shard goes on as another one: it has the same id, and the same producer with the same last clock, state and number
-- of commits.
pub record GoesOn (s new : Shard) : Type 0 where
  pub id : new.id ≡ s.id
  pub producer : new.producer ≡ s.producer
  pub clock : new.clock ≡ s.clock
  pub store : new.store ≡ s.store
  pub commits : length new.commits ≡ length s.commits

-- each of these shards goes on among the others, in their order
abbrev pub AllGoOn : List Shard → List Shard → Type 0
AllGoOn [] new = ⊤
AllGoOn (s ∷ ss) [] = ⊥
AllGoOn (s ∷ ss) (t ∷ new) = (GoesOn s t × AllGoOn ss new) ⊎ AllGoOn (s ∷ ss) new
