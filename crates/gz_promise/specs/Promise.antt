-- The promise: exactly once, in order. It is said of an account, and so of any machine.
use Rattle.std.specs.Prelude.{◌≡◌, ℕ, zero, suc, ◌<◌, ◌==◌, List, [], ◌∷◌, ◌++◌, length, map, filter, flat_map, ⊤, ◌⊎◌}
use Rattle.gz_model.specs.Prefix.{IsPrefix}
use Rattle.gz_frame.specs.Messages.{Message}
use Rattle.gz_sequencer.specs.Committed.{released_in}
use Rattle.gz_app.specs.Applications.{Output}
use Rattle.gz_app.specs.declared.app.AppKind.{AppKind}
use Rattle.gz_promise.specs.Accounts.{Account, Commit, Stream, starts_of, last_state}
use Rattle.gz_promise.specs.Applications.{folded, emitted}
use Rattle.gz_promise.specs.Outputs.{routed}
use Rattle.gz_promise.specs.Parts.{NeverFall, part, read_of}

-- ---- offsets

-- each commit has one offset for each source
abbrev pub HaveOffsets : ℕ → List Commit → Type 0
HaveOffsets count [] = ⊤
HaveOffsets count (c ∷ commits) = (length c.offsets ≡ count) × HaveOffsets count commits

-- the offset of a source
abbrev pub offset_at : ℕ → List ℕ → ℕ
offset_at k [] = 0
offset_at zero (to ∷ tos) = to
offset_at (suc k) (to ∷ tos) = offset_at k tos

-- the source's offsets in the commits
abbrev pub offsets_at : ℕ → List Commit → List ℕ
offsets_at k commits = map (λ c. offset_at k c.offsets) commits

-- ---- the read order

-- a message that was taken, with the number of its source, from 0
pub record Taken : Type 0 where
  pub source : ℕ
  pub message : Message

abbrev pub messages_in : List Taken → List Message
messages_in ts = map (λ t. t.message) ts

-- those of one source
abbrev pub of_source : ℕ → List Taken → List Message
of_source k ts = messages_in (filter (λ t. t.source == k) ts)

-- what the commits take, one behind the other
abbrev pub joined : List (List Taken) → List Taken
joined order = flat_map (λ ts. ts) order

-- what all commits but the last one take
abbrev pub earlier : List (List Taken) → List (List Taken)
earlier [] = []
earlier (ts ∷ []) = []
earlier (ts ∷ us ∷ order) = ts ∷ earlier (us ∷ order)

-- each is of one of so many sources
abbrev pub AllWithin : ℕ → List Taken → Type 0
AllWithin count [] = ⊤
AllWithin count (t ∷ ts) = (t.source < count) × AllWithin count ts

-- of each source, from this number on, what is taken is what is released between two offsets
abbrev pub TakesParts : ℕ → List ℕ → List ℕ → List Stream → List Taken → Type 0
TakesParts k froms tos [] ts = ⊤
TakesParts k froms tos (s ∷ ss) ts =
    (of_source k ts ≡ part (offset_at k froms) (offset_at k tos) s.committed) × TakesParts (suc k) froms tos ss ts

-- Commit by commit: each takes messages of the sources alone, of each source exactly what is released between the
-- commit before and this one. The sources may take turns within a commit.
abbrev pub Interleaves : List Stream → List ℕ → List Commit → List (List Taken) → Type 0
Interleaves sources froms [] [] = ⊤
Interleaves sources froms [] (ts ∷ order) = ⊥
Interleaves sources froms (c ∷ commits) [] = ⊥
Interleaves sources froms (c ∷ commits) (ts ∷ order) =
    AllWithin (length sources) ts × TakesParts 0 froms c.offsets sources ts × Interleaves sources c.offsets commits order

-- Of each source, from this number on: its offsets never fall, and what was read of it is a prefix of its committed
-- messages.
abbrev pub ReadPrefixes : ℕ → List Stream → List Commit → List Taken → Type 0
ReadPrefixes k [] commits read = ⊤
ReadPrefixes k (s ∷ ss) commits read =
    (NeverFall s.from (offsets_at k commits) × IsPrefix (of_source k read) (released_in s.committed)) × ReadPrefixes (suc k) ss commits read

-- ---- the states

-- the state of each commit is the fold over all that was read up to it
abbrev pub AreFolds : AppKind → List Taken → List Commit → List (List Taken) → Type 0
AreFolds app read [] order = ⊤
AreFolds app read (c ∷ commits) [] = ⊥
AreFolds app read (c ∷ commits) (ts ∷ order) =
    (c.state ≡ folded app [] (messages_in (read ++ ts))) × AreFolds app (read ++ ts) commits order

-- ---- the outputs

-- Readers of each of so many outputs, from this place on, accept what the earlier commits emit to it, or what all do: of
-- the last commit all or nothing.
abbrev pub Accept : ℕ → ℕ → List Output → List Output → List (List Output) → Type 0
Accept count place early all [] = ⊤
Accept count place early all (accepted ∷ outputs) =
    ((accepted ≡ routed count place early) ⊎ (accepted ≡ routed count place all)) × Accept count (suc place) early all outputs

-- they accept what all commits emit to it
abbrev pub AcceptAll : ℕ → ℕ → List Output → List (List Output) → Type 0
AcceptAll count place all [] = ⊤
AcceptAll count place all (accepted ∷ outputs) = (accepted ≡ routed count place all) × AcceptAll count (suc place) all outputs

-- what commits emit that take these
abbrev pub emitted_by : AppKind → List (List Taken) → List Output
emitted_by app order = emitted app [] (messages_in (joined order))

-- ---- the promise

-- Exactly once, in order. There is one list, the read order, of which all is said.
pub record ExactlyOnce (a : Account) : Type 0 where
  -- each commit has one offset for each source
  pub offsets : HaveOffsets (length a.sources) a.commits
  -- what each commit takes, in the order in which it takes it
  pub order : List (List Taken)
  -- it interleaves what the commits' offsets have read of each source
  pub interleaves : Interleaves a.sources (starts_of a.sources) a.commits order
  -- of each source that is a prefix of its committed messages: each once, in order
  pub prefixes : ReadPrefixes 0 a.sources a.commits (joined order)
  -- the state of each commit is the application's fold over the read order up to it
  pub states : AreFolds a.app [] a.commits order
  -- the store is the last commit's state
  pub store : a.store ≡ last_state [] a.commits
  -- readers of each output accept what the earlier commits emit to it, and of the last one all or nothing
  pub accepted : Accept (length a.outputs) 0 (emitted_by a.app (earlier order)) (emitted_by a.app order) a.outputs

-- Exactly once, and nothing is missing at the readers of its outputs.
pub record Delivers (a : Account) : Type 0 where
  pub once : ExactlyOnce a
  pub all : AcceptAll (length a.outputs) 0 (emitted_by a.app once.order) a.outputs

-- the read order
abbrev pub read_order : (a : Account) → ExactlyOnce a → List Taken
read_order a once = joined once.order

-- of each source, from this number on, what was read is what its offsets in the commits say
abbrev pub AreRead : ℕ → List Commit → List Stream → List Taken → Type 0
AreRead k commits [] read = ⊤
AreRead k commits (s ∷ ss) read =
    (of_source k read ≡ read_of s.from (offsets_at k commits) s.committed) × AreRead (suc k) commits ss read

-- ---- what is left to read

abbrev pub ReadsEach : ℕ → List Stream → List Commit → Type 0
ReadsEach k [] commits = ⊤
ReadsEach k (s ∷ ss) commits =
    (read_of s.from (offsets_at k commits) s.committed ≡ released_in s.committed) × ReadsEach (suc k) ss commits

-- nothing that its sources have committed is left to read
abbrev pub ReadsAll : Account → Type 0
ReadsAll a = ReadsEach 0 a.sources a.commits

-- no source has committed anything
abbrev pub NothingCommitted : List Stream → Type 0
NothingCommitted [] = ⊤
NothingCommitted (s ∷ ss) = (released_in s.committed ≡ []) × NothingCommitted ss
