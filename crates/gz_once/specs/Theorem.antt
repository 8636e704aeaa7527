-- What is proved of every run.
use Rattle.std.specs.Prelude.{ℕ, ◌+◌, ◌≡◌, ◌<◌, ◌≤◌, ◌⊎◌, List, [], ◌∷◌, ◌++◌, Some, true}
use Rattle.gz_model.specs.Prefix.{IsPrefix}
use Rattle.gz_reader.specs.Lists.{In, Begins}
use Rattle.gz_reader.specs.Reader.{values_of, Message, Continue, Acknowledge, acknowledgement, committed}
use Rattle.gz_once.specs.Applications.{App, fold, emits, values_to, part}
use Rattle.gz_once.specs.Log.{Transaction, ack, needs, Entry, Handed, Committed, by, author_of, last, count, offsets_of, accepted, store_of, read_order, consumed}
use Rattle.gz_once.specs.Processes.{Append, Lines, Ack}
use Rattle.gz_once.specs.Worlds.{World, Shared, append_of}

-- Every record of the log is accepted, the register is absent or names the author in force, and behind a handoff stands nothing of an author from before it.
pub record Fenced (s : Shared) : Type 0 where
  pub all : accepted s.log ≡ s.log
  pub register : (s.register ≡ 0) ⊎ (s.register ≡ author_of s.log)
  pub after : (above es : List Entry) (b k : ℕ) → above ++ Handed b k ∷ es ≡ s.log → (e f : Entry) → In e above → In f es → by e ≡ by f → ⊥

-- journals only grow
pub record Grown (s t : Shared) : Type 0 where
  pub log : Begins s.log t.log
  pub outs : (j : ℕ) → Begins (s.outs j) (t.outs j)
  pub sources : (k : ℕ) → Begins (s.sources k) (t.sources k)

-- what the commits emit to the output j
abbrev pub emitted : App → (ℕ → List Message) → ℕ → List Entry → List ℕ
emitted g texts j [] = []
emitted g texts j (Handed a k ∷ es) = emitted g texts j es
emitted g texts j (Committed x ∷ es) = emitted g texts j es ++ values_to g j (emits g (store_of es) (consumed g texts es x))

-- the same without the last commit
abbrev pub emitted_before : App → (ℕ → List Message) → ℕ → List Entry → List ℕ
emitted_before g texts j [] = []
emitted_before g texts j (Handed a k ∷ es) = emitted_before g texts j es
emitted_before g texts j (Committed x ∷ es) = emitted g texts j es

-- the parts of the source k that the commits consumed, joined
abbrev pub parts_of : App → (ℕ → List Message) → ℕ → List Entry → List Message
parts_of g texts k [] = []
parts_of g texts k (Handed a n ∷ es) = parts_of g texts k es
parts_of g texts k (Committed x ∷ es) = parts_of g texts k es ++ part g k (texts k) (offsets_of g (last es) k) (x.offsets k)

-- The offsets of the commits never fall. The store at each commit is the application's fold over the one read order up to it. The parts of each source, joined,
-- are a prefix of its committed messages. A reader of an output accepts what all commits emit, but for the last one all or nothing.
pub record ExactlyOnce (g : App) (s : Shared) : Type 0 where
  pub rises : (k : ℕ) → k < g.sources → (x : Transaction) (es : List Entry) → Begins (Committed x ∷ es) s.log → offsets_of g (last es) k ≤ x.offsets k
  pub store : (es : List Entry) → Begins es s.log → store_of (accepted es) ≡ fold g 0 (read_order g s.sources (accepted es))
  pub order : (k : ℕ) → k < g.sources → IsPrefix (parts_of g s.sources k s.log) (committed (s.sources k))
  pub outputs : (j : ℕ) → (values_of s.own (committed (s.outs j)) ≡ emitted g s.sources j s.log) ⊎ (values_of s.own (committed (s.outs j)) ≡ emitted_before g s.sources j s.log)

-- where a commit stands, all acknowledgements of the commit before it are in their outputs
abbrev pub AcknowledgedBefore : App → Shared → Type 0
AcknowledgedBefore g s = (x y : Transaction) (es : List Entry) → Begins (Committed x ∷ es) s.log → last es ≡ Some y → (j : ℕ) → needs g y j ≡ true → In (acknowledgement y.producer (ack y)) (s.outs j)

-- an acknowledgement of this clock is an intent of a commit in the log
abbrev pub Intent : App → Shared → ℕ → ℕ → ℕ → Type 0
Intent g s j p c = (x : Transaction) × In (Committed x) s.log × (x.producer ≡ p) × (ack x ≡ c) × (needs g x j ≡ true)

-- the append a carries the message m to the output j
abbrev pub Carries : Append → ℕ → Message → Type 0
Carries (Lines k p ls) j m = (k ≡ j) × (m.producer ≡ p) × (m.kind ≡ Continue) × In (record { clock = m.clock; value = m.value }) ls
Carries (Ack k p c) j m = (k ≡ j) × (m ≡ acknowledgement p c)
Carries _ j m = ⊥

-- the message stands in the output, or was sent to it, wherever it now is
abbrev pub Speaks : Shared → ℕ → Message → Type 0
Speaks s j m = In m (s.outs j) ⊎ ((i : ℕ) × (a : Append) × (append_of (s.slots i) ≡ Some a) × Carries a j m)

abbrev pub OfCommits : App → Shared → Type 0
OfCommits g s = (j : ℕ) (m : Message) → Speaks s j m → s.own m.producer ≡ true → m.kind ≡ Acknowledge → Intent g s j m.producer m.clock

-- one producer and clock stand for one message, and for one output but for acknowledgements
abbrev pub OneMessage : Shared → Type 0
OneMessage s = (j k : ℕ) (m n : Message) → Speaks s j m → Speaks s k n → s.own m.producer ≡ true → m.producer ≡ n.producer → m.clock ≡ n.clock → (m ≡ n) × (m.kind ≡ Continue → j ≡ k)

-- an author, and a producer, is held by one process
abbrev pub OneProcess : World → Type 0
OneProcess w = (p q : ℕ) → 0 < (w.procs p).author → 0 < (w.procs q).author →
    ((w.procs p).author ≡ (w.procs q).author → p ≡ q) × ((w.procs p).producer ≡ (w.procs q).producer → p ≡ q)

-- ---- in the words of somebody who runs such shards

-- the author has an entry in the log
abbrev pub HasEntry : ℕ → List Entry → Type 0
HasEntry a es = (e : Entry) × In e es × (by e ≡ a)

-- behind an entry of the author stands another's handoff
pub record IsFenced (a : ℕ) (s : Shared) : Type 0 where
  pub above : List Entry
  pub below : List Entry
  pub other : ℕ
  pub number : ℕ
  pub is_log : above ++ Handed other number ∷ below ≡ s.log
  pub handed : HasEntry a below

-- no entry of the author has come
abbrev pub LandsNothing : ℕ → Shared → Shared → Type 0
LandsNothing a s t = (e : Entry) → by e ≡ a → In e t.log → In e s.log

-- A commit goes on from what stands below it, whoever wrote that: it has the next number, its offsets begin where the
-- last commit's end, and its state and what it emits are the application's, from the last commit's state on.
pub record GoesOn (g : App) (s : Shared) (es : List Entry) (x : Transaction) : Type 0 where
  pub number : x.seq ≡ count es + 1
  pub offsets : (k : ℕ) → k < g.sources → offsets_of g (last es) k ≤ x.offsets k
  pub state : x.state ≡ fold g (store_of es) (consumed g s.sources es x)
  pub emitted : x.emitted ≡ emits g (store_of es) (consumed g s.sources es x)

abbrev pub WithoutGap : App → Shared → Type 0
WithoutGap g s = (x : Transaction) (es : List Entry) → Begins (Committed x ∷ es) s.log → GoesOn g s es x

-- Of two processes that handed off one behind the other, the first one has no commit behind the second one's handoff.
abbrev pub OneCommits : World → Type 0
OneCommits w = (p q k : ℕ) (above below : List Entry) → above ++ Handed (w.procs q).author k ∷ below ≡ w.shared.log → HasEntry (w.procs p).author below →
    (x : Transaction) → In (Committed x) above → x.author ≡ (w.procs p).author → ⊥
