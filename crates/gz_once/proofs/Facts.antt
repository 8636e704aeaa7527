-- The facts that every event keeps. They are of the log (`LogOk`), of what waits to land (`WaitsOk`), of what readers have
-- (`RestOk`, `OutOk`), of each process by its phase (`PhaseOk`), and of all that was ever sent (`Spoken`, `History`). Beside
-- each stands what it says, and which step couldn't be shown without it. Much is said only of the author that is in
-- force: another one's handoff then makes it say nothing, so nothing has to be known of whoever was fenced.
use Rattle.std.proofs.Common.{◌≡◌, ℕ, ◌+◌, ◌<◌, ◌≤◌, List, [], ◌∷◌, ◌++◌, true, false, Option, Some, None, ◌⊎◌, inl, ap, sym, ◌∙◌}
use Rattle.gz_reader.specs.Lists.{In, Begins}
use Rattle.gz_reader.specs.Reader.{Line, Message, Continue, Acknowledge, Rest, read, acknowledgement}
use Rattle.gz_once.specs.Applications.{App, values_to}
use Rattle.gz_once.specs.Log.{Transaction, ack, lines, needs, Entry, Handed, Committed, by, author_of, last, count, end_of}
use Rattle.gz_once.specs.Processes.{Append, Handoff, Commit, Lines, Ack, Stand, Todo, Asked, Done, Phase, Playing, Handing, Acking, Drawing, Reading, Publishing, Committing, Sending, Process}
use Rattle.gz_once.specs.Worlds.{Slot, Free, Waits, Landed, Refused, Shared, World, append_of}
use Rattle.gz_once.specs.Theorem.{Intent}
use Rattle.gz_reader.specs.Reader.{values_of}
use Rattle.gz_reader.proofs.Updates.{some_same, none_some}
use Rattle.gz_reader.proofs.Appends.{Below}
use Rattle.gz_once.proofs.Logs.{Absent, Since, Follows, Acked, Settled, LastSettled, LogOk}

-- What a run has been. No step reads it.
pub record Ghost : Type 0 where
  -- the append of this author to the log that waits
  pub pending : ℕ → Option ℕ
  -- the process that took this draw
  pub holder : ℕ → ℕ
  -- the author under which this draw is a producer
  pub under : ℕ → ℕ
  -- the transactions with this producer, the newest first
  pub begun : ℕ → List Transaction

abbrev pub newest : {A : Type 0} → List A → Option A
newest [] = None
newest (x ∷ xs) = Some x

-- the newest transaction of a producer
abbrev pub cur : Ghost → ℕ → Option Transaction
cur h p = newest (h.begun p)

-- the least clock that the producer may use next
abbrev pub bound : Option Transaction → ℕ
bound None = 0
bound (Some x) = ack x + 1

-- what the reader of an output has of a producer
abbrev pub seen : Shared → ℕ → ℕ → Rest
seen s j p = (read (s.outs j)).rest p

-- No acknowledgement of this producer waits: one that lands late would end the lines of its next transaction. Publishing needs
-- it of its producer, and so a process in doubt of an acknowledgement takes another producer.
abbrev pub NoAcks : Shared → ℕ → Type 0
NoAcks s p = (i j c : ℕ) → s.slots i ≡ Waits (Ack j p c) → ⊥

-- The output's reader has exactly the transaction's lines in the chain, so its acknowledgement releases them all, and
-- nothing else. A commit that lands needs it: from then on its lines are to be accepted.
abbrev pub Stock : App → Shared → Transaction → ℕ → Type 0
Stock g s x j = needs g x j ≡ true → ((seen s j x.producer).chain ≡ lines g x j) × ((seen s j x.producer).next ≤ x.first)

-- What a reader has of one producer of the shard. Lines that land, late or a second time, need it.
pub record RestOk (g : App) (s : Shared) (h : Ghost) (j p : ℕ) : Type 0 where
  -- nothing waits, or exactly the newest transaction's lines: nothing is ever released in part
  pub chain : ((seen s j p).chain ≡ []) ⊎ ((x : Transaction) × (cur h p ≡ Some x) × ((seen s j p).chain ≡ lines g x j) × ((seen s j p).next ≤ x.first))
  -- no clock counts that the producer didn't use: its next lines are new to every reader
  pub level : (seen s j p).next ≤ bound (cur h p)
  -- the newest transaction is new to the reader, or acknowledged: it is never acknowledged twice over
  pub steps : (x : Transaction) → cur h p ≡ Some x → ((seen s j p).next ≤ x.first) ⊎ ((seen s j p).next ≡ ack x + 1)

-- what the commits emit to the output j
abbrev pub want : App → ℕ → List Entry → List ℕ
want g j [] = []
want g j (Handed a k ∷ es) = want g j es
want g j (Committed x ∷ es) = want g j es ++ values_to g j x.emitted

-- all commits but the last one
abbrev pub before : App → ℕ → List Entry → List ℕ
before g j [] = []
before g j (Handed a k ∷ es) = before g j es
before g j (Committed x ∷ es) = want g j es

-- The reader has accepted what all commits emit. Other outputs' appends and the next commit need it.
pub record AllIn (g : App) (s : Shared) (j : ℕ) : Type 0 where
  pub accepted : values_of s.own (read (s.outs j)).accepted ≡ want g j s.log
  pub acked : (x : Transaction) → last s.log ≡ Some x → Acked g s.outs x j

-- It has accepted all but what the last commit emits, whose lines wait for their acknowledgement: from a commit's landing to
-- that of its acknowledgement.
pub record LastOpen (g : App) (s : Shared) (h : Ghost) (j : ℕ) : Type 0 where
  pub x : Transaction
  pub is_last : last s.log ≡ Some x
  pub accepted : values_of s.own (read (s.outs j)).accepted ≡ before g j s.log
  pub needed : needs g x j ≡ true
  pub chain : (seen s j x.producer).chain ≡ lines g x j
  pub low : (seen s j x.producer).next ≤ x.first
  pub current : cur h x.producer ≡ Some x
  -- no other acknowledgement of this producer waits, which could release them in part
  pub sole : (i c : ℕ) → s.slots i ≡ Waits (Ack j x.producer c) → c ≡ ack x

-- of the last commit all or nothing
abbrev pub OutOk : App → Shared → Ghost → ℕ → Type 0
OutOk g s h j = AllIn g s j ⊎ LastOpen g s h j

-- Of a commit in the log: its producer is a draw that was taken under its author, and it is this producer's newest
-- transaction or its acknowledgements are in. Acknowledgements that are written again need it.
pub record CommitOk (g : App) (s : Shared) (h : Ghost) (x : Transaction) : Type 0 where
  pub under : h.under x.producer ≡ x.author
  pub pos : 0 < x.author
  pub own : s.own x.producer ≡ true
  pub taken : s.free x.producer ≡ false
  pub drawn : x.producer ≤ s.drawn
  pub current : (cur h x.producer ≡ Some x) ⊎ Settled g s.outs x

-- A commit that waits, while its author is in force: it may land at this very place. It has the next number, goes on from
-- the log, the acknowledgements of the commit before it are in, and its lines are with every reader.
pub record Ready (g : App) (s : Shared) (h : Ghost) (x : Transaction) : Type 0 where
  pub seq : x.seq ≡ count s.log + 1
  pub follows : Follows g s.sources s.log x
  pub settled : LastSettled g s.outs s.log
  pub stock : (j : ℕ) → Stock g s x j
  pub quiet : NoAcks s x.producer

-- A handoff that waits: its author is nowhere in the log, and where its offset is the log's end, its number is the next one.
pub record HandoffWaits (s : Shared) (h : Ghost) (i a o k : ℕ) : Type 0 where
  -- it expects an end of the text, and has the next number there
  pub base : (u : List Entry) × Begins u s.log × (end_of u ≡ o) × (k ≡ count u + 1)
  pub pending : h.pending a ≡ Some i
  pub pos : 0 < a
  pub drawn : a ≤ s.drawn
  pub taken : s.free a ≡ false
  pub absent : Absent a s.log

-- A commit that waits. Of an author that isn't in force nothing is said of the place it was sent from: the register
-- refuses it.
pub record CommitWaits (g : App) (s : Shared) (h : Ghost) (i : ℕ) (x : Transaction) : Type 0 where
  pub pending : h.pending x.author ≡ Some i
  pub pos : 0 < x.author
  pub drawn : (x.author ≤ s.drawn) × (x.producer ≤ s.drawn)
  pub under : h.under x.producer ≡ x.author
  pub own : s.own x.producer ≡ true
  pub taken : (s.free x.author ≡ false) × (s.free x.producer ≡ false)
  pub current : cur h x.producer ≡ Some x
  pub ready : author_of s.log ≡ x.author → Ready g s h x

-- Lines that wait: readers take them for older ones, or they are their producer's newest transaction's.
pub record LinesWait (g : App) (s : Shared) (h : Ghost) (j p : ℕ) (ls : List Line) : Type 0 where
  pub own : s.own p ≡ true
  pub lines : Below (seen s j p).next ls ⊎ ((x : Transaction) × (cur h p ≡ Some x) × (ls ≡ lines g x j))

-- An acknowledgement that waits is of a commit in the log, and readers take it for an older one, or it is of its
-- producer's newest transaction.
pub record AckWaits (g : App) (s : Shared) (h : Ghost) (j p c : ℕ) : Type 0 where
  pub x : Transaction
  pub landed : In (Committed x) s.log
  pub producer : x.producer ≡ p
  pub clock : ack x ≡ c
  pub needed : needs g x j ≡ true
  pub state : (c < (seen s j p).next) ⊎ (cur h p ≡ Some x)

-- what waits, by its kind
abbrev pub WaitsOk : App → Shared → Ghost → ℕ → Append → Type 0
WaitsOk g s h i (Handoff a o nn) = HandoffWaits s h i a o nn
WaitsOk g s h i (Commit x) = CommitWaits g s h i x
WaitsOk g s h i (Lines j p ls) = LinesWait g s h j p ls
WaitsOk g s h i (Ack j p c) = AckWaits g s h j p c

-- An acknowledgement that landed is in its output. Acking needs it of an answer that came.
abbrev pub LandedOk : Shared → Append → Type 0
LandedOk s (Ack j p c) = In (acknowledgement p c) (s.outs j)
LandedOk s _ = Unit {0}

-- the process's author is the one whose commits land
abbrev pub InForce : Shared → Process → Type 0
InForce s q = author_of s.log ≡ q.author

-- Handing: where its handoff is. If it landed, the log is what the process knows with the handoff behind it, and since then
-- nothing of its author has come.
abbrev pub HandOk : Shared → Ghost → Process → Slot → Type 0
HandOk s h q Free = ⊥
HandOk s h q (Waits x) = x ≡ Handoff q.author (end_of q.text) (count q.text + 1)
HandOk s h q (Landed x) = (h.pending q.author ≡ None) × Since q.author (Handed q.author (count q.text + 1) ∷ q.text) s.log
HandOk s h q (Refused x) = (h.pending q.author ≡ None) × Absent q.author s.log

-- Sending: where its commit is. If it landed, no acknowledgement of its producer waits, so the next phase begins without
-- doubt; if it was refused, it may be sent again.
abbrev pub SendOk : App → Shared → Ghost → Process → Transaction → Slot → Type 0
SendOk g s h q x Free = ⊥
SendOk g s h q x (Waits y) = (y ≡ Commit x) × Since q.author q.text s.log
SendOk g s h q x (Landed y) = (h.pending q.author ≡ None) × Since q.author (Committed x ∷ q.text) s.log × (InForce s q → NoAcks s q.producer)
SendOk g s h q x (Refused y) = (h.pending q.author ≡ None) × Since q.author q.text s.log × (InForce s q → NoAcks s q.producer) × (InForce s q → (j : ℕ) → Stock g s x j)

-- Acking: what was asked for is the acknowledgement of the last commit, and what is done is in its output
abbrev pub AckStand : App → Shared → Option Transaction → ℕ → Stand → Type 0
AckStand g s l j Todo = Unit {0}
AckStand g s l j (Asked i) = (x : Transaction) × (l ≡ Some x) × (needs g x j ≡ true) × (append_of (s.slots i) ≡ Some (Ack j x.producer (ack x)))
AckStand g s l j Done = (x : Transaction) → l ≡ Some x → Acked g s.outs x j

-- Publishing: what was asked for are the transaction's lines, and what is done is with the output's reader
abbrev pub PubStand : App → Shared → Process → Transaction → ℕ → Stand → Type 0
PubStand g s q x j Todo = Unit {0}
PubStand g s q x j (Asked i) = (append_of (s.slots i) ≡ Some (Lines j q.producer (lines g x j))) × (InForce s q → s.slots i ≡ Landed (Lines j q.producer (lines g x j)) → Stock g s x j)
PubStand g s q x j Done = InForce s q → Stock g s x j

-- Its producer has no transaction, or that of the last commit that it knows, and its clock is the next one. A transaction
-- that begins needs it for clocks that no message has.
pub record Own (h : Ghost) (p : ℕ) (text : List Entry) (clock : ℕ) : Type 0 where
  pub own : (cur h p ≡ None) ⊎ (cur h p ≡ last text)
  pub next : clock ≡ bound (cur h p)

-- its producer has no transaction: a draw that was taken, until the first transaction
pub record Unused (h : Ghost) (p clock : ℕ) : Type 0 where
  pub own : cur h p ≡ None
  pub next : clock ≡ 0

-- Who has handed off: the log is what it knows, and since then has got nothing of its author; none of its appends to the log
-- waits. So while it is in force, the log is exactly what it knows: every phase from Acking on rests on it.
pub record Rules (s : Shared) (h : Ghost) (text : List Entry) (a : ℕ) : Type 0 where
  pub since : Since a text s.log
  pub author : author_of text ≡ a
  pub pending : h.pending a ≡ None

-- The transaction is of this process, and goes on from what it knows: the next number, the next parts of the sources, the
-- application's state and outputs. Publishing, Committing and Sending carry it to the commit's landing.
pub record Fits (g : App) (s : Shared) (h : Ghost) (text : List Entry) (a p : ℕ) (x : Transaction) : Type 0 where
  pub author : x.author ≡ a
  pub producer : x.producer ≡ p
  pub seq : x.seq ≡ count text + 1
  pub current : cur h p ≡ Some x
  pub follows : Follows g s.sources text x
  pub settled : LastSettled g s.outs text

-- in force, no acknowledgement of its producer waits
abbrev pub Silent : Shared → Process → Type 0
Silent s q = InForce s q → NoAcks s q.producer

-- What holds of a process in each phase, from Playing round to Acking again.
abbrev pub PhaseOk : App → Shared → Ghost → Process → Phase → Type 0
PhaseOk g s h q Playing = Begins q.text s.log × (0 < q.author → (h.pending q.author ≡ None) × Absent q.author s.log × Unused h q.producer q.clock)
PhaseOk g s h q (Handing n) = (0 < q.author) × Begins q.text s.log × Unused h q.producer q.clock × HandOk s h q (s.slots n)
PhaseOk g s h q Acking = (0 < q.author) × Rules s h q.text q.author × Own h q.producer q.text q.clock × ((j : ℕ) → AckStand g s (last q.text) j (q.outs j)) ×
    (q.doubt ≡ false → InForce s q → (i j c : ℕ) → s.slots i ≡ Waits (Ack j q.producer c) → q.outs j ≡ Asked i)
PhaseOk g s h q Drawing = (0 < q.author) × Rules s h q.text q.author × LastSettled g s.outs q.text
PhaseOk g s h q Reading = (0 < q.author) × Rules s h q.text q.author × LastSettled g s.outs q.text × Own h q.producer q.text q.clock × Silent s q
PhaseOk g s h q (Publishing x) = (0 < q.author) × Rules s h q.text q.author × Fits g s h q.text q.author q.producer x × Silent s q × ((j : ℕ) → PubStand g s q x j (q.outs j)) ×
    (InForce s q → (j : ℕ) → (seen s j q.producer).next ≤ x.first)
PhaseOk g s h q (Committing x) = (0 < q.author) × Rules s h q.text q.author × Fits g s h q.text q.author q.producer x × Silent s q × (InForce s q → (j : ℕ) → Stock g s x j)
PhaseOk g s h q (Sending x n) = (0 < q.author) × (author_of q.text ≡ q.author) × Fits g s h q.text q.author q.producer x × SendOk g s h q x (s.slots n)

-- Its author and producer are draws that were taken, by it alone, the producer under the author.
pub record Draws (s : Shared) (h : Ghost) (n a p : ℕ) : Type 0 where
  pub author : (a ≤ s.drawn) × (p ≤ s.drawn)
  pub holder : 0 < a → (h.holder a ≡ n) × (h.holder p ≡ n)
  pub under : 0 < a → h.under p ≡ a
  pub pos : 0 < a → 0 < p
  pub own : 0 < a → s.own p ≡ true
  pub taken : 0 < a → (s.free a ≡ false) × (s.free p ≡ false)

pub record ProcOk (g : App) (s : Shared) (h : Ghost) (p : ℕ) (q : Process) : Type 0 where
  pub draws : Draws s h p q.author q.producer
  pub phase : PhaseOk g s h q q.phase

-- The transactions of one producer, one after another, never share a clock: the clocks of a later one are above those of an earlier one
abbrev pub History : ℕ → List Transaction → Type 0
History p [] = Unit {0}
History p (x ∷ xs) = (x.producer ≡ p) × (bound (newest xs) ≤ x.first) × History p xs

pub whose : (p : ℕ) (xs : List Transaction) (x : Transaction) → History p xs → newest xs ≡ Some x → x.producer ≡ p
whose p [] x o e = absurd (none_some e)
whose p (y ∷ xs) x o e = ap (λ v. v.producer) (sym (some_same e)) ∙ o.0

pub newest_in : {A : Type 0} (xs : List A) (x : A) → newest xs ≡ Some x → In x xs
newest_in [] x e = absurd (none_some e)
newest_in (y ∷ xs) x e = inl (sym (some_same e))

-- what was sent: lines are of a transaction of their producer, an acknowledgement is an intent of a commit in the log
abbrev pub SpokenAs : App → Shared → Ghost → Append → Type 0
SpokenAs g s h (Handoff a o nn) = Unit {0}
SpokenAs g s h (Commit x) = In x (h.begun x.producer)
SpokenAs g s h (Lines j p ls) = (x : Transaction) × In x (h.begun p) × (ls ≡ lines g x j)
SpokenAs g s h (Ack j p c) = Intent g s j p c

-- the same of a message in an output
abbrev pub TextAs : App → Shared → Ghost → ℕ → Message → Type 0
TextAs g s h j m = ((x : Transaction) × In x (h.begun m.producer) × (m.kind ≡ Continue) × In (record { clock = m.clock; value = m.value }) (lines g x j)) ⊎
    ((m.kind ≡ Acknowledge) × (m.value ≡ 0) × Intent g s j m.producer m.clock)

pub record Spoken (g : App) (s : Shared) (h : Ghost) : Type 0 where
  pub slots : (i : ℕ) (a : Append) → append_of (s.slots i) ≡ Some a → SpokenAs g s h a
  pub texts : (j : ℕ) (m : Message) → In m (s.outs j) → s.own m.producer ≡ true → TextAs g s h j m
  pub commits : (x : Transaction) → In (Committed x) s.log → In x (h.begun x.producer)

-- a producer that no later draw will be
abbrev pub Known : App → Shared → ℕ → Type 0
Known g s p = (p ≤ s.drawn) ⊎ (g.foreign p ≡ true)

-- what holds of the journals and of the appends
pub record SharedOk (g : App) (s : Shared) (h : Ghost) : Type 0 where
  -- numbers, authors and offsets of the log follow on each other, and each commit goes on from what is below it
  pub log : LogOk g s.sources s.outs s.log
  -- the register is absent, or names the author in force: a commit that lands is of this author
  pub register : (s.register ≡ 0) ⊎ (s.register ≡ author_of s.log)
  -- authors in the log were drawn and taken, so that the next draw is new
  pub authors : (e : Entry) → In e s.log → (by e ≤ s.drawn) × (s.free (by e) ≡ false)
  -- what is yet to be taken was never used
  pub frees : (d : ℕ) → s.free d ≡ true → (0 < d) × (d ≤ s.drawn) × (s.own d ≡ true) × (h.begun d ≡ []) × (h.pending d ≡ None)
  -- of each commit in the log
  pub commits : (x : Transaction) → In (Committed x) s.log → CommitOk g s h x
  -- of each output's reader and each producer of the shard
  pub rests : (j p : ℕ) → s.own p ≡ true → RestOk g s h j p
  -- what readers accept of the shard
  pub outs : (j : ℕ) → OutOk g s h j
  -- of each append that waits
  pub waits : (i : ℕ) (a : Append) → s.slots i ≡ Waits a → WaitsOk g s h i a
  -- of each append that landed
  pub landed : (i : ℕ) (a : Append) → s.slots i ≡ Landed a → LandedOk s a
  -- the next append has a slot of its own
  pub fresh : (i : ℕ) → s.count ≤ i → s.slots i ≡ Free
  -- of all that was ever sent, and of all messages of the shard in its outputs
  pub spoken : Spoken g s h
  -- a producer's transactions have clocks apart
  pub history : (p : ℕ) → History p (h.begun p)
  -- a later draw was never used
  pub undrawn : (p : ℕ) → s.drawn < p → (h.begun p ≡ []) × (h.pending p ≡ None) × (s.own p ≡ false)
  -- no message in an output is of a later draw
  pub low : (j : ℕ) (m : Message) → In m (s.outs j) → Known g s m.producer
  -- and none that a reader accepted
  pub heard : (j : ℕ) (m : Message) → In m (read (s.outs j)).accepted → Known g s m.producer

-- all of it
pub record Invariant (g : App) (w : World) : Type 0 where
  pub h : Ghost
  pub shared : SharedOk g w.shared h
  pub procs : (p : ℕ) → ProcOk g w.shared h p (w.procs p)
