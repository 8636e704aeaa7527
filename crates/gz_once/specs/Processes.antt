-- A consumer's process of the shard: one total function of what it takes.
--
--   Playing ─► Handing ─► Acking ─► Reading ─► Publishing ─► Committing ─► Sending
--     ▲ ▲         │ │      ▲  │        ▲                         ▲          │ │ │
--     │ └ refused ┘ │      │  └ doubt ─► Drawing                 └─ refused ┘ │ │
--     │             │      └─────────────────── landed ──────────────────────┘ │
--     └─ given up ──┴───────────────────────── given up ───────────────────────┘
use Rattle.std.specs.Prelude.{ℕ, ◌+◌, ◌==◌, List, [], ◌∷◌, if◌then◌else◌, Option, Some, None, Bool, true, false, ◌||◌, not}
use Rattle.gz_reader.specs.Reader.{Line, Message, updated}
use Rattle.gz_once.specs.Applications.{App, fold, emits, each_below}
use Rattle.gz_once.specs.Log.{Transaction, ack, lines, needs, Entry, Handed, Committed, last, store_of, count, end_of}

-- what a process appends: to the log a handoff or a commit, to an output lines or an acknowledgement
pub data Append : Type 0 where
  Handoff : (author offset seq : ℕ) → Append
  Commit : (x : Transaction) → Append
  Lines : (output producer : ℕ) (ls : List Line) → Append
  Ack : (output producer clock : ℕ) → Append

-- where an append to one output stands
pub data Stand : Type 0 where
  Todo : Stand
  Asked : (n : ℕ) → Stand
  Done : Stand

pub data Phase : Type 0 where
  -- it plays the log, and takes a draw
  Playing : Phase
  -- its handoff is append n
  Handing : (n : ℕ) → Phase
  -- it writes the acknowledgements of the last commit, whoever committed
  Acking : Phase
  -- it waits for another producer
  Drawing : Phase
  -- it waits for messages
  Reading : Phase
  -- it writes the lines of a transaction
  Publishing : (x : Transaction) → Phase
  -- its lines are in, and its commit is to be sent
  Committing : (x : Transaction) → Phase
  -- its commit is append n
  Sending : (x : Transaction) (n : ℕ) → Phase

pub record Process : Type 0 where
  -- the log as it knows it; its store, offsets and intents are those of its last commit
  pub text : List Entry
  -- 0: none
  pub author : ℕ
  pub producer : ℕ
  -- the next clock
  pub clock : ℕ
  -- an acknowledgement of its producer may land yet
  pub doubt : Bool
  pub phase : Phase
  pub outs : ℕ → Stand

-- What of a transaction doesn't follow from what it consumes: how far the clock is raised before it, as a tick by the
-- time does, and its commit's operations and bytes, less one each.
pub record Extent : Type 0 where
  pub raise : ℕ
  pub width : ℕ
  pub size : ℕ

-- what it takes: the log's text, a draw, a poll (to the log, to an output, or to end its phase), an answer (an append landed, it
-- never will, or its answer is given up), released messages
pub data Item : Type 0 where
  Fed : (text : List Entry) → Item
  Drew : (draw : ℕ) → Item
  Ask : Item
  Ask_at : (output : ℕ) → Item
  Go : Item
  Good : Item
  Bad : Item
  Lost : Item
  Good_at : (output : ℕ) → Item
  Bad_at : (output : ℕ) → Item
  Lost_at : (output : ℕ) → Item
  Consumed : (extent : Extent) (offsets : ℕ → ℕ) (messages : List Message) → Item
  Begin : Item

-- the process after it, and what it sends
pub record Outcome : Type 0 where
  pub proc : Process
  pub send : Option Append

abbrev pub still : Process → Outcome
still q = record { proc = q; send = None }

abbrev pub says : Process → Append → Outcome
says q x = record { proc = q; send = Some x }

-- a process that begins knows nothing
abbrev pub begins : Process
begins = record { text = []; author = 0; producer = 0; clock = 0; doubt = false; phase = Playing; outs = λ j. Todo }

abbrev pub on_fed : Process → List Entry → Phase → Outcome
on_fed q t Playing = still (record q { text = t })
on_fed q t _ = still q

abbrev pub on_drew : Process → ℕ → Phase → Outcome
on_drew q d Playing = if q.author == 0 then still (record q { author = d; producer = d; clock = 0 }) else still q
on_drew q d Drawing = still (record q { producer = d; clock = 0; doubt = false; phase = Reading })
on_drew q d _ = still q

abbrev pub on_ask : Process → ℕ → Phase → Outcome
on_ask q n Playing = if q.author == 0 then still q else says (record q { phase = Handing n }) (Handoff q.author (end_of q.text) (count q.text + 1))
on_ask q n (Committing x) = says (record q { phase = Sending x n }) (Commit x)
on_ask q n _ = still q

-- the last commit's acknowledgement to the output j
abbrev pub acks : App → Process → ℕ → ℕ → Stand → Option Transaction → Outcome
acks g q n j Todo (Some x) = if needs g x j then says (record q { outs = updated q.outs j (Asked n) }) (Ack j x.producer (ack x)) else still q
acks g q n j _ _ = still q

abbrev pub publishes : App → Process → ℕ → ℕ → Transaction → Stand → Outcome
publishes g q n j x Todo = if needs g x j then says (record q { outs = updated q.outs j (Asked n) }) (Lines j x.producer (lines g x j)) else still q
publishes g q n j x _ = still q

abbrev pub on_ask_at : App → Process → ℕ → ℕ → Phase → Outcome
on_ask_at g q n j Acking = acks g q n j (q.outs j) (last q.text)
on_ask_at g q n j (Publishing x) = publishes g q n j x (q.outs j)
on_ask_at g q n j _ = still q

abbrev pub is_done : Stand → Bool
is_done Done = true
is_done _ = false

-- every append that the transaction needs is in its output
abbrev pub all_in : App → (ℕ → Stand) → Option Transaction → Bool
all_in g outs None = true
all_in g outs (Some x) = each_below g.outputs (λ j. not (needs g x j) || is_done (outs j))

abbrev pub on_go : App → Process → Phase → Outcome
on_go g q Acking = if all_in g q.outs (last q.text) then still (record q { phase = if q.doubt then Drawing else Reading }) else still q
on_go g q (Publishing x) = if all_in g q.outs (Some x) then still (record q { phase = Committing x }) else still q
on_go g q _ = still q

-- it landed
abbrev pub on_good : Process → Phase → Outcome
on_good q (Handing n) = still (record q { text = Handed q.author (count q.text + 1) ∷ q.text; phase = Acking; doubt = false; outs = λ j. Todo })
on_good q (Sending x n) = still (record q { text = Committed x ∷ q.text; clock = ack x + 1; phase = Acking; doubt = false; outs = λ j. Todo })
on_good q _ = still q

-- nothing landed: the same again
abbrev pub on_bad : Process → Phase → Outcome
on_bad q (Handing n) = still (record q { phase = Playing })
on_bad q (Sending x n) = still (record q { phase = Committing x })
on_bad q _ = still q

-- the answer is given up: the append may land at any later time
abbrev pub on_lost : Process → Phase → Outcome
on_lost q (Handing n) = still (record q { author = 0; phase = Playing })
on_lost q (Sending x n) = still (record q { author = 0; phase = Playing })
on_lost q _ = still q

abbrev pub on_good_at : Process → ℕ → Phase → Outcome
on_good_at q j Acking = still (record q { outs = updated q.outs j Done })
on_good_at q j (Publishing x) = still (record q { outs = updated q.outs j Done })
on_good_at q j _ = still q

abbrev pub on_bad_at : Process → ℕ → Phase → Outcome
on_bad_at q j Acking = still (record q { outs = updated q.outs j Todo })
on_bad_at q j (Publishing x) = still (record q { outs = updated q.outs j Todo })
on_bad_at q j _ = still q

-- an acknowledgement whose answer is given up leaves the process in doubt of it
abbrev pub on_lost_at : Process → ℕ → Phase → Outcome
on_lost_at q j Acking = still (record q { outs = updated q.outs j Todo; doubt = true })
on_lost_at q j (Publishing x) = still (record q { outs = updated q.outs j Todo })
on_lost_at q j _ = still q

-- a transaction: what messages make of the last commit's state, under the process's author and producer
abbrev pub transaction : App → Process → Extent → (ℕ → ℕ) → List Message → Transaction
transaction g q extent offsets ms = record {
  author = q.author;
  seq = count q.text + 1;
  width = extent.width;
  size = extent.size;
  producer = q.producer;
  first = q.clock + extent.raise;
  emitted = emits g (store_of q.text) ms;
  state = fold g (store_of q.text) ms;
  offsets = offsets;
}

abbrev pub on_consumed : App → Process → Extent → (ℕ → ℕ) → List Message → Phase → Outcome
on_consumed g q extent offsets [] _ = still q
on_consumed g q extent offsets (m ∷ ms) Reading = still (record q { phase = Publishing (transaction g q extent offsets (m ∷ ms)); outs = λ j. Todo })
on_consumed g q extent offsets (m ∷ ms) _ = still q

-- n is the number of the append that it sends, if it sends one
abbrev pub step : App → Process → ℕ → Item → Outcome
step g q n (Fed t) = on_fed q t q.phase
step g q n (Drew d) = on_drew q d q.phase
step g q n Ask = on_ask q n q.phase
step g q n (Ask_at j) = on_ask_at g q n j q.phase
step g q n Go = on_go g q q.phase
step g q n Good = on_good q q.phase
step g q n Bad = on_bad q q.phase
step g q n Lost = on_lost q q.phase
step g q n (Good_at j) = on_good_at q j q.phase
step g q n (Bad_at j) = on_bad_at q j q.phase
step g q n (Lost_at j) = on_lost_at q j q.phase
step g q n (Consumed extent offsets ms) = on_consumed g q extent offsets ms q.phase
step g q n Begin = still begins
