-- A process of a shard, and its phases. The files beside this one say what it does, in this order: what the mirror of its
-- consumer says (`Views`), requests and their answers (`Asking`, `Answers`), how it plays the log and hands it over
-- (`Playing`), takes the shard up (`TakingUp`), reads and makes a transaction (`Transactions`, `Reading`) and writes it
-- (`Writing`); all rules of one process (`Rules`); and a consumer, which has a process of each shard that it is given
-- (`Consumers`, `Changing`), and its step.
--
--   Playing ──► Handing ──► Acking ──► Reading ──► Publishing ──► Committing
--                            │  ▲         ▲  │                     ▲  │
--                            ▼  │         │  └── without outputs ──┘  │
--                         Drawing ────────┘                           │
--                               └───────────── landed ────────────────┘
use Rattle.std.specs.Prelude.{ℕ, List, [], Bool, false, Option, Some, None}
use Rattle.gz_label.specs.declared.label.Label.{Label}
use Rattle.gz_spec.specs.Records.{SourceSpec}
use Rattle.gz_app.specs.declared.app.AppKind.{AppKind}
use Rattle.gz_app.specs.States.{State}
use Rattle.gz_sequencer.specs.Machine.{Machine}
use Rattle.gz_recovery.specs.Files.{Fsm, new_fsm}
use Rattle.gz_playback.specs.Playing.{Player, new_player}
use Rattle.gz_store.specs.Stores.{Store}

-- what a shard is said to be: its id, its log, its sources, its outputs in the order of their names, and its application
pub record Definition : Type 0 where
  pub id : List ℕ
  pub log : List ℕ
  pub sources : List SourceSpec
  pub outputs : List (List ℕ)
  pub app : AppKind

-- ---- phases

-- why a process stopped: its author isn't in force any more, a journal has no room, and the log's numbers or its
-- producer's clocks are used up
pub data Reason : Type 0 where
  Fenced : (registers : List Label) → Reason
  JournalEnd : (journal : List ℕ) → Reason
  SeqEnd : Reason
  ClockEnd : Reason

-- lines that go into an output as one append, and whether that is known to be in
pub record Block : Type 0 where
  pub journal : List ℕ
  pub content : List ℕ
  pub is_in : Bool

-- the bytes that a read of a source was answered
pub record Got : Type 0 where
  pub journal : List ℕ
  pub content : List ℕ

pub data Phase : Type 0 where
  -- it plays the log, and at its end draws an author
  Playing : Phase
  -- it hands the log over to its author
  Handing : Phase
  -- it writes the acknowledgements of the last commit, whoever committed
  Acking : (blocks : List Block) → Phase
  -- it draws another producer
  Drawing : Phase
  -- it reads its sources; the time is that of the poll that asked
  Reading : (now : ℕ) (got : List Got) → Phase
  -- it writes the lines of a transaction
  Publishing : (blocks : List Block) (store : Store) → Phase
  -- it commits the transaction
  Committing : (store : Store) → Phase
  Stopped : (reason : Reason) → Phase

-- ---- what waits for an answer

-- what was asked: of a read its offset, of an append the length of its content
pub data Question : Type 0 where
  ReadsLog : (offset : ℕ) → Question
  Draws : Question
  HandsOver : (len : ℕ) → Question
  Puts : (journal : List ℕ) (len : ℕ) → Question
  ReadsSource : (journal : List ℕ) (offset : ℕ) → Question
  Commits : (len : ℕ) → Question

-- a request that isn't answered
pub record Asked : Type 0 where
  pub req : ℕ
  pub question : Question

-- ---- processes

-- a source, and the sequencer that is fed its bytes
pub record Feed : Type 0 where
  pub journal : List ℕ
  pub machine : Machine

pub record Process : Type 0 where
  pub definition : Definition
  pub phase : Phase
  -- what it has played of the log, and whether that was all when it was last answered
  pub player : Player
  pub at_head : Bool
  pub author : Option ℕ
  -- from its handoff on: the log's files, and the state and the sources of the last commit or behind it
  pub fsm : Fsm
  pub state : State
  pub feeds : List Feed
  -- the draw whose producer it writes with, the last clock of that one, and whether a line of it may still come to land
  pub producer : ℕ
  pub clock : ℕ
  pub is_in_doubt : Bool
  pub asked : List Asked

-- a process that begins
abbrev pub begins : Definition → Process
begins d = record {
  definition = d;
  phase = Playing;
  player = new_player 0 new_fsm;
  at_head = false;
  author = None;
  fsm = new_fsm;
  state = [];
  feeds = [];
  producer = 0;
  clock = 0;
  is_in_doubt = false;
  asked = [];
}

-- ---- leaving a phase

abbrev pub in_phase : Phase → Process → Process
in_phase phase p = record p { phase = phase }

abbrev pub stops : Reason → Process → Process
stops reason p = in_phase (Stopped reason) p

-- back to playing, which begins not at the head
abbrev pub plays_again : Option ℕ → Process → Process
plays_again author p = record p { phase = Playing; at_head = false; author = author }

-- a draw is the author where it has none, and its producer
abbrev pub authored : ℕ → Process → Process
authored draw p = record p { phase = Handing; author = Some draw; producer = draw; clock = 0 }

-- a new producer, of which no line is on its way
abbrev pub redrawn : ℕ → Process → Process
redrawn draw p = record p { phase = Reading 0 []; producer = draw; clock = 0; is_in_doubt = false }
