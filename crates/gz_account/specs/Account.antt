-- The account of a shard in a run over journals: what the promise speaks of, read off the journals.
use Rattle.std.specs.Prelude.{ℕ, zero, suc, ◌≡◌, Bool, List, [], ◌∷◌, ◌++◌, map, drop, length}
use Rattle.gz_frame.specs.Messages as frame
use Rattle.gz_frame.specs.Release.{Release}
use Rattle.gz_app.specs.States.{State}
use Rattle.gz_app.specs.Applications.{Output}
use Rattle.gz_app.specs.declared.app.AppKind.{AppKind}
use Rattle.gz_promise.specs.Accounts.{Account, Commit, Stream}
use Rattle.gz_promise.specs.Applications.{after, emits}
use Rattle.gz_promise.specs.Outputs.{choice}
use Rattle.gz_reader.specs.Reader.{Message, values_of, committed}
use Rattle.gz_once.specs.Applications.{App, reach}
use Rattle.gz_once.specs.Log.{Entry, Handed, Committed, store_of}
use Rattle.gz_once.specs.Worlds.{Shared}

-- Numbers that stand for states and outputs, and the message that a reader's message stands for.
pub record Numbers : Type 0 where
  pub state : State → ℕ
  pub state_of : ℕ → State
  pub output : Output → ℕ
  pub output_of : ℕ → Output
  pub message_of : Message → frame.Message

-- they are read back, and the empty state is 0
pub record AreReadBack (n : Numbers) : Type 0 where
  pub state : (s : State) → n.state_of (n.state s) ≡ s
  pub output : (o : Output) → n.output_of (n.output o) ≡ o
  pub empty : n.state [] ≡ 0

-- how many sources and outputs a shard has, who is a client, and where its sources begin
pub record Wiring : Type 0 where
  pub outputs : ℕ
  pub sources : ℕ
  pub foreign : ℕ → Bool
  pub begin : ℕ → ℕ
  pub line : Message → ℕ

-- the application over these numbers
abbrev pub numbered : Numbers → AppKind → Wiring → App
numbered n app w = record {
  apply = λ x m. n.state (after app (n.state_of x) (n.message_of m));
  emit = λ x m. map n.output (emits app (n.state_of x) (n.message_of m));
  choose = λ v. choice w.outputs (n.output_of v).key;
  outputs = w.outputs;
  sources = w.sources;
  foreign = w.foreign;
  begin = w.begin;
  line = w.line;
}

-- f k, f (k + 1), .., so many
abbrev pub listed : {A : Type 0} → (ℕ → A) → ℕ → ℕ → List A
listed f k zero = []
listed f k (suc count) = f k ∷ listed f (suc k) count

-- what the newest message of a text releases
abbrev pub newly : Message → List Message → List Message
newly m t = drop (length (committed t)) (committed (m ∷ t))

-- what the text of a source releases, each message with the end of the line that released it
abbrev pub releases_of : Numbers → App → ℕ → List Message → List Release
releases_of n g k [] = []
releases_of n g k (m ∷ t) = releases_of n g k t ++ map (λ r. record { message = n.message_of r; end = reach g k (m ∷ t) }) (newly m t)

abbrev pub stream_of : Numbers → App → (ℕ → List Message) → ℕ → Stream
stream_of n g texts k = record { from = g.begin k; committed = releases_of n g k (texts k) }

-- the log's commits, the oldest first
abbrev pub commits_of : Numbers → App → List Entry → List Commit
commits_of n g [] = []
commits_of n g (Handed a k ∷ es) = commits_of n g es
commits_of n g (Committed x ∷ es) = commits_of n g es ++ record { offsets = listed x.offsets 0 g.sources; state = n.state_of x.state } ∷ []

-- what a reader of an output accepts of the shard's producers
abbrev pub accepted_of : Numbers → Shared → ℕ → List Output
accepted_of n s j = map n.output_of (values_of s.own (committed (s.outs j)))

abbrev pub account_of : Numbers → AppKind → Wiring → Shared → Account
account_of n app w s = let g = numbered n app w in record {
  app = app;
  sources = listed (stream_of n g s.sources) 0 g.sources;
  commits = commits_of n g s.log;
  store = n.state_of (store_of s.log);
  outputs = listed (accepted_of n s) 0 g.outputs;
}
