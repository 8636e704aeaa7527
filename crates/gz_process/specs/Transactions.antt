-- What a process makes of the messages that its sources released: the application's state, the lines that it emits, and
-- the commit that is to come.
use Rattle.std.specs.Prelude.{ℕ, ◌+◌, ◌-◌, ◌^◌, ◌==◌, List, [], ◌∷◌, ◌++◌, length, map, filter, flat_map, false, Option, Some, None, option_map, option_and_then, if◌then◌else◌}
use Rattle.gz_uuid.specs.Clock.{tick_of}
use Rattle.gz_uuid.specs.Producer.{shard_octets}
use Rattle.gz_frame.specs.Messages.{Message, continue_txn, ack_txn}
use Rattle.gz_frame.specs.Line.{line_of}
use Rattle.gz_app.specs.Applications.{Output, Fold, effect_of, fold_of}
use Rattle.gz_sequencer.specs.Machine.{point_of}
use Rattle.gz_promise.specs.Outputs.{choice}
use Rattle.gz_store.specs.Stores.{Intent, Source, Store}
use Rattle.gz_process.specs.Processes.{Publishing, Committing, ClockEnd, Block, Feed, Process, in_phase, stops}

-- ---- lines

abbrev pub max_clock : ℕ
max_clock = 2 ^ 64 - 1

-- the next clock at a time, unless the last one was the greatest
abbrev pub ticks : ℕ → ℕ → Option ℕ
ticks now last = if last == max_clock then None else Some (tick_of last now)

abbrev pub line_at : List ℕ → ℕ → Output → Message
line_at producer clock o = record { producer = producer; clock = clock; flags = continue_txn; key = o.key; value = o.value }

abbrev pub ack_at : List ℕ → ℕ → Message
ack_at producer clock = record { producer = producer; clock = clock; flags = ack_txn; key = []; value = [] }

-- messages, and the clock of the last one
pub record Clocked : Type 0 where
  pub messages : List Message
  pub last : ℕ

abbrev pub behind_it : Message → Clocked → Clocked
behind_it m c = record c { messages = m ∷ c.messages }

-- each output as a message with the next clock; None where clocks end
abbrev pub clocked : List ℕ → ℕ → ℕ → List Output → Option Clocked
clocked producer now last [] = Some (record { messages = []; last = last })
clocked producer now last (o ∷ os) =
    option_and_then (λ clock. option_map (behind_it (line_at producer clock o)) (clocked producer now clock os)) (ticks now last)

-- ---- which output each goes to

-- the lines of the messages that go to this one of so many outputs
abbrev pub lines_to : ℕ → ℕ → List Message → List ℕ
lines_to count place messages = flat_map line_of (filter (λ m. choice count m.key == place) messages)

abbrev pub block_unless_empty : List ℕ → List ℕ → List Block
block_unless_empty journal [] = []
block_unless_empty journal (b ∷ bs) = record { journal = journal; content = b ∷ bs; is_in = false } ∷ []

-- one append to each output that gets some, in their order
abbrev pub blocks_from : ℕ → ℕ → List Message → List (List ℕ) → List Block
blocks_from count place messages [] = []
blocks_from count place messages (journal ∷ journals) =
    block_unless_empty journal (lines_to count place messages) ++ blocks_from count (place + 1) messages journals

abbrev pub blocks_to : List (List ℕ) → List Message → List Block
blocks_to outputs messages = blocks_from (length outputs) 0 messages outputs

-- ---- the commit that is to come

-- an acknowledgement for each output that gets lines
abbrev pub intents_of : Message → List Block → List Intent
intents_of ack blocks = map (λ b. record { journal = b.journal; line = line_of ack }) blocks

abbrev pub places_of : List Feed → List Source
places_of feeds = map (λ f. record { journal = f.journal; point = point_of f.machine }) feeds

abbrev pub store_with : List Feed → Fold → List Intent → Store
store_with feeds fold intents = record { checkpoint = record { sources = places_of feeds; intents = intents }; state = fold.state }

-- ---- a transaction

-- One clock more, behind the lines, is the acknowledgements'.
abbrev pub publishes_with : Process → Fold → List Block → Option ℕ → Process
publishes_with p fold blocks None = stops ClockEnd p
publishes_with p fold blocks (Some clock) =
    record p { clock = clock; phase = Publishing blocks (store_with p.feeds fold (intents_of (ack_at (shard_octets p.producer) clock) blocks)) }

-- where nothing is emitted no clock is drawn, and it commits
abbrev pub publishes : Process → ℕ → Fold → ℕ → List Block → Process
publishes p now fold last [] = in_phase (Committing (store_with p.feeds fold [])) p
publishes p now fold last (b ∷ bs) = publishes_with p fold (b ∷ bs) (ticks now last)

abbrev pub emits : Process → ℕ → Fold → Option Clocked → Process
emits p now fold None = stops ClockEnd p
emits p now fold (Some c) = publishes p now fold c.last (blocks_to p.definition.outputs c.messages)

abbrev pub emits_all : Process → ℕ → Fold → Process
emits_all p now fold = emits p now fold (clocked (shard_octets p.producer) now p.clock fold.outputs)

-- the messages are consumed, in their order
abbrev pub transacts : Process → ℕ → List Message → Process
transacts p now messages = emits_all p now (fold_of (effect_of p.definition.app) p.state messages)
