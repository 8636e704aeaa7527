-- How a process takes its shard up: the handoff landed, so the log is its author's, and what the last commit left is loaded.
use Rattle.std.specs.Prelude.{ℕ, List, [], ◌∷◌, map, Bool, false, true, ◌&&◌, Option, Some, None, is_some, if◌then◌else◌}
use Rattle.std.specs.Str.{bytes_eq}
use Rattle.gz_spec.specs.Records.{SourceSpec}
use Rattle.gz_sequencer.specs.Machine.{Machine, started, resumed}
use Rattle.gz_recovery.specs.declared.op.OpKind.TheVariants.{Handoff}
use Rattle.gz_recovery.specs.Files.{Fsm, applied, file_at}
use Rattle.gz_store.specs.Stores.{Intent, Source, Store, Loaded, NoState, BadState, Good, load}
use Rattle.gz_store.specs.Commits.{next_path}
use Rattle.gz_process.specs.Processes.{Block, Phase, Acking, Drawing, Reading, JournalEnd, Feed, Process, in_phase, stops, plays_again}
use Rattle.gz_process.specs.Answers.{Fate, Landed, Again, NoRoom, Elsewhere, Mismatch, Closed, NoFate}

-- ---- acknowledgements

abbrev pub blocks_of : List Intent → List Block
blocks_of intents = map (λ i. record { journal = i.journal; content = i.line; is_in = false }) intents

abbrev pub are_in : List Block → Bool
are_in [] = true
are_in (b ∷ bs) = b.is_in && are_in bs

-- it reads, or where it is in doubt of an acknowledgement draws another producer first
abbrev pub ready : Bool → Phase
ready is_in_doubt = if is_in_doubt then Drawing else Reading 0 []

-- when all of them are in it is ready
abbrev pub acknowledges : List Block → Process → Process
acknowledges blocks p = in_phase (if are_in blocks then ready p.is_in_doubt else Acking blocks) p

-- ---- sources

-- a source goes on from its place in the checkpoint, and begins at the offset where it has none
abbrev pub machine_of : List ℕ → ℕ → List Source → Machine
machine_of journal offset [] = started offset
machine_of journal offset (s ∷ ss) = if bytes_eq s.journal journal then resumed s.point else machine_of journal offset ss

abbrev pub feeds_from : List Source → List SourceSpec → List Feed
feeds_from sources specs = map (λ s. record { journal = s.journal; machine = machine_of s.journal s.min_offset sources }) specs

-- ---- the log is its author's

-- what a log without a commit has
abbrev pub empty_store : Store
empty_store = record { checkpoint = record { sources = []; intents = [] }; state = [] }

abbrev pub takes_store : Process → Fsm → Store → Process
takes_store p fsm store = acknowledges (blocks_of store.checkpoint.intents)
    (record p { fsm = fsm; state = store.state; feeds = feeds_from store.checkpoint.sources p.definition.sources; is_in_doubt = false })

abbrev pub takes_loaded : Process → Fsm → Loaded → Option Process
takes_loaded p fsm NoState = Some (takes_store p fsm empty_store)
takes_loaded p fsm BadState = None
takes_loaded p fsm (Good store) = Some (takes_store p fsm store)

-- a commit that isn't whole isn't there
abbrev pub takes_files : Process → Option Fsm → Option Process
takes_files p None = None
takes_files p (Some fsm) = if is_some (file_at next_path fsm.files) then None else takes_loaded p fsm (load fsm)

-- the files that it has played, with its handoff behind them
abbrev pub handed_over : ℕ → Fsm → Option Fsm
handed_over author fsm = applied (record { author = author; seq = fsm.next; kind = Handoff }) fsm

abbrev pub takes_log : Process → Option ℕ → Option Process
takes_log p None = None
takes_log p (Some author) = takes_files p (handed_over author p.player.fsm)

-- the handoff is answered
abbrev pub on_handoff : Process → Fate → Option Process
on_handoff p Landed = takes_log p p.author
on_handoff p Again = Some p
on_handoff p NoRoom = Some (stops (JournalEnd p.definition.log) p)
on_handoff p Elsewhere = Some (plays_again p.author p)
on_handoff p (Mismatch registers) = None
on_handoff p Closed = Some (plays_again None p)
on_handoff p NoFate = None
