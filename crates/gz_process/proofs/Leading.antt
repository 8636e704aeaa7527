-- Each rule of a process leads along an arrow of the picture of phases.
use Rattle.std.proofs.Common.{◌≡◌, ℕ, ◌+◌, ◌==◌, ◌&&◌, List, [], ◌∷◌, ◌++◌, length, map, filter, not, refl, ap, subst, sym, ◌∙◌, Bool, true, false, cond, is_none, is_some, Option, Some, None, Result, Ok, Err, option_map, option_and_then, nat_le}
use Rattle.std.specs.Prelude.{⊤}
use Rattle.std.specs.Str.{bytes_eq}
use Rattle.std.proofs.lemmas.Bool.{cond_both}
use Rattle.gz_journal.specs.declared.request.Request.{Request}
use Rattle.gz_keyspace.specs.Mirrors.{Mirrored}
use Rattle.gz_frame.specs.Messages.{Message, continue_txn}
use Rattle.gz_app.specs.Applications.{Output, Fold}
use Rattle.gz_promise.specs.Outputs.{choice}
use Rattle.gz_sequencer.specs.Transactions.{AllContinue}
use Rattle.gz_recovery.specs.Operations.{Op}
use Rattle.gz_recovery.specs.Files.{Fsm, file_at}
use Rattle.gz_recovery.specs.declared.error.RecordError.{RecordError}
use Rattle.gz_playback.specs.Playing.{fed}
use Rattle.gz_playback.specs.Handing.{handoff}
use Rattle.gz_store.specs.Stores.{Store, Loaded, NoState, BadState, Good, load}
use Rattle.gz_store.specs.Commits.{next_path}
use Rattle.gz_process.specs.Processes.{Phase, Playing, Handing, Acking, Drawing, Reading, Publishing, Committing, Stopped, Reason, Block, Got, Question, ReadsLog, Draws, HandsOver, Puts, ReadsSource, Commits, Process}
use Rattle.gz_process.specs.Views.{asked_node, is_primary}
use Rattle.gz_process.specs.Asking.{Want, Polled, quiet, asks, asks_at, is_idle, settled}
use Rattle.gz_process.specs.Answers.{Fate, Landed, Again, NoRoom, Elsewhere, Mismatch, Closed, NoFate, Found, Bytes, NoReader, NotYet, NoSense, Answer, Made, Refused, Appended, Given, fate_of, found_at, max_draw}
use Rattle.gz_process.specs.Playing.{log_read, handing_over, hands_with, hands_or_draws, polls_handing}
use Rattle.gz_process.specs.TakingUp.{blocks_of, are_in, takes_log, takes_files, takes_loaded, handed_over}
use Rattle.gz_process.specs.Transactions.{ticks, line_at, Clocked, behind_it, clocked, lines_to, block_unless_empty, blocks_from, blocks_to, publishes, publishes_with, emits, emits_all}
use Rattle.gz_process.specs.Reading.{source_reads, fed_each, released_by, taken_all, consumes, reads_on}
use Rattle.gz_process.specs.Writing.{put_of_block, put_in, committing, commits_with, polls_committing, ops_of, committed_by}
use Rattle.gz_process.specs.Rules.{polls_in, polls, on_draw, on_log_in, on_handoff_in, on_put, on_commit_in, on_source_in, takes, or_stays, answered, given_up_in, gives_up}
use Rattle.gz_process.specs.Laws.{AreLines, contents, AllLines, Leads, PublishesLines}

-- ---- each phase leads to itself

stays : (f : Phase) → Leads f f
stays Playing = tt
stays Handing = tt
stays (Acking blocks) = refl
stays Drawing = tt
stays (Reading now got) = tt
stays (Publishing blocks store) = (refl, refl)
stays (Committing store) = refl
stays (Stopped reason) = refl

-- to the phase that it is in
here : (p : Process) (f : Phase) → p.phase ≡ f → Leads f p.phase
here p f e = subst (λ (g : Phase). Leads f g) (sym e) (stays f)

-- ---- polls

asks_phase : (m : Mirrored) (base : ℕ) (ws : List Want) (out : Polled) → (asks m base ws out).process.phase ≡ out.process.phase
asks_phase m base [] out = refl
asks_phase m base (w ∷ ws) out = asks_phase m base ws (asks_at base w (asked_node w.journal m) out) ∙ at (asked_node w.journal m)
  where
    at : (node : Option (List ℕ)) → (asks_at base w node out).process.phase ≡ out.process.phase
    at None = refl
    at (Some node) = refl

asks_here : (m : Mirrored) (base : ℕ) (ws : List Want) (p : Process) (f : Phase) → p.phase ≡ f → Leads f (asks m base ws (quiet p)).process.phase
asks_here m base ws p f e = subst (λ (g : Phase). Leads f g) (sym (asks_phase m base ws (quiet p) ∙ e)) (stays f)

-- a handoff that is sent, or for which numbers end
hands_on : (f : Phase) → Leads f Handing → ((reason : Reason) → Leads f (Stopped reason)) → (m : Mirrored) (base : ℕ) (p : Process) → p.phase ≡ f →
    (r : Result Request RecordError) → Leads f (hands_with m base p r).process.phase
hands_on f hands stops m base p e (Err x) = stops _
hands_on f hands stops m base p e (Ok r) =
    cond_both ((asks m base (handing_over p r ∷ []) (quiet p)).numbered == 0) _ _ (λ (o : Polled). Leads f o.process.phase)
    (λ _. asks_here m base (handing_over p r ∷ []) p f e) (λ _. hands)

playing_on : (name : List ℕ) (m : Mirrored) (base : ℕ) (p : Process) → p.phase ≡ Playing → (author : Option ℕ) → Leads Playing (hands_or_draws name m base p author).process.phase
playing_on name m base p e None = here p Playing e
playing_on name m base p e (Some author) = hands_on Playing tt (λ _. tt) m base p e (handoff author (record { node = name; req = base + 1 }) p.player)

handing_on : (name : List ℕ) (m : Mirrored) (base : ℕ) (p : Process) → p.phase ≡ Handing → (author : Option ℕ) → Leads Handing (polls_handing name m base p author).process.phase
handing_on name m base p e None = here p Handing e
handing_on name m base p e (Some author) = hands_on Handing tt (λ _. tt) m base p e (handoff author (record { node = name; req = base + 1 }) p.player)

committing_on : (m : Mirrored) (base : ℕ) (p : Process) (store : Store) → p.phase ≡ Committing store → (author : ℕ) (r : Result (List Op) RecordError) →
    Leads (Committing store) (commits_with m base p author r).process.phase
committing_on m base p store e author (Err x) = tt
committing_on m base p store e author (Ok ops) = asks_here m base (committing p author ops ∷ []) p (Committing store) e

committing_if : (m : Mirrored) (base : ℕ) (p : Process) (store : Store) → p.phase ≡ Committing store → (author : Option ℕ) → Leads (Committing store) (polls_committing m base p store author).process.phase
committing_if m base p store e None = here p (Committing store) e
committing_if m base p store e (Some author) = committing_on m base p store e author (ops_of author p.fsm store)

abbrev to_write : List Block → List Want
to_write blocks = map put_of_block (filter (λ b. not b.is_in) blocks)

polled : (name : List ℕ) (m : Mirrored) (base now : ℕ) (p : Process) (f : Phase) → p.phase ≡ f → Leads f (polls_in name m base now p f).process.phase
polled name m base now p Playing e =
    cond_both (is_primary name p.definition.id m && p.at_head) _ _ (λ (o : Polled). Leads Playing o.process.phase)
    (λ _. playing_on name m base p e p.author) (λ _. asks_here m base (log_read p ∷ []) p Playing e)
polled name m base now p Handing e = handing_on name m base p e p.author
polled name m base now p (Acking blocks) e = asks_here m base (to_write blocks) p (Acking blocks) e
polled name m base now p Drawing e = here p Drawing e
polled name m base now p (Reading before got) e =
    subst (λ (g : Phase). Leads (Reading before got) g) (sym (asks_phase m base (source_reads p.feeds) (quiet (record p { phase = Reading now [] })))) tt
polled name m base now p (Publishing blocks store) e = asks_here m base (to_write blocks) p (Publishing blocks store) e
polled name m base now p (Committing store) e = committing_if m base p store e p.author
polled name m base now p (Stopped reason) e = here p (Stopped reason) e

pub polls_lead : (name : List ℕ) (m : Mirrored) (base now : ℕ) (p : Process) → Leads p.phase (polls name m base now p).process.phase
polls_lead name m base now p =
    cond_both (is_idle p) _ _ (λ (o : Polled). Leads p.phase o.process.phase) (λ _. polled name m base now p p.phase refl) (λ _. stays p.phase)

-- ---- answers

-- where something is taken, it leads on
abbrev IfLed : Phase → Option Process → Type 0
IfLed f None = ⊤
IfLed f (Some q) = Leads f q.phase

logged : (p : Process) (found : Found) (f : Phase) → p.phase ≡ f → IfLed f (on_log_in p found f)
logged p (Bytes content) Playing e =
    cond_both (is_none (fed p.player content).bad) _ _ (λ (o : Option Process). IfLed Playing o) (λ _. here p Playing e) (λ _. tt)
logged p NoReader Playing e = here p Playing e
logged p (NotYet head) Playing e = here p Playing e
logged p NoSense Playing e = tt
logged p found f e = tt

drawn : (p : Process) (draw : ℕ) (f : Phase) → IfLed f (on_draw p draw f)
drawn p draw Playing = tt
drawn p draw Drawing = tt
drawn p draw f = tt

-- ---- the answer of a handoff

taken_up : (b : Bool) (blocks : List Block) → Leads Handing (cond b (Reading 0 []) (Acking blocks))
taken_up true blocks = tt
taken_up false blocks = tt

loaded : (p : Process) (fsm : Fsm) (l : Loaded) → IfLed Handing (takes_loaded p fsm l)
loaded p fsm NoState = tt
loaded p fsm BadState = tt
loaded p fsm (Good store) = taken_up (are_in (blocks_of store.checkpoint.intents)) (blocks_of store.checkpoint.intents)

with_files : (p : Process) (o : Option Fsm) → IfLed Handing (takes_files p o)
with_files p None = tt
with_files p (Some fsm) =
    cond_both (is_some (file_at next_path fsm.files)) _ _ (λ (o : Option Process). IfLed Handing o) (λ _. tt) (λ _. loaded p fsm (load fsm))

with_author : (p : Process) (author : Option ℕ) → IfLed Handing (takes_log p author)
with_author p None = tt
with_author p (Some author) = with_files p (handed_over author p.player.fsm)

handed : (p : Process) (fate : Fate) (f : Phase) → p.phase ≡ f → IfLed f (on_handoff_in p fate f)
handed p Landed Handing e = with_author p p.author
handed p Again Handing e = here p Handing e
handed p NoRoom Handing e = tt
handed p Elsewhere Handing e = tt
handed p (Mismatch registers) Handing e = tt
handed p Closed Handing e = tt
handed p NoFate Handing e = tt
handed p fate f e = tt

-- ---- the answers of acknowledgements and of lines

same_contents : (journal : List ℕ) (bs : List Block) → contents (put_in journal bs) ≡ contents bs
same_contents journal [] = refl
same_contents journal (b ∷ bs) = at (same_contents journal bs) (bytes_eq b.journal journal)
  where
    at : contents (put_in journal bs) ≡ contents bs → (c : Bool) → contents (cond c (record b { is_in = true }) b ∷ put_in journal bs) ≡ contents (b ∷ bs)
    at h true = ap (λ (es : List (List ℕ × List ℕ)). (b.journal, b.content) ∷ es) h
    at h false = ap (λ (es : List (List ℕ × List ℕ)). (b.journal, b.content) ∷ es) h

acked : (blocks others : List Block) → contents others ≡ contents blocks → (b d : Bool) → Leads (Acking blocks) (cond b (cond d Drawing (Reading 0 [])) (Acking others))
acked blocks others e true true = tt
acked blocks others e true false = tt
acked blocks others e false d = e

lined : (blocks others : List Block) (store : Store) → contents others ≡ contents blocks → (b : Bool) → Leads (Publishing blocks store) (cond b (Committing store) (Publishing others store))
lined blocks others store e true = refl
lined blocks others store e false = (refl, e)

put : (p : Process) (journal : List ℕ) (fate : Fate) (f : Phase) → p.phase ≡ f → IfLed f (on_put p journal fate f)
put p journal Landed (Acking blocks) e = acked blocks (put_in journal blocks) (same_contents journal blocks) (are_in (put_in journal blocks)) p.is_in_doubt
put p journal Again (Acking blocks) e = here p (Acking blocks) e
put p journal NoRoom (Acking blocks) e = tt
put p journal Elsewhere (Acking blocks) e = tt
put p journal (Mismatch registers) (Acking blocks) e = tt
put p journal Closed (Acking blocks) e = here p (Acking blocks) e
put p journal NoFate (Acking blocks) e = tt
put p journal Landed (Publishing blocks store) e = lined blocks (put_in journal blocks) store (same_contents journal blocks) (are_in (put_in journal blocks))
put p journal Again (Publishing blocks store) e = here p (Publishing blocks store) e
put p journal NoRoom (Publishing blocks store) e = tt
put p journal Elsewhere (Publishing blocks store) e = tt
put p journal (Mismatch registers) (Publishing blocks store) e = tt
put p journal Closed (Publishing blocks store) e = here p (Publishing blocks store) e
put p journal NoFate (Publishing blocks store) e = tt
put p journal fate (Stopped reason) e = here p (Stopped reason) e
put p journal fate f e = tt

-- ---- the answer of a commit

acknowledging : (store : Store) (b d : Bool) → Leads (Committing store) (cond b (cond d Drawing (Reading 0 [])) (Acking (blocks_of store.checkpoint.intents)))
acknowledging store true true = tt
acknowledging store true false = tt
acknowledging store false d = refl

by_author : (p : Process) (store : Store) (author : Option ℕ) → IfLed (Committing store) (committed_by p store author)
by_author p store None = tt
by_author p store (Some author) = acknowledging store (are_in (blocks_of store.checkpoint.intents)) p.is_in_doubt

committed : (p : Process) (fate : Fate) (f : Phase) → p.phase ≡ f → IfLed f (on_commit_in p fate f)
committed p Landed (Committing store) e = by_author p store p.author
committed p Again (Committing store) e = here p (Committing store) e
committed p NoRoom (Committing store) e = tt
committed p Elsewhere (Committing store) e = tt
committed p (Mismatch registers) (Committing store) e = tt
committed p Closed (Committing store) e = tt
committed p NoFate (Committing store) e = tt
committed p fate f e = tt

-- ---- a transaction: what is published are lines

abbrev IfContinue : Option Clocked → Type 0
IfContinue None = ⊤
IfContinue (Some c) = AllContinue c.messages

continue_more : (m : Message) (c : Option Clocked) → m.flags ≡ continue_txn → IfContinue c → IfContinue (option_map (behind_it m) c)
continue_more m None f h = tt
continue_more m (Some c) f h = (f, h)

all_continue : (producer : List ℕ) (now last : ℕ) (os : List Output) → IfContinue (clocked producer now last os)
all_continue producer now last [] = tt
all_continue producer now last (o ∷ os) = at (λ clock. all_continue producer now clock os) (ticks now last)
  where
    at : ((clock : ℕ) → IfContinue (clocked producer now clock os)) → (t : Option ℕ) →
        IfContinue (option_and_then (λ clock. option_map (behind_it (line_at producer clock o)) (clocked producer now clock os)) t)
    at f None = tt
    at f (Some clock) = continue_more (line_at producer clock o) (clocked producer now clock os) refl (f clock)

some_continue : (f : Message → Bool) (ms : List Message) → AllContinue ms → AllContinue (filter f ms)
some_continue f [] h = tt
some_continue f (m ∷ ms) h = cond_both (f m) _ _ (λ (xs : List Message). AllContinue xs) (λ _. (h.0, some_continue f ms h.1)) (λ _. some_continue f ms h.1)

lines_at : (count place : ℕ) (ms : List Message) → AllContinue ms → AreLines (lines_to count place ms)
lines_at count place ms h = record {
  messages = filter (λ m. choice count m.key == place) ms;
  lines = refl;
  flags = some_continue (λ m. choice count m.key == place) ms h;
}

all_lines : (count place : ℕ) (ms : List Message) → AllContinue ms → (journals : List (List ℕ)) → AllLines (contents (blocks_from count place ms journals))
all_lines count place ms h [] = tt
all_lines count place ms h (j ∷ js) = at (all_lines count (place + 1) ms h js) (lines_to count place ms) (lines_at count place ms h)
  where
    at : AllLines (contents (blocks_from count (place + 1) ms js)) → (bytes : List ℕ) → AreLines bytes →
        AllLines (contents (block_unless_empty j bytes ++ blocks_from count (place + 1) ms js))
    at rest [] l = rest
    at rest (b ∷ bs) l = (l, rest)

-- a phase behind Reading
abbrev LedFromReading : Phase → Type 0
LedFromReading f = Leads (Reading 0 []) f

publishing : (p : Process) (fold : Fold) (b : Block) (bs : List Block) → AllLines (contents (b ∷ bs)) → (clock : Option ℕ) → LedFromReading (publishes_with p fold (b ∷ bs) clock).phase
publishing p fold b bs h None = tt
publishing p fold b bs h (Some clock) = h

published : (p : Process) (now : ℕ) (fold : Fold) (last : ℕ) (bs : List Block) → AllLines (contents bs) → LedFromReading (publishes p now fold last bs).phase
published p now fold last [] h = tt
published p now fold last (b ∷ bs) h = publishing p fold b bs h (ticks now last)

emitted : (p : Process) (now : ℕ) (fold : Fold) (c : Option Clocked) → IfContinue c → LedFromReading (emits p now fold c).phase
emitted p now fold None h = tt
emitted p now fold (Some c) h =
    published p now fold c.last (blocks_to p.definition.outputs c.messages) (all_lines (length p.definition.outputs) 0 c.messages h p.definition.outputs)

all_emitted : (p : Process) (now : ℕ) (fold : Fold) → LedFromReading (emits_all p now fold).phase
all_emitted p now fold = emitted p now fold _ (all_continue _ now p.clock fold.outputs)

consumed : (p : Process) (now : ℕ) (ms : List Message) → LedFromReading (consumes p now ms).phase
consumed p now [] = tt
consumed p now (m ∷ ms) = all_emitted p now _

-- whatever it holds
reading_leads : (now : ℕ) (got : List Got) (f : Phase) → LedFromReading f → Leads (Reading now got) f
reading_leads now got (Reading later more) h = tt
reading_leads now got (Publishing blocks store) h = h
reading_leads now got (Committing store) h = tt
reading_leads now got (Stopped reason) h = tt
reading_leads now got Playing h = h
reading_leads now got Handing h = h
reading_leads now got (Acking blocks) h = h
reading_leads now got Drawing h = h

read_on : (p : Process) (now : ℕ) (got before : List Got) → Leads (Reading now before) (reads_on p now got).phase
read_on p now got before =
    cond_both (is_idle p) _ _ (λ (q : Process). Leads (Reading now before) q.phase)
    (λ _. reading_leads now before _ (consumed (record p { feeds = taken_all (fed_each got p.feeds) }) now (released_by (fed_each got p.feeds)))) (λ _. tt)

sourced : (p : Process) (journal : List ℕ) (found : Found) (f : Phase) → IfLed f (on_source_in p journal found f)
sourced p journal (Bytes content) (Reading now got) = read_on p now _ got
sourced p journal NoReader (Reading now got) = read_on p now got got
sourced p journal (NotYet head) (Reading now got) = read_on p now got got
sourced p journal NoSense (Reading now got) = tt
sourced p journal found f = tt

-- ---- all answers

taken : (p : Process) (question : Question) (answer : Answer) → IfLed p.phase (takes p question answer)
taken p (ReadsLog offset) (Given r) = logged p (found_at offset r) p.phase refl
taken p Draws (Made revision) = cond_both (nat_le revision max_draw) _ _ (λ (o : Option Process). IfLed p.phase o) (λ _. drawn p revision p.phase) (λ _. tt)
taken p Draws Refused = stays p.phase
taken p (HandsOver len) (Appended d) = handed p (fate_of len d) p.phase refl
taken p (Puts journal len) (Appended d) = put p journal (fate_of len d) p.phase refl
taken p (ReadsSource journal offset) (Given r) = sourced p journal (found_at offset r) p.phase
taken p (Commits len) (Appended d) = committed p (fate_of len d) p.phase refl
taken p question answer = tt

or_stayed : (p : Process) (o : Option Process) → IfLed p.phase o → Leads p.phase (or_stays p o).phase
or_stayed p None h = stays p.phase
or_stayed p (Some q) h = h

pub answers_lead : (req : ℕ) (question : Question) (answer : Answer) (p : Process) → Leads p.phase (answered req question answer p).phase
answers_lead req question answer p = or_stayed p (takes (settled req p) question answer) (taken (settled req p) question answer)

-- ---- what is given up

given_up : (p : Process) (f : Phase) → p.phase ≡ f → Leads f (given_up_in p f).phase
given_up p Playing e = here p Playing e
given_up p Handing e = tt
given_up p (Acking blocks) e = here p (Acking blocks) e
given_up p Drawing e = here p Drawing e
given_up p (Reading now got) e = tt
given_up p (Publishing blocks store) e = here p (Publishing blocks store) e
given_up p (Committing store) e = tt
given_up p (Stopped reason) e = here p (Stopped reason) e

pub given_up_leads : (p : Process) → Leads p.phase (gives_up p).phase
given_up_leads p =
    cond_both (is_idle p) _ _ (λ (q : Process). Leads p.phase q.phase) (λ _. stays p.phase) (λ _. given_up (record p { asked = [] }) p.phase refl)

-- ---- what follows

-- a stopped phase leads to itself alone
stopped_stays : (reason : Reason) (f : Phase) → Leads (Stopped reason) f → f ≡ Stopped reason
stopped_stays reason (Stopped same) l = ap (λ (r : Reason). Stopped r) l
stopped_stays reason Playing l = absurd l
stopped_stays reason Handing l = absurd l
stopped_stays reason (Acking blocks) l = absurd l
stopped_stays reason Drawing l = absurd l
stopped_stays reason (Reading now got) l = absurd l
stopped_stays reason (Publishing blocks store) l = absurd l
stopped_stays reason (Committing store) l = absurd l

pub stopped_for_ever : (f g : Phase) (reason : Reason) → f ≡ Stopped reason → Leads f g → g ≡ Stopped reason
stopped_for_ever f g reason e l = stopped_stays reason g (subst (λ (h : Phase). Leads h g) e l)

-- what leads keeps that lines alone are published
pub lines_alone : (f g : Phase) → Leads f g → PublishesLines f → PublishesLines g
lines_alone (Publishing blocks store) (Publishing others same) l h = subst (λ (es : List (List ℕ × List ℕ)). AllLines es) (sym l.1) h
lines_alone (Reading now got) (Publishing blocks store) l h = l
lines_alone Playing (Publishing blocks store) l h = absurd l
lines_alone Handing (Publishing blocks store) l h = absurd l
lines_alone (Acking others) (Publishing blocks store) l h = absurd l
lines_alone Drawing (Publishing blocks store) l h = absurd l
lines_alone (Committing same) (Publishing blocks store) l h = absurd l
lines_alone (Stopped reason) (Publishing blocks store) l h = absurd l
lines_alone f g l h = tt
