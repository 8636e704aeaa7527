-- What a transaction commits, and what a landed commit leads to.
use Rattle.std.proofs.Common.{◌≡◌, ℕ, List, [], ◌∷◌, map, refl, ap, subst, sym, Option, Some, None}
use Rattle.gz_frame.specs.Messages.{Message}
use Rattle.gz_app.specs.Applications.{Fold, effect_of, fold_of}
use Rattle.gz_store.specs.Stores.{Intent, Store}
use Rattle.gz_process.specs.Processes.{Phase, Committing, Block, Commits, Process}
use Rattle.gz_process.specs.Asking.{settled}
use Rattle.gz_process.specs.Answers.{Fate, Landed, Done, Appended, fate_of}
use Rattle.gz_process.specs.TakingUp.{acknowledges, blocks_of}
use Rattle.gz_process.specs.Transactions.{ticks, Clocked, blocks_to, intents_of, publishes, publishes_with, emits, transacts}
use Rattle.gz_process.specs.Writing.{committed_by, on_commit}
use Rattle.gz_process.specs.Rules.{on_commit_in, or_stays, answered}
use Rattle.gz_process.specs.Laws.{CommitsIn}

-- an acknowledgement goes to each journal that gets lines
same_journals : (ack : Message) (bs : List Block) → map (λ (i : Intent). i.journal) (intents_of ack bs) ≡ map (λ (b : Block). b.journal) bs
same_journals ack [] = refl
same_journals ack (b ∷ bs) = ap (λ (js : List (List ℕ)). b.journal ∷ js) (same_journals ack bs)

abbrev folded : Process → List Message → Fold
folded p ms = fold_of (effect_of p.definition.app) p.state ms

with_clock : (p : Process) (ms : List Message) (b : Block) (bs : List Block) (clock : Option ℕ) → CommitsIn p ms (publishes_with p (folded p ms) (b ∷ bs) clock).phase
with_clock p ms b bs None = tt
with_clock p ms b bs (Some clock) = (record { state = refl; sources = refl }, same_journals _ (b ∷ bs))

with_blocks : (p : Process) (now last : ℕ) (ms : List Message) (bs : List Block) → CommitsIn p ms (publishes p now (folded p ms) last bs).phase
with_blocks p now last ms [] = (record { state = refl; sources = refl }, refl)
with_blocks p now last ms (b ∷ bs) = with_clock p ms b bs (ticks now last)

with_lines : (p : Process) (now : ℕ) (ms : List Message) (c : Option Clocked) → CommitsIn p ms (emits p now (folded p ms) c).phase
with_lines p now ms None = tt
with_lines p now ms (Some c) = with_blocks p now c.last ms (blocks_to p.definition.outputs c.messages)

pub commits_them : (p : Process) (now : ℕ) (ms : List Message) → CommitsIn p ms (transacts p now ms).phase
commits_them p now ms = with_lines p now ms _

-- ---- a landed commit

abbrev IsAcknowledged : Process → Store → Process → Type 0
IsAcknowledged p store q = (q.state ≡ store.state) × (q.phase ≡ (acknowledges (blocks_of store.checkpoint.intents) p).phase)

pub landed : (req len author : ℕ) (done : Done) (p : Process) (store : Store) → p.phase ≡ Committing store → p.author ≡ Some author → fate_of len done ≡ Landed →
    IsAcknowledged p store (answered req (Commits len) (Appended done) p)
landed req len author done p store e a l =
    subst (λ (g : Phase). IsAcknowledged p store (or_stays p (on_commit_in (settled req p) (fate_of len done) g))) (sym e)
    (subst (λ (t : Fate). IsAcknowledged p store (or_stays p (on_commit (settled req p) store t))) (sym l)
    (subst (λ (x : Option ℕ). IsAcknowledged p store (or_stays p (committed_by (settled req p) store x))) (sym a) (refl, refl)))
