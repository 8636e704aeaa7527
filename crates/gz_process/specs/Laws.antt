-- What is to hold of every process: the words of the laws in `src/laws.rt`.
use Rattle.std.specs.Prelude.{◌≡◌, ℕ, List, [], ◌∷◌, ◌++◌, map, flat_map, Bool, true, false, Some, None, is_some, ⊤, ◌⊎◌, if◌then◌else◌, codes}
use Rattle.gz_wire.specs.declared.msg.Msg.{Msg}
use Rattle.gz_wire.specs.declared.msg.Msg.TheVariants.{Append}
use Rattle.gz_wire.specs.declared.msg.Send.{Send}
use Rattle.gz_frame.specs.Messages.{Message}
use Rattle.gz_frame.specs.Line.{line_of}
use Rattle.gz_app.specs.Applications.{effect_of, fold_of}
use Rattle.gz_sequencer.specs.Transactions.{AllContinue}
use Rattle.gz_recovery.specs.Operations.{author_text}
use Rattle.gz_playback.specs.Playing.{at}
use Rattle.gz_playback.specs.Handing.{author_label}
use Rattle.gz_store.specs.Stores.{Store}
use Rattle.gz_process.specs.Processes.{Block, Phase, Playing, Handing, Acking, Drawing, Reading, Publishing, Committing, Stopped, Process}
use Rattle.gz_process.specs.Asking.{Appending, plain, question_of}
use Rattle.gz_process.specs.TakingUp.{blocks_of}
use Rattle.gz_process.specs.Transactions.{places_of}
use Rattle.gz_process.specs.Consumers.{Processes}

-- a process has asked under this number
abbrev pub is_asked : ℕ → Processes → Bool
is_asked req [] = false
is_asked req (e ∷ es) = if is_some (question_of req e.1.asked) then true else is_asked req es

-- ---- the picture of phases

-- bytes that are lines of CONTINUE messages alone, of which readers take none before their acknowledgement
pub record AreLines (bytes : List ℕ) : Type 0 where
  pub messages : List Message
  pub lines : bytes ≡ flat_map line_of messages
  pub flags : AllContinue messages

-- what blocks write into which journals, whether it is known to be in or not
abbrev pub contents : List Block → List (List ℕ × List ℕ)
contents blocks = map (λ b. (b.journal, b.content)) blocks

abbrev pub AllLines : List (List ℕ × List ℕ) → Type 0
AllLines [] = ⊤
AllLines (e ∷ es) = AreLines e.1 × AllLines es

-- A phase leads to another: the picture's arrows, and each phase to itself. What is published for a commit are lines, and
-- stays; what is committed is what was published for; and what is acknowledged behind a commit are that commit's intents.
abbrev pub Leads : Phase → Phase → Type 0
Leads Playing Playing = ⊤
Leads Playing Handing = ⊤
Leads Playing (Stopped reason) = ⊤
Leads Handing Playing = ⊤
Leads Handing Handing = ⊤
Leads Handing (Acking blocks) = ⊤
Leads Handing (Reading now got) = ⊤
Leads Handing (Stopped reason) = ⊤
Leads (Acking blocks) (Acking others) = contents others ≡ contents blocks
Leads (Acking blocks) Drawing = ⊤
Leads (Acking blocks) (Reading now got) = ⊤
Leads (Acking blocks) (Stopped reason) = ⊤
Leads Drawing Drawing = ⊤
Leads Drawing (Reading now got) = ⊤
Leads (Reading now got) (Reading later more) = ⊤
Leads (Reading now got) (Publishing blocks store) = AllLines (contents blocks)
Leads (Reading now got) (Committing store) = ⊤
Leads (Reading now got) (Stopped reason) = ⊤
Leads (Publishing blocks store) (Publishing others same) = (same ≡ store) × (contents others ≡ contents blocks)
Leads (Publishing blocks store) (Committing same) = same ≡ store
Leads (Publishing blocks store) (Stopped reason) = ⊤
Leads (Committing store) (Committing same) = same ≡ store
Leads (Committing store) (Acking blocks) = blocks ≡ blocks_of store.checkpoint.intents
Leads (Committing store) Drawing = ⊤
Leads (Committing store) (Reading now got) = ⊤
Leads (Committing store) Playing = ⊤
Leads (Committing store) (Stopped reason) = ⊤
Leads (Stopped reason) (Stopped same) = same ≡ reason
Leads from to = ⊥

-- ---- who appends

-- a handoff of the process's author to its log, right behind what it has played
pub record IsHandoff (p : Process) (journal : List ℕ) (a : Appending) : Type 0 where
  pub author : ℕ
  pub is_author : p.author ≡ Some author
  pub to_log : journal ≡ p.definition.log
  pub offset : a.offset ≡ Some (at p.player)
  pub selector : a.selector ≡ []
  pub take : a.take ≡ author_label []
  pub add : a.add ≡ author_label (author_text author)

-- a commit of the process's author to its log, for a place at which the register names this author alone
pub record IsCommit (p : Process) (journal : List ℕ) (a : Appending) : Type 0 where
  pub author : ℕ
  pub is_author : p.author ≡ Some author
  pub to_log : journal ≡ p.definition.log
  pub offset : a.offset ≡ None
  pub selector : a.selector ≡ codes "author=" ++ author_text author
  pub take : a.take ≡ []
  pub add : a.add ≡ []

-- what the phase has to write into outputs
abbrev pub blocks_in : Phase → List Block
blocks_in (Acking blocks) = blocks
blocks_in (Publishing blocks store) = blocks
blocks_in phase = []

-- one of these blocks, which touches no register
abbrev pub WritesOne : List Block → List ℕ → Appending → Type 0
WritesOne [] journal a = ⊥
WritesOne (b ∷ bs) journal a = ((journal ≡ b.journal) × (a ≡ plain b.content)) ⊎ WritesOne bs journal a

abbrev pub AppendsThat : Process → List ℕ → Appending → Type 0
AppendsThat p journal a = IsHandoff p journal a ⊎ IsCommit p journal a ⊎ WritesOne (blocks_in p.phase) journal a

-- What is appended is the process's own handoff, its own commit, or a block of its phase.
abbrev pub IsOwn : Process → Msg → Type 0
IsOwn p (Append req journal epoch offset selector take add content) =
    (epoch ≡ None) × AppendsThat p journal (record { offset = offset; selector = selector; take = take; add = add; content = content })
IsOwn p msg = ⊤

abbrev pub AreOwn : Process → List Send → Type 0
AreOwn p [] = ⊤
AreOwn p (s ∷ ss) = IsOwn p s.msg × AreOwn p ss

-- ---- what is published before a commit

abbrev pub PublishesLines : Phase → Type 0
PublishesLines (Publishing blocks store) = AllLines (contents blocks)
PublishesLines phase = ⊤

-- ---- what a transaction commits

-- A commit of messages that were consumed: the application's state after them, and the place of each source behind them.
pub record CommitsThem (p : Process) (messages : List Message) (store : Store) : Type 0 where
  pub state : store.state ≡ (fold_of (effect_of p.definition.app) p.state messages).state
  pub sources : store.checkpoint.sources ≡ places_of p.feeds

-- of a transaction's lines, an acknowledgement goes to each journal that gets some, in the same order
abbrev pub CommitsIn : Process → List Message → Phase → Type 0
CommitsIn p messages (Publishing blocks store) = CommitsThem p messages store × (map (λ i. i.journal) store.checkpoint.intents ≡ map (λ b. b.journal) blocks)
CommitsIn p messages (Committing store) = CommitsThem p messages store × (store.checkpoint.intents ≡ [])
CommitsIn p messages (Stopped reason) = ⊤
CommitsIn p messages phase = ⊥
