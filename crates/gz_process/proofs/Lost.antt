-- What each answer makes of a process in each phase, and what a give-up does: computed for every process.
use Rattle.std.specs.Prelude.{◌≡◌, ℕ, List, [], ◌∷◌, None, true, false, codes, refl}
use Rattle.gz_label.specs.declared.label.Label.{Label}
use Rattle.gz_store.specs.Stores.{Store}
use Rattle.gz_process.specs.Processes.{Phase, Playing, Handing, Acking, Drawing, Reading, Publishing, Committing, Stopped, Fenced, JournalEnd, Block, Question, ReadsLog, Draws, HandsOver, Puts, Commits, ReadsSource, Process, stops, plays_again, authored, redrawn}
use Rattle.gz_process.specs.Answers.{Answer, Made, Refused, Appended, Given}
use Rattle.gz_process.specs.Rules.{answered, gives_up}

-- one request waits: number 7
abbrev pub waits : Phase → Question → Process → Process
waits phase question p = record p { phase = phase; asked = record { req = 7; question = question } ∷ [] }

-- none waits
abbrev pub rests : Phase → Process → Process
rests phase p = record p { phase = phase; asked = [] }

abbrev pub gets : Phase → Question → Answer → Process → Process
gets phase question answer p = answered 7 question answer (waits phase question p)

-- an append's answer of this status
abbrev pub status : ℕ → Answer
status n = Appended (record { status = n; begin = 0; end = 0; registers = [] })

abbrev pub ok : ℕ → ℕ → Answer
ok begin end = Appended (record { status = 0; begin = begin; end = end; registers = [] })

abbrev pub mismatch : List Label → Answer
mismatch registers = Appended (record { status = 9; begin = 0; end = 0; registers = registers })

abbrev pub read : ℕ → ℕ → List ℕ → ℕ → Answer
read n offset content head = Given (record { status = n; offset = offset; content = content; head = head })

abbrev pub block : Block
block = record { journal = codes "o"; content = 7 ∷ 7 ∷ []; is_in = false }

-- ---- playing

-- a broker that doesn't read, and a read that is given up: the phase stays
log_unread : (p : Process) → gets Playing (ReadsLog 0) (read 2 0 [] 0) p ≡ rests Playing p
log_unread p = refl

log_given_up : (p : Process) → gives_up (waits Playing (ReadsLog 0) p) ≡ rests Playing p
log_given_up p = refl

-- bytes from another offset aren't taken, and the request waits on
other_bytes : (p : Process) → gets Playing (ReadsLog 0) (read 0 1 (7 ∷ []) 2) p ≡ waits Playing (ReadsLog 0) p
other_bytes p = refl

drew : (p : Process) → gets Playing Draws (Made 18) p ≡ authored 18 (rests Playing p)
drew p = refl

-- a revision that no producer can carry
drew_too_much : (p : Process) → gets Playing Draws (Made 1099511627776) p ≡ waits Playing Draws p
drew_too_much p = refl

draw_refused : (p : Process) → gets Playing Draws Refused p ≡ rests Playing p
draw_refused p = refl

-- ---- handing over

-- somebody appended to the log: it plays on, and keeps its author
log_grew : (p : Process) → gets Handing (HandsOver 5) (status 8) p ≡ plays_again p.author (rests Handing p)
log_grew p = refl

-- it landed or not: it plays again, and draws anew
handoff_closed : (p : Process) → gets Handing (HandsOver 5) (status 10) p ≡ plays_again None (rests Handing p)
handoff_closed p = refl

handoff_given_up : (p : Process) → gives_up (waits Handing (HandsOver 5) p) ≡ plays_again None (rests Handing p)
handoff_given_up p = refl

handoff_full : (p : Process) → gets Handing (HandsOver 5) (status 5) p ≡ stops (JournalEnd p.definition.log) (rests Handing p)
handoff_full p = refl

-- nothing landed, and the next poll sends the same
handoff_again : (p : Process) → gets Handing (HandsOver 5) (status 2) p ≡ rests Handing p
handoff_again p = refl

-- an ok that its content doesn't fit, and a mismatch, which no handoff asks for
handoff_misfits : (p : Process) → gets Handing (HandsOver 5) (ok 0 4) p ≡ waits Handing (HandsOver 5) p
handoff_misfits p = refl

handoff_mismatch : (p : Process) → gets Handing (HandsOver 5) (mismatch []) p ≡ waits Handing (HandsOver 5) p
handoff_mismatch p = refl

-- ---- acknowledging

acknowledged : (p : Process) → gets (Acking (block ∷ [])) (Puts (codes "o") 2) (ok 3 5) (record p { is_in_doubt = false }) ≡ rests (Reading 0 []) (record p { is_in_doubt = false })
acknowledged p = refl

-- in doubt another producer is drawn first
acknowledged_in_doubt : (p : Process) → gets (Acking (block ∷ [])) (Puts (codes "o") 2) (ok 3 5) (record p { is_in_doubt = true }) ≡ rests Drawing (record p { is_in_doubt = true })
acknowledged_in_doubt p = refl

ack_closed : (p : Process) → gets (Acking (block ∷ [])) (Puts (codes "o") 2) (status 10) p ≡ record (rests (Acking (block ∷ [])) p) { is_in_doubt = true }
ack_closed p = refl

ack_given_up : (p : Process) → gives_up (waits (Acking (block ∷ [])) (Puts (codes "o") 2) p) ≡ record (rests (Acking (block ∷ [])) p) { is_in_doubt = true }
ack_given_up p = refl

ack_full : (p : Process) → gets (Acking (block ∷ [])) (Puts (codes "o") 2) (status 5) p ≡ stops (JournalEnd (codes "o")) (rests (Acking (block ∷ [])) p)
ack_full p = refl

ack_again : (p : Process) → gets (Acking (block ∷ [])) (Puts (codes "o") 2) (status 4) p ≡ rests (Acking (block ∷ [])) p
ack_again p = refl

-- ---- drawing another producer

redrew : (p : Process) → gets Drawing Draws (Made 20) p ≡ redrawn 20 (rests Drawing p)
redrew p = refl

redraw_given_up : (p : Process) → gives_up (waits Drawing Draws p) ≡ rests Drawing p
redraw_given_up p = refl

-- ---- reading

-- where one read is given up, what others were answered is dropped
read_given_up : (p : Process) → gives_up (waits (Reading 5 (record { journal = codes "b"; content = 7 ∷ [] } ∷ [])) (ReadsSource (codes "a") 0) p) ≡ rests (Reading 5 []) p
read_given_up p = refl

-- ---- publishing

published : (p : Process) (store : Store) → gets (Publishing (block ∷ []) store) (Puts (codes "o") 2) (ok 3 5) p ≡ rests (Committing store) p
published p store = refl

-- lines that land or not are written again, with their clocks
lines_closed : (p : Process) (store : Store) → gets (Publishing (block ∷ []) store) (Puts (codes "o") 2) (status 10) p ≡ rests (Publishing (block ∷ []) store) p
lines_closed p store = refl

lines_given_up : (p : Process) (store : Store) → gives_up (waits (Publishing (block ∷ []) store) (Puts (codes "o") 2) p) ≡ rests (Publishing (block ∷ []) store) p
lines_given_up p store = refl

lines_full : (p : Process) (store : Store) → gets (Publishing (block ∷ []) store) (Puts (codes "o") 2) (status 5) p ≡ stops (JournalEnd (codes "o")) (rests (Publishing (block ∷ []) store) p)
lines_full p store = refl

-- ---- committing

-- another author is in force
fenced : (p : Process) (store : Store) (registers : List Label) → gets (Committing store) (Commits 5) (mismatch registers) p ≡ stops (Fenced registers) (rests (Committing store) p)
fenced p store registers = refl

-- it landed or not: whoever plays the log next sees which
commit_closed : (p : Process) (store : Store) → gets (Committing store) (Commits 5) (status 10) p ≡ plays_again None (rests (Committing store) p)
commit_closed p store = refl

commit_given_up : (p : Process) (store : Store) → gives_up (waits (Committing store) (Commits 5) p) ≡ plays_again None (rests (Committing store) p)
commit_given_up p store = refl

commit_again : (p : Process) (store : Store) → gets (Committing store) (Commits 5) (status 7) p ≡ rests (Committing store) p
commit_again p store = refl

commit_full : (p : Process) (store : Store) → gets (Committing store) (Commits 5) (status 5) p ≡ stops (JournalEnd p.definition.log) (rests (Committing store) p)
commit_full p store = refl

-- a commit expects no offset
commit_elsewhere : (p : Process) (store : Store) → gets (Committing store) (Commits 5) (status 8) p ≡ waits (Committing store) (Commits 5) p
commit_elsewhere p store = refl

-- ---- stopped

-- an answer that still comes is settled
late_in_stop : (p : Process) → gets (Stopped (JournalEnd (codes "o"))) (Puts (codes "u") 2) (ok 0 2) p ≡ rests (Stopped (JournalEnd (codes "o"))) p
late_in_stop p = refl

stopped_given_up : (p : Process) → gives_up (waits (Stopped (JournalEnd (codes "o"))) (Puts (codes "u") 2) p) ≡ rests (Stopped (JournalEnd (codes "o"))) p
stopped_given_up p = refl
