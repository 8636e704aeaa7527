-- For each wrong step a run after which a claim is false: so it isn't only its proof that is gone.
use Rattle.std.proofs.Common.{◌≡◌, ℕ, ◌+◌, List, [], ◌∷◌, ◌++◌, length, refl, true, Bool}
use Rattle.std.specs.Prelude.{if◌then◌else◌}
use Rattle.gz_reader.specs.Reader.{Message, Outside, Continue, Acknowledge, updated, values_of, committed, pour, acknowledgement}
use Rattle.gz_once.specs.Log.{Handed, Committed, count, accepted, store_of}
use Rattle.gz_once.specs.Processes.{Append, Handoff, Commit, Todo, Phase, Handing, Acking, Reading, Publishing, Committing, Sending, Process, Item, Drew, Ask, Ask_at, Fed, Go, Good, Lost, Good_at, Lost_at, Consumed, Outcome, still, step}
use Rattle.gz_once.specs.Worlds.{Slot, Waits, Landed, Refused, Shared, World, lands, put, mark, moved, start}
use Rattle.gz_once.specs.Theorem.{emitted, emitted_before, parts_of}
use Rattle.gz_once.specs.Runs.{sums}

-- a bare run: a process takes an item, a draw or the log, an append lands, a source grows
data Move : Type 0 where
  Does : (p : ℕ) (i : Item) → Move
  Draws : (p : ℕ) → Move
  Plays : (p : ℕ) → Move
  Lands : (i : ℕ) → Move
  Grows : (m : Message) → Move

abbrev land_by : (Shared → Append → Bool) → Shared → ℕ → Slot → Shared
land_by f s i (Waits x) = if f s x then mark (put s x) i (Landed x) else mark s i (Refused x)
land_by f s i _ = s

abbrev moves : (Process → ℕ → Item → Outcome) → (Shared → Append → Bool) → List Move → World → World
moves st f [] w = w
moves st f (Does p i ∷ ms) w = moves st f ms (moved w p (st (w.procs p) w.shared.count i))
moves st f (Draws p ∷ ms) w = let v = record w { shared = record w.shared { drawn = w.shared.drawn + 1; own = updated w.shared.own (w.shared.drawn + 1) true } } in
    moves st f ms (moved v p (st (w.procs p) w.shared.count (Drew (w.shared.drawn + 1))))
moves st f (Plays p ∷ ms) w = moves st f ms (moved w p (st (w.procs p) w.shared.count (Fed w.shared.log)))
moves st f (Lands i ∷ ms) w = moves st f ms (record w { shared = land_by f w.shared i (w.shared.slots i) })
moves st f (Grows m ∷ ms) w = moves st f ms (record w { shared = record w.shared { sources = updated w.shared.sources 0 (m ∷ w.shared.sources 0) } })

abbrev client : ℕ → Message
client v = record { producer = 0; clock = v; kind = Outside; value = v }

-- messages are consumed, up to an offset
abbrev takes : ℕ → ℕ → List Message → Move
takes p to ms = Does p (Consumed (record { raise = 1; width = 3; size = 100 }) (λ k. to) ms)

-- what a reader accepts; what the commits emit, and all but the last one
abbrev out : World → List ℕ
out w = values_of w.shared.own (committed (w.shared.outs 0))

abbrev wanted : World → List ℕ
wanted w = emitted sums w.shared.sources 0 w.shared.log

abbrev wanted_before : World → List ℕ
wanted_before w = emitted_before sums w.shared.sources 0 w.shared.log

-- process 0 hands off and is ready to read
abbrev begun : List Move
begun = Draws 0 ∷ Does 0 Ask ∷ Lands 0 ∷ Does 0 Good ∷ Does 0 Go ∷ []

-- append n, of lines or an acknowledgement, lands and is answered
abbrev answered : ℕ → ℕ → List Move
answered p n = Does p (Ask_at 0) ∷ Lands n ∷ Does p (Good_at 0) ∷ Does p Go ∷ []

abbrev commits : ℕ → ℕ → List Move
commits p n = Does p Ask ∷ Lands n ∷ Does p Good ∷ []

-- a process consumes 5 as the first message
abbrev five : List Move
five = Grows (client 5) ∷ takes 0 1 (client 5 ∷ []) ∷ []

-- ---- keeps_its_producer_in_doubt: a second copy of an acknowledgement discards lines that are going to be committed

abbrev keeps_go : Process → ℕ → Phase → Outcome
keeps_go q n Acking = still (record q { phase = Reading })
keeps_go q n f = step sums q n Go

abbrev keeps : Process → ℕ → Item → Outcome
keeps q n Go = keeps_go q n q.phase
keeps q n i = step sums q n i

abbrev doubtful : World
doubtful = moves keeps lands (begun ++ (five ++ (answered 0 1 ++ (commits 0 2 ++ ((Does 0 (Ask_at 0) ∷ Does 0 (Lost_at 0) ∷ []) ++ (answered 0 4 ++
    ((Grows (client 7) ∷ takes 0 2 (client 7 ∷ []) ∷ Does 0 (Ask_at 0) ∷ Lands 5 ∷ Lands 3 ∷ Does 0 (Good_at 0) ∷ Does 0 Go ∷ []) ++ (commits 0 6 ++ (answered 0 7 ++
    ((Grows (client 8) ∷ takes 0 3 (client 8 ∷ []) ∷ []) ++ (answered 0 8 ++ commits 0 9))))))))))) start

doubtful_out : out doubtful ≡ 5 ∷ []
doubtful_out = refl

doubtful_before : wanted_before doubtful ≡ 5 ∷ 12 ∷ []
doubtful_before = refl

-- ---- acknowledges_before_the_commit: the process ends, and what was acknowledged was never committed

abbrev early_go : Process → ℕ → Phase → Outcome
early_go q n (Publishing x) = still (record q { text = Committed x ∷ q.text; phase = Acking; outs = λ j. Todo })
early_go q n f = step sums q n Go

abbrev early : Process → ℕ → Item → Outcome
early q n Go = early_go q n q.phase
early q n i = step sums q n i

abbrev hasty : World
hasty = moves early lands (begun ++ (five ++ (answered 0 1 ++ (Does 0 (Ask_at 0) ∷ Lands 2 ∷ [])))) start

hasty_out : out hasty ≡ 5 ∷ []
hasty_out = refl

hasty_wanted : wanted hasty ≡ []
hasty_wanted = refl

-- ---- unfenced_handoff: a handoff lands that isn't accepted, and the register names another author than the log

abbrev loose : Shared → Append → Bool
loose s (Handoff a o k) = true
loose s x = lands s x

abbrev unfenced : World
unfenced = moves (step sums) loose (begun ++ (Draws 1 ∷ Does 1 Ask ∷ Lands 1 ∷ [])) start

unfenced_log : length unfenced.shared.log ≡ 2
unfenced_log = refl

unfenced_accepted : length (accepted unfenced.shared.log) ≡ 1
unfenced_accepted = refl

-- ---- a_commit_without_its_author: the commit of a process that was fenced lands, and isn't accepted

abbrev anybody : Shared → Append → Bool
anybody s (Commit x) = true
anybody s x = lands s x

abbrev fenced : World
fenced = moves (step sums) anybody (begun ++ (five ++ (answered 0 1 ++ (Does 0 Ask ∷ Plays 1 ∷ Draws 1 ∷ Does 1 Ask ∷ Lands 3 ∷ Lands 2 ∷ [])))) start

fenced_log : length fenced.shared.log ≡ 3
fenced_log = refl

fenced_accepted : length (accepted fenced.shared.log) ≡ 2
fenced_accepted = refl

-- ---- keeps_its_author_in_doubt: a commit whose answer was given up is sent again with the same author, and lands twice

abbrev keeps_author : Process → ℕ → Phase → Outcome
keeps_author q n (Sending x m) = still (record q { phase = Committing x })
keeps_author q n f = step sums q n Lost

abbrev stubborn : Process → ℕ → Item → Outcome
stubborn q n Lost = keeps_author q n q.phase
stubborn q n i = step sums q n i

abbrev twice : World
twice = moves stubborn lands (begun ++ (five ++ (answered 0 1 ++ (Does 0 Ask ∷ Does 0 Lost ∷ Does 0 Ask ∷ Lands 2 ∷ Lands 3 ∷ [])))) start

twice_log : length twice.shared.log ≡ 3
twice_log = refl

twice_accepted : length (accepted twice.shared.log) ≡ 2
twice_accepted = refl

-- ---- an_intent_is_not_written_again: process 1 hands off behind a commit, and its own commit lands while that one's
-- acknowledgement is in no output

abbrev forgets_good : Process → ℕ → Phase → Outcome
forgets_good q n (Handing m) = still (record q { text = Handed q.author (count q.text + 1) ∷ q.text; phase = Reading; outs = λ j. Todo })
forgets_good q n f = step sums q n Good

abbrev forgets : Process → ℕ → Item → Outcome
forgets q n Good = forgets_good q n q.phase
forgets q n i = step sums q n i

abbrev forgotten : World
forgotten = moves forgets lands (begun ++ (five ++ (answered 0 1 ++ (commits 0 2 ++ ((Plays 1 ∷ Draws 1 ∷ Does 1 Ask ∷ Lands 3 ∷ Does 1 Good ∷ Grows (client 7) ∷ takes 1 2 (client 7 ∷ []) ∷ []) ++
    (answered 1 4 ++ (commits 1 5 ++ answered 1 6))))))) start

forgotten_out : out forgotten ≡ 12 ∷ []
forgotten_out = refl

forgotten_before : wanted_before forgotten ≡ 5 ∷ []
forgotten_before = refl

-- ---- what is consumed isn't what the offsets say; each of these steps could only come from another machine

-- offsets_ahead_of_the_state: the second message is never read
abbrev ahead : World
ahead = moves (step sums) lands (begun ++ ((Grows (client 5) ∷ Grows (client 7) ∷ takes 0 2 (client 5 ∷ []) ∷ []) ++ (answered 0 1 ++ commits 0 2))) start

ahead_store : store_of ahead.shared.log ≡ 5
ahead_store = refl

ahead_order : parts_of sums ahead.shared.sources 0 ahead.shared.log ≡ client 5 ∷ client 7 ∷ []
ahead_order = refl

-- resumes_at_the_last_but_one_commit: the first message is read again
abbrev again : World
again = moves (step sums) lands (begun ++ (five ++ (answered 0 1 ++ (commits 0 2 ++ (answered 0 3 ++ ((Grows (client 7) ∷ takes 0 2 (client 5 ∷ client 7 ∷ []) ∷ []) ++ (answered 0 4 ++ commits 0 5))))))) start

again_store : store_of again.shared.log ≡ 17
again_store = refl

again_order : parts_of sums again.shared.sources 0 again.shared.log ≡ client 5 ∷ client 7 ∷ []
again_order = refl

-- checkpoint_without_pending: the line of a transaction that was open at the first commit isn't released
abbrev writer : Message
writer = record { producer = 9; clock = 1; kind = Continue; value = 3 }

abbrev writer_ack : Message
writer_ack = record { producer = 9; clock = 2; kind = Acknowledge; value = 0 }

abbrev unpended : World
unpended = moves (step sums) lands (begun ++ ((Grows writer ∷ Grows (client 5) ∷ takes 0 2 (client 5 ∷ []) ∷ []) ++ (answered 0 1 ++ (commits 0 2 ++ (answered 0 3 ++
    ((Grows writer_ack ∷ Grows (client 7) ∷ takes 0 4 (client 7 ∷ []) ∷ []) ++ (answered 0 4 ++ commits 0 5))))))) start

unpended_store : store_of unpended.shared.log ≡ 12
unpended_store = refl

unpended_order : parts_of sums unpended.shared.sources 0 unpended.shared.log ≡ client 5 ∷ writer ∷ client 7 ∷ []
unpended_order = refl

-- ---- one_clock_for_two_lines: a reader takes the second one for the first one again

one_clock : values_of (λ p. true) (committed (acknowledgement 1 6 ∷ pour 1 (record { clock = 5; value = 3 } ∷ record { clock = 5; value = 4 } ∷ []) [])) ≡ 3 ∷ []
one_clock = refl
