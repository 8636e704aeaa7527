-- Runs, worked out by hand and computed. Brokers are 1 to 5. A first converge writes epoch 1, the next one epoch 2, and
-- so on; `drains n` takes the oldest letter in flight, n times.
use Rattle.std.specs.Prelude.{◌≡◌, ℕ, List, [], ◌∷◌, ◌++◌, true, zero, suc, codes, refl}
use Rattle.std.proofs.Common.{sym, ap, arith, inl, inr}
use Rattle.std.proofs.lemmas.Bool.{true≢false}
use Rattle.gz_label.specs.declared.entry.Attempt.{Attempt}
use Rattle.gz_label.specs.declared.entry.Entry.{Entry}
use Rattle.gz_journal.specs.declared.request.Request.{Request}
use Rattle.gz_journal.specs.JournalList.{plain}
use Rattle.gz_lineage.specs.Marks.{Mark, Reset, Added}
use Rattle.gz_lineage.specs.Nodes.{Message, Letter, Done, Shut}
use Rattle.gz_lineage.specs.World.{Event, World, Converge, Crash, Write, Deliver, Drop, Flush, Repeat, Renew, Give, happens, run, start, node_at}
use Rattle.gz_lineage.specs.Handover.{HandoverThroughout, CalmThroughout}
use Rattle.gz_lineage.specs.Attempts.{LandsEachOnce, PutsEachOnce, requests_put}
use Rattle.gz_lineage.proofs.Handover.{calm}
use Rattle.gz_lineage.proofs.Told.{OfSync, OfEnds, OfEach, throughout, told_throughout}

-- ---- how runs are written

abbrev pub drains : ℕ → List Event
drains zero = []
drains (suc n) = Deliver 0 ∷ drains n

-- the letter at this place, n times
abbrev pub takes : ℕ → ℕ → List Event
takes k zero = []
takes k (suc n) = Deliver k ∷ takes k n

-- a client's request, of three bytes
abbrev pub ask : ℕ → Request
ask n = plain (record { node = codes "k"; req = n }) (n ∷ n ∷ n ∷ [])

-- its entry, where there are no registers
abbrev pub added : ℕ → Entry
added n = record { attempt = record { node = codes "k"; req = n }; bytes = n ∷ n ∷ n ∷ []; registers = [] }

abbrev pub entry : ℕ → Mark
entry n = Added (added n)

-- what clients are told
abbrev pub with_told : Message → List Message → List Message
with_told (Done e reach) ms = Done e reach ∷ ms
with_told (Shut e) ms = Shut e ∷ ms
with_told _ ms = ms

abbrev pub told_to_clients : List Letter → List Message
told_to_clients [] = []
told_to_clients (l ∷ ls) = with_told l.body (told_to_clients ls)

abbrev pub after : List Event → World
after es = run es (start 6)

-- a broker's spool and head
abbrev pub spool_of : List Event → ℕ → List Mark × ℕ
spool_of es n = let s = node_at (after es).state.nodes n in (s.spool, s.head)

-- ---- an append through three members

-- Promise, choice, adopt, sync, open: the route's three letters, the question to the store and two to promise, their
-- three answers, two to adopt and two that did, the transaction and its answer, two heads.
abbrev pub opens_three : List Event
opens_three = Converge 0 1 (2 ∷ 3 ∷ []) ∷ drains 17

-- It is put, sent to two members, held by both, answered, and the head told to both.
abbrev pub appends_three : List Event
appends_three = opens_three ++ Write 1 (ask 7) ∷ drains 8

pub three_say : told_to_clients (after appends_three).said ≡ Done 1 1 ∷ []
three_say = refl

pub three_keep : (after appends_three).journal ≡ entry 7 ∷ []
three_keep = refl

pub three_hold : spool_of appends_three 1 ∷ spool_of appends_three 2 ∷ spool_of appends_three 3 ∷ [] ≡ (entry 7 ∷ [], 1) ∷ (entry 7 ∷ [], 1) ∷ (entry 7 ∷ [], 1) ∷ []
three_hold = refl

-- it isn't acknowledged before the second member holds it
pub three_wait : told_to_clients (after (opens_three ++ Write 1 (ask 7) ∷ drains 4)).said ≡ []
three_wait = refl

pub three_handed_over : throughout OfEach appends_three (start 6) ≡ true
three_handed_over = refl

-- ---- an opening after a crash

-- The primary stops when a member holds the entry and before it is acknowledged. The next route is led by the member
-- that doesn't hold it. The other's image is chosen, as the longer one, and so the entry is kept.
abbrev pub opens_after_crash : List Event
opens_after_crash = opens_three ++ Write 1 (ask 7) ∷ Deliver 0 ∷ Deliver 0 ∷ Drop 0 ∷ Crash 1 ∷ Converge 0 3 (2 ∷ []) ∷ drains 12

pub crash_keeps : (after opens_after_crash).journal ≡ entry 7 ∷ []
crash_keeps = refl

pub crash_opens : spool_of opens_after_crash 3 ∷ spool_of opens_after_crash 2 ∷ [] ≡ (entry 7 ∷ [], 1) ∷ (entry 7 ∷ [], 1) ∷ []
crash_opens = refl

-- nobody was told
pub crash_says : told_to_clients (after opens_after_crash).said ≡ []
crash_says = refl

pub crash_handed_over : throughout OfEach opens_after_crash (start 6) ≡ true
crash_handed_over = refl

-- ---- a new beginning from the store

-- The whole route stops after a flush. The next one begins with what the store has, and a reset, behind which the
-- registers are empty.
abbrev pub begins_from_store : List Event
begins_from_store = appends_three ++ Flush 1 ∷ Deliver 0 ∷ Crash 1 ∷ Crash 2 ∷ Crash 3 ∷ Converge 0 4 [] ∷ drains 5 ++ Write 4 (ask 8) ∷ drains 2

pub store_keeps : (after begins_from_store).journal ≡ entry 7 ∷ Reset ∷ entry 8 ∷ []
store_keeps = refl

pub store_handed_over : throughout OfEach begins_from_store (start 6) ≡ true
store_handed_over = refl

-- ---- the run that breaks handover as it was first worded

-- Broker 1 leads epoch 1 and puts an entry, which broker 2 holds; what 2 says of it stays in flight. Epoch 2 is that of
-- 2 and 3. It is written to the sync key, and its primary never becomes open. 2 and 3 stop. As first worded the third
-- case looks at the route of the sync key alone: it has stopped, and the journal is empty, so all of it is in the store.
-- Broker 4 begins with nothing and acknowledges its entry. Then 1 takes what 2 said, and acknowledges the other one.
abbrev pub forgets : List Event
forgets = Converge 0 1 (2 ∷ []) ∷ drains 11 ++ Write 1 (ask 7) ∷ Deliver 0 ∷ Deliver 0 ∷ Converge 0 2 (3 ∷ []) ∷ Deliver 1 ∷ takes 2 7
    ++ Crash 2 ∷ Crash 3 ∷ Converge 0 4 [] ∷ takes 3 5 ++ Write 4 (ask 8) ∷ takes 1 4 ++ Deliver 0 ∷ []

-- two appends are acknowledged, each in its primary's first place but for a reset
pub forgets_says : told_to_clients (after forgets).said ≡ Done 3 2 ∷ Done 1 1 ∷ []
forgets_says = refl

pub forgets_spools : spool_of forgets 4 ∷ spool_of forgets 1 ∷ [] ≡ (Reset ∷ entry 8 ∷ [], 2) ∷ (entry 7 ∷ [], 1) ∷ []
forgets_spools = refl

-- one of them isn't in the journal
pub forgets_one : (after forgets).journal ≡ Reset ∷ entry 8 ∷ []
forgets_one = refl

-- as first worded handover held after each event
pub forgets_unseen : throughout OfSync forgets (start 6) ≡ true
forgets_unseen = refl

-- now the run is told as lost, for broker 1, which may still open or acknowledge, is of the route of a synced epoch from
-- the greatest open one on
pub forgets_told : HandoverThroughout forgets (start 6) → ⊥
forgets_told h = true≢false (sym (told_throughout forgets (start 6) h))

-- ---- why it has to be each of those routes

-- Epoch 1 is that of 1 and 3 and opens; epoch 2 is that of 2 and 3 and is synced; epoch 3 is that of 3 alone and is
-- synced. 1 and 3 stop, all members of the first and the last of these routes. Broker 4 begins with nothing, and then 2
-- opens late, with an entry that the journal doesn't have.
abbrev pub opens_late : List Event
opens_late = Converge 0 1 (3 ∷ []) ∷ drains 11 ++ Write 1 (ask 7) ∷ Deliver 0 ∷ Deliver 0 ∷ Converge 0 2 (3 ∷ []) ∷ Deliver 1 ∷ takes 2 7
    ++ Converge 0 3 [] ∷ takes 3 4 ++ Crash 1 ∷ Crash 3 ∷ Converge 0 4 [] ∷ takes 4 5 ++ Write 4 (ask 8) ∷ Deliver 4 ∷ Deliver 4 ∷ Deliver 2 ∷ []

pub late_spools : spool_of opens_late 4 ∷ spool_of opens_late 2 ∷ [] ≡ (Reset ∷ entry 8 ∷ [], 2) ∷ (entry 7 ∷ [], 1) ∷ []
late_spools = refl

pub late_journal : (after opens_late).journal ≡ Reset ∷ entry 8 ∷ []
late_journal = refl

-- by the first and the last of those routes alone it isn't seen
pub late_unseen : throughout OfEnds opens_late (start 6) ≡ true
late_unseen = refl

pub late_told : HandoverThroughout opens_late (start 6) → ⊥
late_told h = true≢false (sym (told_throughout opens_late (start 6) h))

-- ---- attempts

-- two requests have two attempts
differ : (m n : ℕ) → (m ≡ n → ⊥) → (ask m).attempt ≡ (ask n).attempt → ⊥
differ m n d e = d (ap (λ (a : Attempt). a.req) e)

-- Two appends, one after the other.
abbrev pub appends_two : List Event
appends_two = appends_three ++ Write 1 (ask 8) ∷ drains 8

pub two_keep : (after appends_two).journal ≡ entry 7 ∷ entry 8 ∷ []
two_keep = refl

pub two_put : requests_put appends_two (start 6) ≡ ask 7 ∷ ask 8 ∷ []
two_put = refl

pub two_once : PutsEachOnce appends_two (start 6)
two_once = ((λ i. elim i [ inl e ↦ differ 7 8 (λ z. omega arith) e | inr j ↦ j ]), ((λ i. i), tt))

-- Broker 1 puts an entry and sends it twice. Before 2 has it, 2 leads the next epoch and opens; so both are open, and each
-- puts an entry more. The letter to 1 is lost and goes out again. All letters of the first epoch come late. No attempt is
-- put twice: what is sent again is no entry that a primary adds again, and a request that was lost was not put.
abbrev pub leads_on : List Event
leads_on = Converge 0 1 (2 ∷ []) ∷ drains 11 ++ Write 1 (ask 7) ∷ Deliver 0 ∷ Give 1 0 ∷ Converge 0 2 (3 ∷ []) ∷ Deliver 2 ∷ takes 2 10
    ++ Write 2 (ask 8) ∷ takes 2 5 ++ Write 1 (ask 9) ∷ Drop 2 ∷ Repeat 30 ∷ Deliver 2 ∷ Renew 12 24 ∷ drains 8

pub on_keeps : (after leads_on).journal ≡ entry 8 ∷ []
on_keeps = refl

pub on_spools : spool_of leads_on 1 ∷ spool_of leads_on 2 ∷ [] ≡ (entry 7 ∷ entry 9 ∷ [], 0) ∷ (entry 8 ∷ [], 1) ∷ []
on_spools = refl

pub on_put : requests_put leads_on (start 6) ≡ ask 7 ∷ ask 8 ∷ ask 9 ∷ []
on_put = refl

pub on_once : PutsEachOnce leads_on (start 6)
on_once = (
  (λ i. elim i [ inl e ↦ differ 7 8 (λ z. omega arith) e | inr j ↦ elim j [ inl e ↦ differ 7 9 (λ z. omega arith) e | inr k ↦ k ] ]),
  ((λ i. elim i [ inl e ↦ differ 8 9 (λ z. omega arith) e | inr j ↦ j ]), ((λ i. i), tt)),
)

pub on_handed_over : throughout OfEach leads_on (start 6) ≡ true
on_handed_over = refl

-- An append's letter comes again after it was answered, and the request lands again.
abbrev pub appends_twice : List Event
appends_twice = appends_three ++ Repeat 17 ∷ drains 8

pub twice_keep : (after appends_twice).journal ≡ entry 7 ∷ entry 7 ∷ []
twice_keep = refl

pub twice_put : requests_put appends_twice (start 6) ≡ ask 7 ∷ ask 7 ∷ []
twice_put = refl

-- taking letters doesn't end handover
calm_drains : (n : ℕ) (es : List Event) → ((w : World) → CalmThroughout es w) → (w : World) → CalmThroughout (drains n ++ es) w
calm_drains zero es f w = f w
calm_drains (suc n) es f w = (tt, calm_drains n es f (happens w (Deliver 0)))

twice_calm : CalmThroughout appends_twice (start 6)
twice_calm = (
  tt,
  calm_drains 17 (Write 1 (ask 7) ∷ drains 8 ++ Repeat 17 ∷ drains 8)
      (λ v. (tt, calm_drains 8 (Repeat 17 ∷ drains 8) (λ u. (tt, calm_drains 8 [] (λ t. tt) (happens u (Repeat 17)))) (happens v (Write 1 (ask 7)))))
      (happens (start 6) (Converge 0 1 (2 ∷ 3 ∷ []))),
)

-- the first place isn't the next one
apart : (j k : ℕ) → k ≡ suc j → j ≡ k → ⊥
apart j k n e = absurd (omega (arith, n, e))

-- So of runs in which an attempt is put twice it isn't true that it lands at most once, though handover holds.
pub twice_lands : ((nodes : ℕ) (events : List Event) → HandoverThroughout events (start nodes) → LandsEachOnce (run events (start nodes))) → ⊥
twice_lands f = apart 0 1 refl (f 6 appends_twice (calm 6 appends_twice twice_calm) 0 1 (added 7) (added 7) refl refl refl)
