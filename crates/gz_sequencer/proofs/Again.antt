-- A producer's messages that are read again from its mark lead to what was kept of it.
use Rattle.std.proofs.Common.{◌≡◌, ℕ, ◌+◌, ◌<◌, ◌≤◌, List, [], ◌∷◌, ◌++◌, refl, ap, sym, ◌∙◌, subst, Bool, true, false, cond, not, ◌&&◌, Option, Some, None, unwrap_or, arith, append_assoc, nat_lt, nat_le}
use Rattle.std.specs.Prelude.{⊤}
use Rattle.std.proofs.lemmas.List.{append-nil}
use Rattle.std.proofs.lemmas.Grind.{common_steps}
use Rattle.gz_frame.specs.Messages.{Message, is_end}
use Rattle.gz_frame.specs.Release.{is_above}
use Rattle.gz_frame.specs.Text.{Placed}
use Rattle.gz_sequencer.specs.Parts.{Part, nothing, does_wait, with_waiting, ended, continued, part_after, is_from, part_again}
use Rattle.gz_sequencer.specs.Machine.{mark_of, part_at}
use Rattle.gz_sequencer.proofs.PartLookups.{part_step, part_after_all}
use Rattle.gz_sequencer.proofs.PartHistories.{AllFrom}
use Rattle.gz_sequencer.proofs.Placement.{AllBelow, Ascending}

pub is_below : (m n : ℕ) → m < n → nat_lt m n ≡ true
is_below m n h = grind (arith, common_steps)

pub not_below : (m n : ℕ) → n ≤ m → nat_lt m n ≡ false
not_below m n h = grind (arith, common_steps)

is_before : (m n : ℕ) → m < n → nat_le n m ≡ false
is_before m n h = grind (arith, common_steps)

not_before : (m n : ℕ) → n ≤ m → nat_le n m ≡ true
not_before m n h = grind (arith, common_steps)

-- none of the messages is from the first one on
abbrev pub Idle : Option ℕ → List Placed → Type 0
Idle first [] = ⊤
Idle first (p ∷ ps) = (is_from first p.begin ≡ false) × Idle first ps

pub idle_none : (ps : List Placed) → Idle None ps
idle_none [] = tt
idle_none (p ∷ ps) = (refl, idle_none ps)

pub idle_before : (ps : List Placed) (n f : ℕ) → n ≤ f → AllBelow n ps → Idle (Some f) ps
idle_before [] n f h all = tt
idle_before (p ∷ ps) n f h all = (is_before p.begin f (omega (arith, all.0)), idle_before ps n f h all.1)

-- such messages change nothing where they are read again
pub idle_run : (ps : List Placed) (until : ℕ) (part : Part) → Idle part.first ps → AllBelow until ps → part_after_all until part ps ≡ part
idle_run [] until part idle below = refl
idle_run (p ∷ ps) until part idle below =
    let same : part_step until part p ≡ part = rw (is_below p.begin until below.0, idle.0) refl in
    ap (λ (x : Part). part_after_all until x ps) same ∙ idle_run ps until part idle.1 below.1

abbrev FirstBelow : Option ℕ → ℕ → Type 0
FirstBelow None n = ⊤
FirstBelow (Some f) n = f < n

-- the first message that waits begins below an offset, and where there is none, nothing waits
record IsSound (part : Part) (n : ℕ) : Type 0 where
  before : FirstBelow part.first n
  last : part.first ≡ None → part.last ≡ None
  pending : part.first ≡ None → part.pending ≡ []

first_or : (o : Option ℕ) (b n : ℕ) → FirstBelow o n → b < n → unwrap_or o b < n
first_or None b n h l = l
first_or (Some f) b n h l = h

some_none : {A : Type 0} (x : ℕ) → Some x ≡ None → A
some_none x h = absurd (cc)

sound_wait : (b : Bool) (part : Part) (p : Placed) (n : ℕ) → IsSound part n → p.begin < n → IsSound (cond b (with_waiting part p) part) n
sound_wait true part p n s l = record { before = first_or part.first p.begin n s.before l; last = λ h. some_none (unwrap_or part.first p.begin) h; pending = λ h. some_none (unwrap_or part.first p.begin) h }
sound_wait false part p n s l = s

sound_after : (b : Bool) (part : Part) (p : Placed) (n : ℕ) → IsSound part n → p.begin < n → IsSound (cond b (ended part p.message.clock) (continued part p)) n
sound_after true part p n s l = record { before = tt; last = λ h. refl; pending = λ h. refl }
sound_after false part p n s l = sound_wait (does_wait part p.message) part p n s l

sound_run : (ps : List Placed) (until n : ℕ) (part : Part) → IsSound part n → AllFrom until ps → AllBelow n ps → IsSound (part_after_all until part ps) n
sound_run [] until n part s from below = s
sound_run (p ∷ ps) until n part s from below =
    let P : Part → Type 0 = λ x. IsSound x n in
    let same : part_after part p ≡ part_step until part p = rw (not_below p.begin until from.0) refl in
    sound_run ps until n (part_step until part p) (subst P same (sound_after (is_end p.message) part p n s below.0)) from.1 below.1

same_both : (b : Bool) (x : Part) → cond b x x ≡ x
same_both true x = refl
same_both false x = refl

-- a message that waits, read again
wait_again : (first ack last : Option ℕ) (pending : List Message) (p : Placed) (ps : List Placed) (until : ℕ)
    → IsSound (record { ack = ack; first = first; last = last; pending = pending }) p.begin → AllBelow p.begin ps → AllBelow until ps
    → is_end p.message ≡ false → (is_above ack p.message.clock && is_above last p.message.clock) ≡ true
    → part_after_all until (record { ack = ack; first = first; last = None; pending = [] }) ps ≡ record { ack = ack; first = first; last = last; pending = pending }
    → part_again (part_after_all until (record { ack = ack; first = Some (unwrap_or first p.begin); last = None; pending = [] }) ps) p
    ≡ record { ack = ack; first = Some (unwrap_or first p.begin); last = Some p.message.clock; pending = pending ++ p.message ∷ [] }
wait_again (Some f) ack last pending p ps until s before below none waits same =
    ap (λ (x : Part). part_again x p) same ∙ rw (not_before p.begin f (omega (arith, s.before)), none, waits) refl
wait_again None ack last pending p ps until s before below none waits same =
    let part : Part = record { ack = ack; first = Some p.begin; last = None; pending = [] } in
    let idle : part_after_all until part ps ≡ part = idle_run ps until part (idle_before ps p.begin p.begin (omega arith) before) below in
    let no_last : last ≡ None = s.last refl in
    let no_pending : pending ≡ [] = s.pending refl in
    let above : (is_above ack p.message.clock && true) ≡ true = ap (λ (l : Option ℕ). is_above ack p.message.clock && is_above l p.message.clock) (sym no_last) ∙ waits in
    ap (λ (x : Part). part_again x p) idle ∙ rw (not_before p.begin p.begin (omega arith), none, above, no_pending) refl

-- a message, read again
message_again : (e w : Bool) (part : Part) (p : Placed) (ps : List Placed) (until : ℕ) → IsSound part p.begin → AllBelow p.begin ps → AllBelow until ps
    → is_end p.message ≡ e → does_wait part p.message ≡ w
    → part_after_all until (part_at (mark_of part)) ps ≡ part
    → part_again (part_after_all until (part_at (mark_of (cond e (ended part p.message.clock) (cond w (with_waiting part p) part)))) ps) p
    ≡ cond e (ended part p.message.clock) (cond w (with_waiting part p) part)
message_again true w part p ps until s before below end waits same =
    ap (λ (x : Part). part_again x p) (idle_run ps until (ended part p.message.clock) (idle_none ps) below)
message_again false true part p ps until s before below end waits same =
    wait_again part.first part.ack part.last part.pending p ps until s before below end waits same
message_again false false part p ps until s before below end waits same =
    ap (λ (x : Part). part_again x p) same ∙ rw waits (same_both (is_from part.first p.begin && not (is_end p.message)) part)

-- ---- lists from their back
pub run_append : (xs ys : List Placed) (until : ℕ) (part : Part) → part_after_all until part (xs ++ ys) ≡ part_after_all until (part_after_all until part xs) ys
run_append [] ys until part = refl
run_append (x ∷ xs) ys until part = run_append xs ys until (part_step until part x)

from_prefix : (xs : List Placed) (p : Placed) (n : ℕ) → AllFrom n (xs ++ p ∷ []) → AllFrom n xs × (n ≤ p.begin)
from_prefix [] p n all = (tt, all.0)
from_prefix (x ∷ xs) p n all = ((all.0, (from_prefix xs p n all.1).0), (from_prefix xs p n all.1).1)

below_prefix : (xs : List Placed) (p : Placed) (n : ℕ) → AllBelow n (xs ++ p ∷ []) → AllBelow n xs × (p.begin < n)
below_prefix [] p n all = (tt, all.0)
below_prefix (x ∷ xs) p n all = ((all.0, (below_prefix xs p n all.1).0), (below_prefix xs p n all.1).1)

ascending_prefix : (xs : List Placed) (p : Placed) → Ascending (xs ++ p ∷ []) → Ascending xs × AllBelow p.begin xs
ascending_prefix [] p all = (tt, tt)
ascending_prefix (x ∷ xs) p all =
    let here : AllFrom (x.begin + 1) xs × (x.begin + 1 ≤ p.begin) = from_prefix xs p (x.begin + 1) all.0 in
    let more : Ascending xs × AllBelow p.begin xs = ascending_prefix xs p all.1 in
    ((here.0, more.0), (omega (arith, here.1), more.1))

-- what was kept of a producer comes back
abbrev ComesBack : ℕ → ℕ → List Placed → Type 0
ComesBack low until ps = Ascending ps → AllFrom low ps → AllBelow until ps → part_after_all until (part_at (mark_of (part_after_all low nothing ps))) ps ≡ part_after_all low nothing ps

back_more : (low until : ℕ) (ps : List Placed) (p : Placed) → ComesBack low until ps → ComesBack low until (ps ++ p ∷ [])
back_more low until ps p ih ascending from below =
    let part : Part = part_after_all low nothing ps in
    let r : Ascending ps × AllBelow p.begin ps = ascending_prefix ps p ascending in
    let f : AllFrom low ps × (low ≤ p.begin) = from_prefix ps p low from in
    let b : AllBelow until ps × (p.begin < until) = below_prefix ps p until below in
    let sound : IsSound part p.begin = sound_run ps low p.begin nothing (record { before = tt; last = λ h. refl; pending = λ h. refl }) f.0 r.1 in
    let after : part_after_all low nothing (ps ++ p ∷ []) ≡ part_after part p = run_append ps (p ∷ []) low nothing ∙ rw (not_below p.begin low f.1) refl in
    let again : part_again (part_after_all until (part_at (mark_of (part_after part p))) ps) p ≡ part_after part p =
    message_again (is_end p.message) (does_wait part p.message) part p ps until sound r.1 b.0 refl refl (ih r.0 f.0 b.0) in
    let read : part_after_all until (part_at (mark_of (part_after part p))) (ps ++ p ∷ []) ≡ part_again (part_after_all until (part_at (mark_of (part_after part p))) ps) p =
    run_append ps (p ∷ []) until (part_at (mark_of (part_after part p))) ∙ rw (is_below p.begin until b.1) refl in
    ap (λ (x : Part). part_after_all until (part_at (mark_of x)) (ps ++ p ∷ [])) after ∙ read ∙ again ∙ sym after

back_from : (low until : ℕ) (back prefix : List Placed) → ComesBack low until prefix → ComesBack low until (prefix ++ back)
back_from low until [] prefix h = let P : List Placed → Type 0 = λ ps. ComesBack low until ps in subst P (sym (append-nil prefix)) h
back_from low until (p ∷ back) prefix h =
    let P : List Placed → Type 0 = λ ps. ComesBack low until ps in
    subst P (append_assoc prefix (p ∷ []) back) (back_from low until back (prefix ++ p ∷ []) (back_more low until prefix p h))

pub comes_back : (low until : ℕ) (ps : List Placed) → ComesBack low until ps
comes_back low until ps = back_from low until ps [] (λ ascending from below. refl)
