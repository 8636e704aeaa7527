-- The transactions of one producer are released once and in order, whatever lines stand again.
use Rattle.std.proofs.Common.{◌≡◌, ℕ, ◌≤◌, List, [], ◌∷◌, ◌++◌, filter, refl, ap, sym, ◌∙◌, subst, append_assoc, Bool, true, false, cond, Option, Some, None, arith, ◌&&◌, nat_lt, nat_le}
use Rattle.std.proofs.lemmas.Grind.{common_steps}
use Rattle.std.proofs.lemmas.List.{append-nil}
use Rattle.std.proofs.lemmas.List.Elements.{filter-append}
use Rattle.std.proofs.lemmas.Slice.Eq.{bytes_eq-Decides}
use Rattle.std.specs.Str.{bytes_eq}
use Rattle.gz_frame.specs.Messages.{Message, continue_txn, ack_txn, is_ack, is_outside, is_end}
use Rattle.gz_frame.specs.Release.{is_above, greater_of, released, of_producer}
use Rattle.gz_frame.specs.Text.{Placed, messages_of}
use Rattle.gz_sequencer.specs.Committed.{messages_alone, released_in, committed}
use Rattle.gz_sequencer.specs.Parts.{Part, nothing, does_wait, with_waiting, ended, continued, part_after, part_releases}
use Rattle.gz_sequencer.specs.Transactions.{Line, Transaction, text_of_lines, text_of, messages_in_lines, lines_in, NoneNewer, AllContinue, Rise, last_clock, UpTo, IsTransaction, AreTransactions}
use Rattle.gz_sequencer.proofs.PartHistories.{Keeps, keeps_nothing, keeps_after, keeps_releases}
use Rattle.gz_sequencer.proofs.Produced.{released_behind, messages_behind, of_released, AllOf, all_of_producer, of_all, each_two}

-- ---- what is kept of the producer releases what its history says

abbrev placed : Message → Placed
placed m = record { begin = 0; end = 0; message = m }

abbrev then_releases : Part → List Message → List Message
then_releases part [] = []
then_releases part (m ∷ ms) = part_releases part m ++ then_releases (part_after part (placed m)) ms

same_of : (p q : List ℕ) (h : List Message) → bytes_eq q p ≡ true → AllOf p h → AllOf q h
same_of p q h same all = let P : List ℕ → Type 0 = λ r. AllOf r h in subst P (sym ((bytes_eq-Decides q p).0 same)) all

kept_releases : (p : List ℕ) (ms h : List Message) (part : Part) → AllOf p ms → AllOf p h → Keeps h part → released_behind h ms ≡ then_releases part ms
kept_releases p [] h part all before k = refl
kept_releases p (m ∷ ms) h part all before k =
    let own : of_producer m.producer h ≡ h = of_all m.producer h (same_of p m.producer h all.0 before) in
    let first : released (of_producer m.producer h) m ≡ part_releases part m = ap (λ (g : List Message). released g m) own ∙ sym (keeps_releases h m part k) in
    let rest : released_behind (h ++ m ∷ []) ms ≡ then_releases (part_after part (placed m)) ms =
    kept_releases p ms (h ++ m ∷ []) (part_after part (placed m)) all.1 (each_two (λ o. bytes_eq o.producer p ≡ true) h (m ∷ []) before (all.0, tt)) (keeps_after h (placed m) part k) in
    rw (first, rest) refl

-- ---- tests of clocks

not_above : (c k : ℕ) → k ≤ c → nat_lt c k ≡ false
not_above c k h = grind (arith, common_steps)

at_most : (m n : ℕ) → m ≤ n → nat_le m n ≡ true
at_most m n h = grind (arith, common_steps)

above_two : (g c k : ℕ) → nat_lt g c ≡ true → nat_lt c k ≡ true → nat_lt g k ≡ true
above_two g c k a b = grind (arith, common_steps)

above_both : (top : Option ℕ) (c k : ℕ) → is_above top c ≡ true → nat_lt c k ≡ true → is_above top k ≡ true
above_both None c k a b = refl
above_both (Some g) c k a b = above_two g c k a b

below_clock : (g c k : ℕ) → nat_lt g c ≡ true → c ≤ k → g ≤ k
below_clock g c k a b = grind (arith, common_steps)

upto_above : (top : Option ℕ) (c k : ℕ) → is_above top c ≡ true → c ≤ k → UpTo top k
upto_above None c k a b = tt
upto_above (Some g) c k a b = below_clock g c k a b

greater_upto : (top : Option ℕ) (c : ℕ) → UpTo top c → greater_of top c ≡ Some c
greater_upto None c u = refl
greater_upto (Some g) c u = ap (λ (n : ℕ). Some n) (omega arith)

greater_same : (c k : ℕ) → k ≤ c → greater_of (Some c) k ≡ Some c
greater_same c k h = ap (λ (n : ℕ). Some n) (omega arith)

and_false : (b : Bool) → (b && false) ≡ false
and_false true = refl
and_false false = refl

-- ---- what is kept between the lines of a transaction

-- the greatest acknowledged clock, the last clock that waits, and what waits
record Has (top last : Option ℕ) (waits : List Message) (part : Part) : Type 0 where
  acked : part.ack ≡ top
  latest : part.last ≡ last
  waiting : part.pending ≡ waits

continue_after : (part : Part) (m : Message) → m.flags ≡ continue_txn → part_after part (placed m) ≡ continued part (placed m)
continue_after part m flags = rw flags refl

continue_releases : (part : Part) (m : Message) → m.flags ≡ continue_txn → part_releases part m ≡ []
continue_releases part m flags = rw flags refl

-- a line that stands again doesn't wait
old_waits_not : (part : Part) (c : ℕ) (m : Message) → part.last ≡ Some c → m.clock ≤ c → does_wait part m ≡ false
old_waits_not part c m latest old =
    ap (λ (t : Option ℕ). is_above part.ack m.clock && is_above t m.clock) latest
    ∙ ap (λ (b : Bool). is_above part.ack m.clock && b) (not_above c m.clock old)
    ∙ and_false (is_above part.ack m.clock)

again_nothing : (rs more : List Message) (part : Part) (c : ℕ) → part.last ≡ Some c → AllContinue rs → NoneNewer c rs → then_releases part (rs ++ more) ≡ then_releases part more
again_nothing [] more part c latest continues old = refl
again_nothing (r ∷ rs) more part c latest continues old =
    let same : part_after part (placed r) ≡ part =
    continue_after part r continues.0 ∙ ap (λ (b : Bool). cond b (with_waiting part (placed r)) part) (old_waits_not part c r latest old.0) in
    ap (λ (ms : List Message). ms ++ then_releases (part_after part (placed r)) (rs ++ more)) (continue_releases part r continues.0)
    ∙ ap (λ (q : Part). then_releases q (rs ++ more)) same
    ∙ again_nothing rs more part c latest continues.1 old.1

-- a new line waits
line_waits : (m : Message) (top last : Option ℕ) (waits : List Message) (part : Part) → Has top last waits part → m.flags ≡ continue_txn → is_above top m.clock ≡ true → is_above last m.clock ≡ true
    → Has top (Some m.clock) (waits ++ m ∷ []) (part_after part (placed m))
line_waits m top last waits part has flags above rises =
    let test : does_wait part m ≡ true =
    ap (λ (t : Option ℕ). is_above t m.clock && is_above part.last m.clock) has.acked
    ∙ ap (λ (t : Option ℕ). is_above top m.clock && is_above t m.clock) has.latest
    ∙ rw (above, rises) refl in
    let same : part_after part (placed m) ≡ with_waiting part (placed m) =
    continue_after part m flags ∙ ap (λ (b : Bool). cond b (with_waiting part (placed m)) part) test in
    let P : Part → Type 0 = λ q. Has top (Some m.clock) (waits ++ m ∷ []) q in
    subst P (sym same) (record { acked = has.acked; latest = refl; waiting = ap (λ (ws : List Message). ws ++ m ∷ []) has.waiting })

-- all that waits is acknowledged by a clock that isn't below `low`
abbrev AllUpTo : Option ℕ → List Message → Type 0
AllUpTo low waits = (k : ℕ) → UpTo low k → filter (λ w. nat_le w.clock k) waits ≡ waits

upto_more : (low : Option ℕ) (m : Message) (waits : List Message) → is_above low m.clock ≡ true → AllUpTo low waits → AllUpTo (Some m.clock) (waits ++ m ∷ [])
upto_more low m waits above all = λ k u.
    filter-append (λ w. nat_le w.clock k) waits (m ∷ [])
    ∙ ap (λ (ws : List Message). ws ++ filter (λ w. nat_le w.clock k) (m ∷ [])) (all k (upto_above low m.clock k above u))
    ∙ ap (λ (b : Bool). waits ++ cond b (m ∷ []) []) (at_most m.clock k u)

-- the lines of a transaction wait, and release nothing themselves
lines_release : (ls : List Line) (low top last : Option ℕ) (waits more out : List Message) (part : Part) → Rise low ls → Has top last waits part
    → ((k : ℕ) → is_above low k ≡ true → (is_above top k ≡ true) × (is_above last k ≡ true))
    → AllUpTo low waits
    → ((q : Part) (latest : Option ℕ) → Has top latest (waits ++ messages_in_lines ls) q → AllUpTo (last_clock low ls) (waits ++ messages_in_lines ls) → then_releases q more ≡ out)
    → then_releases part (text_of_lines ls ++ more) ≡ out
lines_release [] low top last waits more out part rise has up all rest =
    let P : List Message → Type 0 = λ ws. Has top last ws part in
    let Q : List Message → Type 0 = λ ws. AllUpTo low ws in
    rest part last (subst P (sym (append-nil waits)) has) (subst Q (sym (append-nil waits)) all)
lines_release (l ∷ ls) low top last waits more out part rise has up all rest =
    let m : Message = l.message in
    let after : Part = part_after part (placed m) in
    let T : List Message = text_of_lines ls in
    let M : List Message = messages_in_lines ls in
    let above : (is_above top m.clock ≡ true) × (is_above last m.clock ≡ true) = up m.clock rise.1 in
    let waits_too : Has top (Some m.clock) (waits ++ m ∷ []) after = line_waits m top last waits part has rise.0 above.0 above.1 in
    let joined : (waits ++ m ∷ []) ++ M ≡ waits ++ m ∷ M = append_assoc waits (m ∷ []) M in
    ap (λ (ms : List Message). ms ++ then_releases after ((l.again ++ T) ++ more)) (continue_releases part m rise.0)
    ∙ ap (λ (ms : List Message). then_releases after ms) (append_assoc l.again T more)
    ∙ again_nothing l.again (T ++ more) after m.clock waits_too.latest rise.2 rise.3
    ∙ lines_release ls (Some m.clock) top (Some m.clock) (waits ++ m ∷ []) more out after rise.4 waits_too
    (λ k a. (above_both top m.clock k above.0 a, a))
    (upto_more low m waits rise.1 all)
    (λ q latest h u. rest q latest (let P : List Message → Type 0 = λ ws. Has top latest ws q in subst P joined h)
    (let Q : List Message → Type 0 = λ ws. AllUpTo (last_clock (Some m.clock) ls) ws in subst Q joined u))

-- ---- the acknowledgement, and what stands again behind it

upto_last : (ls : List Line) (top : Option ℕ) (k : ℕ) → Rise top ls → UpTo (last_clock top ls) k → UpTo top k
upto_last [] top k rise u = u
upto_last (l ∷ ls) top k rise u = upto_above top l.message.clock k rise.1 (upto_last ls (Some l.message.clock) k rise.4 u)

ack_after : (part : Part) (m : Message) → m.flags ≡ ack_txn → part_after part (placed m) ≡ ended part m.clock
ack_after part m flags = rw flags refl

ack_releases : (part : Part) (m : Message) → m.flags ≡ ack_txn → part_releases part m ≡ filter (λ w. nat_le w.clock m.clock) part.pending
ack_releases part m flags = rw flags refl

ack_ends : (m : Message) (top last : Option ℕ) (waits : List Message) (part : Part) → Has top last waits part → m.flags ≡ ack_txn → UpTo top m.clock → Has (Some m.clock) None [] (part_after part (placed m))
ack_ends m top last waits part has flags upto =
    let P : Part → Type 0 = λ q. Has (Some m.clock) None [] q in
    subst P (sym (ack_after part m flags))
    (record { acked = ap (λ (t : Option ℕ). greater_of t m.clock) has.acked ∙ greater_upto top m.clock upto; latest = refl; waiting = refl })

nothing_case : (a b : Bool) → let none : List Message = [] in cond a none (cond b none none) ≡ none
nothing_case true b = refl
nothing_case false true = refl
nothing_case false false = refl

old_releases : (m : Message) (c : ℕ) (part : Part) → Has (Some c) None [] part → m.clock ≤ c → part_releases part m ≡ []
old_releases m c part has old =
    let none : List Message = [] in
    ap (λ (ws : List Message). cond (is_ack m) (filter (λ w. nat_le w.clock m.clock) ws) (cond (is_outside m) (cond (is_above part.ack m.clock) (m ∷ []) none) none)) has.waiting
    ∙ ap (λ (t : Option ℕ). cond (is_ack m) none (cond (is_outside m) (cond (is_above t m.clock) (m ∷ []) none) none)) has.acked
    ∙ ap (λ (b : Bool). cond (is_ack m) none (cond (is_outside m) (cond b (m ∷ []) none) none)) (not_above c m.clock old)
    ∙ nothing_case (is_ack m) (is_outside m)

old_case : (b : Bool) (m : Message) (c : ℕ) (part : Part) → Has (Some c) None [] part → m.clock ≤ c → Has (Some c) None [] (cond b (ended part m.clock) (continued part (placed m)))
old_case true m c part has old = record { acked = ap (λ (t : Option ℕ). greater_of t m.clock) has.acked ∙ greater_same c m.clock old; latest = refl; waiting = refl }
old_case false m c part has old =
    let test : does_wait part m ≡ false =
    ap (λ (t : Option ℕ). is_above t m.clock && is_above part.last m.clock) has.acked
    ∙ ap (λ (b : Bool). b && is_above part.last m.clock) (not_above c m.clock old) in
    let P : Part → Type 0 = λ q. Has (Some c) None [] q in
    subst P (sym (ap (λ (b : Bool). cond b (with_waiting part (placed m)) part) test)) has

-- behind an acknowledgement, what is no newer changes nothing
old_nothing : (rs more out : List Message) (c : ℕ) (part : Part) → Has (Some c) None [] part → NoneNewer c rs
    → ((q : Part) → Has (Some c) None [] q → then_releases q more ≡ out) → then_releases part (rs ++ more) ≡ out
old_nothing [] more out c part has old rest = rest part has
old_nothing (r ∷ rs) more out c part has old rest =
    ap (λ (ms : List Message). ms ++ then_releases (part_after part (placed r)) (rs ++ more)) (old_releases r c part has old.0)
    ∙ old_nothing rs more out c (part_after part (placed r)) (old_case (is_end r) r c part has old.0) old.1 rest

-- ---- transactions

acknowledged : (t : Transaction) (top latest : Option ℕ) (more out : List Message) (part : Part) → IsTransaction top t → Has top latest (messages_in_lines t.lines) part
    → AllUpTo (last_clock top t.lines) (messages_in_lines t.lines)
    → ((q : Part) → Has (Some t.ack.clock) None [] q → then_releases q more ≡ out)
    → then_releases part (t.ack ∷ t.again ++ more) ≡ messages_in_lines t.lines ++ out
acknowledged t top latest more out part is has all rest =
    let M : List Message = messages_in_lines t.lines in
    let after : Part = part_after part (placed t.ack) in
    let first : part_releases part t.ack ≡ M =
    ack_releases part t.ack is.flags ∙ ap (λ (ws : List Message). filter (λ w. nat_le w.clock t.ack.clock) ws) has.waiting ∙ all t.ack.clock is.upto in
    let ends : Has (Some t.ack.clock) None [] after = ack_ends t.ack top latest M part has is.flags (upto_last t.lines top t.ack.clock is.lines is.upto) in
    ap (λ (ms : List Message). ms ++ then_releases after (t.again ++ more)) first
    ∙ ap (λ (ms : List Message). M ++ ms) (old_nothing t.again more out t.ack.clock after ends is.again rest)

all_release : (ts : List Transaction) (waiting : List Line) (top : Option ℕ) (part : Part) → Has top None [] part → AreTransactions top ts waiting
    → then_releases part (text_of ts ++ text_of_lines waiting) ≡ lines_in ts
all_release [] waiting top part has are =
    ap (λ (ms : List Message). then_releases part ms) (sym (append-nil (text_of_lines waiting)))
    ∙ lines_release waiting top top None [] [] [] part are has (λ k a. (a, refl)) (λ k u. refl) (λ q latest h u. refl)
all_release (t ∷ ts) waiting top part has are =
    let T : List Message = text_of_lines t.lines in
    let more : List Message = text_of ts ++ text_of_lines waiting in
    ap (λ (ms : List Message). then_releases part ms) (append_assoc (T ++ t.ack ∷ t.again) (text_of ts) (text_of_lines waiting) ∙ append_assoc T (t.ack ∷ t.again) more)
    ∙ lines_release t.lines top top None [] (t.ack ∷ t.again ++ more) (lines_in (t ∷ ts)) part are.0.lines has (λ k a. (a, refl)) (λ k u. refl)
    (λ q latest h u. acknowledged t top latest more (lines_in ts) q are.0 h u
    (λ r still. all_release ts waiting (Some t.ack.clock) r still are.1))

-- messages of one producer that are transactions are released as their lines
pub written_released : (p : List ℕ) (ms : List Message) (ts : List Transaction) (waiting : List Line) → AreTransactions None ts waiting → AllOf p ms → ms ≡ text_of ts ++ text_of_lines waiting
    → released_behind [] ms ≡ lines_in ts
written_released p ms ts waiting are all is =
    kept_releases p ms [] nothing all tt keeps_nothing
    ∙ ap (λ (xs : List Message). then_releases nothing xs) is
    ∙ all_release ts waiting None nothing (record { acked = refl; latest = refl; waiting = refl }) are

pub transactions_released : (offset : ℕ) (text p : List ℕ) (ts : List Transaction) (waiting : List Line) → AreTransactions None ts waiting
    → of_producer p (messages_alone (messages_of offset text)) ≡ text_of ts ++ text_of_lines waiting
    → of_producer p (released_in (committed offset text)) ≡ lines_in ts
transactions_released offset text p ts waiting are is =
    let ms : List Message = messages_alone (messages_of offset text) in
    ap (λ (xs : List Message). of_producer p xs) (messages_behind [] (messages_of offset text))
    ∙ of_released p [] ms
    ∙ written_released p (of_producer p ms) ts waiting are (all_of_producer p ms) is
