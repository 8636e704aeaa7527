-- What a commit writes into the journals of its shard's outputs, and what readers accept of it.
use Rattle.std.proofs.Common.{◌≡◌, ℕ, suc, ◌+◌, ◌==◌, List, [], ◌∷◌, ◌++◌, length, refl, ap, sym, ◌∙◌, subst, append_assoc, Bool, true, false, cond, ◌||◌, arith}
use Rattle.std.specs.Prelude.{⊤}
use Rattle.std.proofs.lemmas.List.{append-nil, length-append, map-append}
use Rattle.std.proofs.lemmas.List.Elements.{filter-append}
use Rattle.std.proofs.lemmas.List.Concat.{flat_map-append}
use Rattle.std.proofs.lemmas.Slice.Eq.{bytes_eq-Decides}
use Rattle.std.specs.Str.{bytes_eq}
use Rattle.gz_label.specs.declared.entry.Attempt.{Attempt}
use Rattle.gz_frame.specs.Messages.{Message}
use Rattle.gz_frame.specs.Release.{of_producer}
use Rattle.gz_frame.specs.Text.{Placed, messages_of, is_whole}
use Rattle.gz_frame.proofs.Whole.{messages_joined}
use Rattle.gz_app.specs.Applications.{Output}
use Rattle.gz_plain.specs.Plain.{lines_from, ack_at}
use Rattle.gz_promise.specs.Outputs.{outputs_in}
use Rattle.gz_sequencer.specs.Committed.{messages_alone}
use Rattle.gz_promise.specs.Journals.{Journal, text_in, text_of, is_journal, with_bytes, appended, AreWhole}
use Rattle.gz_promise.proofs.Entries.{text_with_bytes}
use Rattle.gz_plain.specs.Shards.{lines_to, closed, text_of_lines, written_to}
use Rattle.gz_promise.specs.Outputs.{choice}
use Rattle.gz_promise.specs.Promise.{AcceptAll}
use Rattle.gz_sequencer.specs.Transactions as written
use Rattle.gz_plain.specs.Promise.{all_accepted}
use Rattle.gz_promise.specs.Names.{Apart}
use Rattle.gz_plain.specs.Runs.{ArePresent, IsLine}
use Rattle.gz_promise.specs.Names.{Distinct}
use Rattle.gz_sequencer.proofs.Produced.{Each, each_two, each_filter, AllOf, of_all, of_none}
use Rattle.gz_plain.proofs.Growth.{Gain, Grow, grow_none, grow_two, grow_whole, grow_appended, whole_two}
use Rattle.gz_plain.proofs.Transactions.{same_bytes, joined, as_transaction, transactions_to, transactions_more, text_one, text_two, clock_after, accepts_transactions}
use Rattle.gz_plain.proofs.Lines.{lines_whole, lines_read}

-- ---- an append to one journal

both_names : (a b c : List ℕ) → bytes_eq a b ≡ true → bytes_eq a c ≡ true → bytes_eq b c ≡ false → ⊥
both_names a b c ab ac apart =
    let same : a ≡ b = (bytes_eq-Decides a b).0 ab in
    let test : bytes_eq b c ≡ true = ap (λ (n : List ℕ). bytes_eq n c) (sym same) ∙ ac in
    cc

other_first : (attempt : Attempt) (name bytes other : List ℕ) (j : Journal) (js : List Journal) (here there : Bool) → bytes_eq j.name name ≡ here → bytes_eq j.name other ≡ there → bytes_eq name other ≡ false
    → text_of other (appended attempt name bytes js) ≡ text_of other js
    → text_of other (cond here (record j { entries = with_bytes attempt bytes j.entries }) j ∷ appended attempt name bytes js) ≡ cond there (text_in j) (text_of other js)
other_first attempt name bytes other j js true true h t apart rest = absurd (both_names j.name name other h t apart)
other_first attempt name bytes other j js true false h t apart rest = rw t rest
other_first attempt name bytes other j js false true h t apart rest = rw t refl
other_first attempt name bytes other j js false false h t apart rest = rw t rest

-- the other journals stay
pub other_stays : (attempt : Attempt) (name bytes other : List ℕ) (js : List Journal) → bytes_eq name other ≡ false → text_of other (appended attempt name bytes js) ≡ text_of other js
other_stays attempt name bytes other [] apart = refl
other_stays attempt name bytes other (j ∷ js) apart =
    other_first attempt name bytes other j js (bytes_eq j.name name) (bytes_eq j.name other) refl refl apart (other_stays attempt name bytes other js apart)

own_first : (attempt : Attempt) (name bytes : List ℕ) (j : Journal) (js : List Journal) (here : Bool) → bytes_eq j.name name ≡ here → (here || is_journal name js) ≡ true
    → (is_journal name js ≡ true → text_of name (appended attempt name bytes js) ≡ text_of name js ++ bytes)
    → text_of name (cond here (record j { entries = with_bytes attempt bytes j.entries }) j ∷ appended attempt name bytes js) ≡ cond here (text_in j) (text_of name js) ++ bytes
own_first attempt name bytes j js true h is rest = rw h (text_with_bytes attempt bytes j.entries)
own_first attempt name bytes j js false h is rest = rw h (rest is)

-- the journal of the name has the bytes behind its text
pub own_grows : (attempt : Attempt) (name bytes : List ℕ) (js : List Journal) → is_journal name js ≡ true → text_of name (appended attempt name bytes js) ≡ text_of name js ++ bytes
own_grows attempt name bytes [] is = cc
own_grows attempt name bytes (j ∷ js) is = own_first attempt name bytes j js (bytes_eq j.name name) refl is (own_grows attempt name bytes js)

stays_first : (attempt : Attempt) (name bytes other : List ℕ) (j : Journal) (here : Bool) → bytes_eq (cond here (record j { entries = with_bytes attempt bytes j.entries }) j).name other ≡ bytes_eq j.name other
stays_first attempt name bytes other j true = refl
stays_first attempt name bytes other j false = refl

-- a journal stays one
pub journal_stays : (attempt : Attempt) (name bytes other : List ℕ) (js : List Journal) → is_journal other (appended attempt name bytes js) ≡ is_journal other js
journal_stays attempt name bytes other [] = refl
journal_stays attempt name bytes other (j ∷ js) =
    rw (stays_first attempt name bytes other j (bytes_eq j.name name), journal_stays attempt name bytes other js) refl

-- ---- the outputs of a shard

-- of the producer, each output has the transactions of its commits
abbrev pub Holds : List Journal → List ℕ → ℕ → ℕ → List (List ℕ) → List (List Output) → Type 0
Holds js p count place [] oss = ⊤
Holds js p count place (name ∷ names) oss =
    (of_producer p (messages_alone (messages_of 0 (text_of name js))) ≡ written.text_of (transactions_to p count place 0 oss)) × Holds js p count (place + 1) names oss

-- the texts of these journals stay
abbrev pub Same : List Journal → List Journal → List (List ℕ) → Type 0
Same js new [] = ⊤
Same js new (n ∷ names) = (text_of n new ≡ text_of n js) × Same js new names

same_apart : (attempt : Attempt) (name bytes : List ℕ) (js : List Journal) (names : List (List ℕ)) → Apart name names → Same js (appended attempt name bytes js) names
same_apart attempt name bytes js [] a = tt
same_apart attempt name bytes js (n ∷ names) a = (other_stays attempt name bytes n js a.0, same_apart attempt name bytes js names a.2)

holds_same : (js new : List Journal) (p : List ℕ) (count place : ℕ) (names : List (List ℕ)) (oss : List (List Output)) → Same js new names → Holds js p count place names oss → Holds new p count place names oss
holds_same js new p count place [] oss s h = tt
holds_same js new p count place (n ∷ names) oss s h =
    (ap (λ (t : List ℕ). of_producer p (messages_alone (messages_of 0 t))) s.0 ∙ h.0, holds_same js new p count (place + 1) names oss s.1 h.1)

pub present_stays : (attempt : Attempt) (name bytes : List ℕ) (js : List Journal) (names : List (List ℕ)) → ArePresent names js → ArePresent names (appended attempt name bytes js)
present_stays attempt name bytes js [] a = tt
present_stays attempt name bytes js (n ∷ names) a = (journal_stays attempt name bytes n js ∙ a.0, present_stays attempt name bytes js names a.1)

-- ---- what a commit writes

closed_each : (P : Message → Type 0) (ack : Message) (ms : List Message) → P ack → Each P ms → Each P (closed ack ms)
closed_each P ack [] a e = tt
closed_each P ack (m ∷ ms) a e = (e.0, each_two P ms (ack ∷ []) e.1 (a, tt))

-- what each output gets is lines
bytes_whole : (count place : ℕ) (lines : List Message) (ack : Message) → IsLine ack → Each IsLine lines → is_whole (text_of_lines (closed ack (lines_to count place lines))) ≡ true
bytes_whole count place lines ack a e =
    lines_whole (closed ack (lines_to count place lines)) (closed_each IsLine ack (lines_to count place lines) a (each_filter (λ m. choice count m.key == place) IsLine lines e))

pub grow_written : (attempt : Attempt) (count place : ℕ) (lines : List Message) (ack : Message) (names : List (List ℕ)) (js : List Journal) → IsLine ack → Each IsLine lines
    → Grow js (written_to attempt count place lines ack names js)
grow_written attempt count place lines ack [] js a e = grow_none js
grow_written attempt count place lines ack (n ∷ names) js a e =
    let bytes : List ℕ = text_of_lines (closed ack (lines_to count place lines)) in
    grow_two js (appended attempt n bytes js) (written_to attempt count (place + 1) lines ack names (appended attempt n bytes js))
    (grow_appended attempt n bytes js (bytes_whole count place lines ack a e))
    (grow_written attempt count (place + 1) lines ack names (appended attempt n bytes js) a e)

-- journals that are none of the outputs stay
pub others_stay : (attempt : Attempt) (count place : ℕ) (lines : List Message) (ack : Message) (names : List (List ℕ)) (js : List Journal) (other : List ℕ) → Apart other names
    → text_of other (written_to attempt count place lines ack names js) ≡ text_of other js
others_stay attempt count place lines ack [] js other a = refl
others_stay attempt count place lines ack (n ∷ names) js other a =
    let bytes : List ℕ = text_of_lines (closed ack (lines_to count place lines)) in
    others_stay attempt count (place + 1) lines ack names (appended attempt n bytes js) other a.2 ∙ other_stays attempt n bytes other js a.1

pub present_written : (attempt : Attempt) (count place : ℕ) (lines : List Message) (ack : Message) (names : List (List ℕ)) (js : List Journal) (others : List (List ℕ)) → ArePresent others js
    → ArePresent others (written_to attempt count place lines ack names js)
present_written attempt count place lines ack [] js others a = a
present_written attempt count place lines ack (n ∷ names) js others a =
    let bytes : List ℕ = text_of_lines (closed ack (lines_to count place lines)) in
    present_written attempt count (place + 1) lines ack names (appended attempt n bytes js) others (present_stays attempt n bytes js others a)

-- the producer's messages in a text with these lines behind it
of_grown : (p : List ℕ) (text : List ℕ) (ms : List Message) → is_whole text ≡ true → Each IsLine ms → AllOf p ms
    → of_producer p (messages_alone (messages_of 0 (text ++ text_of_lines ms))) ≡ of_producer p (messages_alone (messages_of 0 text)) ++ ms
of_grown p text ms whole lines all =
    let prefix : List Message = messages_alone (messages_of 0 text) in
    ap (λ (ps : List Placed). of_producer p (messages_alone ps)) (messages_joined 0 text (text_of_lines ms) whole)
    ∙ ap (λ (xs : List Message). of_producer p xs) (map-append (λ q. q.message) (messages_of 0 text) (messages_of (0 + length text) (text_of_lines ms)))
    ∙ filter-append (λ m. bytes_eq m.producer p) prefix (messages_alone (messages_of (0 + length text) (text_of_lines ms)))
    ∙ ap (λ (xs : List Message). of_producer p prefix ++ of_producer p xs) (lines_read (0 + length text) ms lines)
    ∙ ap (λ (xs : List Message). of_producer p prefix ++ xs) (of_all p ms all)

lines_all_of : (p : List ℕ) (last : ℕ) (os : List Output) → AllOf p (lines_from p last os)
lines_all_of p last [] = tt
lines_all_of p last (o ∷ os) = (same_bytes p, lines_all_of p (last + 1) os)

-- after one more commit, each output has one more transaction
pub holds_written : (attempt : Attempt) (names : List (List ℕ)) (p : List ℕ) (count place last : ℕ) (oss : List (List Output)) (os : List Output) (js : List Journal)
    → last ≡ clock_after 0 oss → IsLine (ack_at p (last + length os + 1)) → Each IsLine (lines_from p last os)
    → AreWhole js → Distinct names → ArePresent names js → Holds js p count place names oss
    → Holds (written_to attempt count place (lines_from p last os) (ack_at p (last + length os + 1)) names js) p count place names (oss ++ os ∷ [])
holds_written attempt [] p count place last oss os js clock a e whole apart present h = tt
holds_written attempt (n ∷ names) p count place last oss os js clock a e whole apart present h =
    let lines : List Message = lines_from p last os in
    let ack : Message = ack_at p (last + length os + 1) in
    let mine : List Message = lines_to count place lines in
    let bytes : List ℕ = text_of_lines (closed ack mine) in
    let first : List Journal = appended attempt n bytes js in
    let new : List Journal = written_to attempt count (place + 1) lines ack names first in
    let text : text_of n new ≡ text_of n js ++ bytes =
    others_stay attempt count (place + 1) lines ack names first n apart.0 ∙ own_grows attempt n bytes js present.0 in
    let each : Each IsLine (closed ack mine) = closed_each IsLine ack mine a (each_filter (λ m. choice count m.key == place) IsLine lines e) in
    let all : AllOf p (closed ack mine) =
    closed_each (λ m. bytes_eq m.producer p ≡ true) ack mine (same_bytes p) (each_filter (λ m. choice count m.key == place) (λ m. bytes_eq m.producer p ≡ true) lines (lines_all_of p last os)) in
    let rest : Holds first p count (place + 1) names oss =
    holds_same js first p count (place + 1) names oss (same_apart attempt n bytes js names apart.0) h.1 in
    let one : List written.Transaction = as_transaction (lines_to count place (lines_from p (clock_after 0 oss) os)) (ack_at p (clock_after 0 oss + length os + 1)) in (
      ap (λ (t : List ℕ). of_producer p (messages_alone (messages_of 0 t))) text
          ∙ of_grown p (text_of n js) (closed ack mine) (whole n) each all
          ∙ ap (λ (ms : List Message). ms ++ closed ack mine) h.0
          ∙ ap (λ (c : ℕ). written.text_of (transactions_to p count place 0 oss) ++ closed (ack_at p (c + length os + 1)) (lines_to count place (lines_from p c os))) clock
          ∙ ap (λ (ms : List Message). written.text_of (transactions_to p count place 0 oss) ++ ms) (sym (text_one (lines_to count place (lines_from p (clock_after 0 oss) os)) (ack_at p (clock_after 0 oss + length os + 1))))
          ∙ sym (text_two (transactions_to p count place 0 oss) one)
          ∙ ap (λ (ts : List written.Transaction). written.text_of ts) (sym (transactions_more p count place 0 oss os)),
      holds_written attempt names p count (place + 1) last oss os first clock a e
          (grow_whole js first (grow_appended attempt n bytes js (bytes_whole count place lines ack a e)) whole) apart.1 (present_stays attempt n bytes js names present.1) rest,
    )

-- ---- what others write

-- what a journal gains has no message of the producer
pub record Foreign (p old new : List ℕ) : Type 0 where
  pub more : List ℕ
  pub joined : new ≡ old ++ more
  pub whole : is_whole more ≡ true
  pub none : of_producer p (messages_alone (messages_of (length old) more)) ≡ []

pub foreign_gain : (p old new : List ℕ) → Foreign p old new → Gain old new
foreign_gain p old new f = record { more = f.more; joined = f.joined; whole = f.whole }

no_text : (at : ℕ) → messages_of at [] ≡ []
unfolding messages_of
no_text at = refl

pub foreign_none : (p text : List ℕ) → Foreign p text text
foreign_none p text = record { more = []; joined = sym (append-nil text); whole = refl; none = rw (no_text (length text)) refl }

pub foreign_two : (p a b c : List ℕ) → Foreign p a b → Foreign p b c → Foreign p a c
foreign_two p a b c f g =
    let more : List ℕ = f.more ++ g.more in
    let at : ℕ = length a + length f.more in
    let middle : length b ≡ at = ap (λ (t : List ℕ). length t) f.joined ∙ length-append a f.more in
    record {
      more = more;
      joined = g.joined ∙ ap (λ (t : List ℕ). t ++ g.more) f.joined ∙ append_assoc a f.more g.more;
      whole = whole_two f.more g.more f.whole g.whole;
      none = ap (λ (ps : List Placed). of_producer p (messages_alone ps)) (messages_joined (length a) f.more g.more f.whole)
          ∙ ap (λ (xs : List Message). of_producer p xs) (map-append (λ q. q.message) (messages_of (length a) f.more) (messages_of at g.more))
          ∙ filter-append (λ m. bytes_eq m.producer p) (messages_alone (messages_of (length a) f.more)) (messages_alone (messages_of at g.more))
          ∙ ap (λ (xs : List Message). of_producer p (messages_alone (messages_of (length a) f.more)) ++ xs)
          (ap (λ (n : ℕ). of_producer p (messages_alone (messages_of n g.more))) (sym middle) ∙ g.none)
          ∙ append-nil (of_producer p (messages_alone (messages_of (length a) f.more)))
          ∙ f.none;
    }

pub of_foreign : (p old new : List ℕ) → is_whole old ≡ true → Foreign p old new → of_producer p (messages_alone (messages_of 0 new)) ≡ of_producer p (messages_alone (messages_of 0 old))
of_foreign p old new whole f =
    let prefix : List Message = messages_alone (messages_of 0 old) in
    ap (λ (t : List ℕ). of_producer p (messages_alone (messages_of 0 t))) f.joined
    ∙ ap (λ (ps : List Placed). of_producer p (messages_alone ps)) (messages_joined 0 old f.more whole)
    ∙ ap (λ (xs : List Message). of_producer p xs) (map-append (λ q. q.message) (messages_of 0 old) (messages_of (0 + length old) f.more))
    ∙ filter-append (λ m. bytes_eq m.producer p) prefix (messages_alone (messages_of (0 + length old) f.more))
    ∙ ap (λ (xs : List Message). of_producer p prefix ++ xs) (ap (λ (n : ℕ). of_producer p (messages_alone (messages_of n f.more))) (omega arith) ∙ f.none)
    ∙ append-nil (of_producer p prefix)

-- all journals gain only what others write
abbrev pub AllForeign : List ℕ → List Journal → List Journal → Type 0
AllForeign p js new = (name : List ℕ) → Foreign p (text_of name js) (text_of name new)

pub foreign_grow : (p : List ℕ) (js new : List Journal) → AllForeign p js new → Grow js new
foreign_grow p js new f name = foreign_gain p (text_of name js) (text_of name new) (f name)

pub all_foreign_none : (p : List ℕ) (js : List Journal) → AllForeign p js js
all_foreign_none p js name = foreign_none p (text_of name js)

pub all_foreign_two : (p : List ℕ) (a b c : List Journal) → AllForeign p a b → AllForeign p b c → AllForeign p a c
all_foreign_two p a b c f g name = foreign_two p (text_of name a) (text_of name b) (text_of name c) (f name) (g name)

-- no journal has a message of the producer
abbrev pub IsClean : List ℕ → List Journal → Type 0
IsClean p js = (name : List ℕ) → of_producer p (messages_alone (messages_of 0 (text_of name js))) ≡ []

-- what others write leaves that
pub clean_foreign : (p : List ℕ) (js new : List Journal) → AreWhole js → AllForeign p js new → IsClean p js → IsClean p new
clean_foreign p js new whole f clean name = of_foreign p (text_of name js) (text_of name new) (whole name) (f name) ∙ clean name

-- then each output has the transactions of no commits
pub holds_clean : (js : List Journal) (p : List ℕ) (count place : ℕ) (names : List (List ℕ)) → IsClean p js → Holds js p count place names []
holds_clean js p count place [] clean = tt
holds_clean js p count place (n ∷ names) clean = (clean n, holds_clean js p count (place + 1) names clean)

-- lines of another producer, or of none that is this one
foreign_lines : (p text : List ℕ) (ms : List Message) → Each IsLine ms → of_producer p ms ≡ [] → Foreign p text (text ++ text_of_lines ms)
foreign_lines p text ms each none = record {
  more = text_of_lines ms;
  joined = refl;
  whole = lines_whole ms each;
  none = ap (λ (xs : List Message). of_producer p xs) (lines_read (length text) ms each) ∙ none;
}

foreign_first : (attempt : Attempt) (p name other : List ℕ) (ms : List Message) (j : Journal) (js : List Journal) (here there : Bool) → bytes_eq j.name other ≡ there → Each IsLine ms → of_producer p ms ≡ []
    → Foreign p (text_of other js) (text_of other (appended attempt name (text_of_lines ms) js))
    → Foreign p (cond there (text_in j) (text_of other js)) (text_of other (cond here (record j { entries = with_bytes attempt (text_of_lines ms) j.entries }) j ∷ appended attempt name (text_of_lines ms) js))
foreign_first attempt p name other ms j js true true is each none rest =
    rw is (subst (λ (t : List ℕ). Foreign p (text_in j) t) (sym (text_with_bytes attempt (text_of_lines ms) j.entries)) (foreign_lines p (text_in j) ms each none))
foreign_first attempt p name other ms j js false true is each none rest = rw is (foreign_none p (text_in j))
foreign_first attempt p name other ms j js true false is each none rest = rw is rest
foreign_first attempt p name other ms j js false false is each none rest = rw is rest

pub foreign_appended : (attempt : Attempt) (p name : List ℕ) (ms : List Message) (js : List Journal) → Each IsLine ms → of_producer p ms ≡ [] → AllForeign p js (appended attempt name (text_of_lines ms) js)
foreign_appended attempt p name ms [] each none other = foreign_none p []
foreign_appended attempt p name ms (j ∷ js) each none other =
    foreign_first attempt p name other ms j js (bytes_eq j.name name) (bytes_eq j.name other) refl each none (foreign_appended attempt p name ms js each none other)

-- what one producer writes is foreign to another one
pub foreign_written : (attempt : Attempt) (p q : List ℕ) (count place last : ℕ) (os : List Output) (names : List (List ℕ)) (js : List Journal) → bytes_eq q p ≡ false
    → IsLine (ack_at q (last + length os + 1)) → Each IsLine (lines_from q last os)
    → AllForeign p js (written_to attempt count place (lines_from q last os) (ack_at q (last + length os + 1)) names js)
foreign_written attempt p q count place last os [] js other a e = all_foreign_none p js
foreign_written attempt p q count place last os (n ∷ names) js other a e =
    let lines : List Message = lines_from q last os in
    let ack : Message = ack_at q (last + length os + 1) in
    let mine : List Message = closed ack (lines_to count place lines) in
    let each : Each IsLine mine = closed_each IsLine ack (lines_to count place lines) a (each_filter (λ m. choice count m.key == place) IsLine lines e) in
    let all : AllOf q mine =
    closed_each (λ m. bytes_eq m.producer q ≡ true) ack (lines_to count place lines) (same_bytes q) (each_filter (λ m. choice count m.key == place) (λ m. bytes_eq m.producer q ≡ true) lines (lines_all_of q last os)) in
    all_foreign_two p js (appended attempt n (text_of_lines mine) js) (written_to attempt count (place + 1) lines ack names (appended attempt n (text_of_lines mine) js))
    (foreign_appended attempt p n mine js each (of_none p q mine other all))
    (foreign_written attempt p q count (place + 1) last os names (appended attempt n (text_of_lines mine) js) other a e)

pub holds_foreign : (js new : List Journal) (p : List ℕ) (count place : ℕ) (names : List (List ℕ)) (oss : List (List Output)) → AreWhole js → AllForeign p js new → Holds js p count place names oss → Holds new p count place names oss
holds_foreign js new p count place [] oss whole f h = tt
holds_foreign js new p count place (n ∷ names) oss whole f h =
    (of_foreign p (text_of n js) (text_of n new) (whole n) (f n) ∙ h.0, holds_foreign js new p count (place + 1) names oss whole f h.1)

-- ---- the promise for the outputs

pub accept_all : (js : List Journal) (p : List ℕ) (count place : ℕ) (names : List (List ℕ)) (oss : List (List Output)) → Holds js p count place names oss
    → AcceptAll count place (joined oss) (all_accepted js p names)
accept_all js p count place [] oss h = tt
accept_all js p count place (n ∷ names) oss h =
    let next : place + 1 ≡ suc place = omega arith in (
      accepts_transactions p count place (text_of n js) oss h.0,
      subst (λ (at : ℕ). AcceptAll count at (joined oss) (all_accepted js p names)) next (accept_all js p count (place + 1) names oss h.1),
    )
