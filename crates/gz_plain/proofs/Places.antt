-- Journals by their places, and the texts that a commit puts behind them.
use Rattle.std.proofs.Common.{◌≡◌, ℕ, zero, suc, ◌+◌, ◌<◌, ◌≤◌, ◌==◌, List, [], ◌∷◌, ◌++◌, length, map, get_or, set, drop, replicate, refl, ap, sym, ◌∙◌, append_assoc, Bool, true, false, cond, ◌||◌, arith}
use Rattle.std.proofs.lemmas.Bool.{eqb-true, eqb-false}
use Rattle.std.proofs.lemmas.List.{append-nil, drop_more, drop_all, length-append, length-map, length-replicate}
use Rattle.std.proofs.lemmas.List.Elements.{filter-append}
use Rattle.std.proofs.lemmas.List.Concat.{flat_map-append}
use Rattle.std.proofs.lemmas.Slice.Eq.{bytes_eq-Decides}
use Rattle.std.specs.Str.{bytes_eq}
use Rattle.gz_frame.specs.Line.{data_of, line_of}
use Rattle.gz_label.specs.declared.entry.Attempt.{Attempt}
use Rattle.gz_frame.specs.Messages.{Message, continue_txn}
use Rattle.gz_app.specs.Applications.{Output}
use Rattle.gz_promise.specs.Journals.{Journal, is_journal, text_in, text_of, with_bytes, appended, place_of, text_at, appended_at}
use Rattle.gz_promise.specs.Names.{Apart}
use Rattle.gz_plain.specs.Places.{names_of, places_of, ArePlaced, with_lines, ended, all_appended}
use Rattle.gz_plain.specs.Plain.{lines_from}
use Rattle.gz_plain.specs.Runs.{ArePresent, all_empty}
use Rattle.gz_promise.specs.Names.{Distinct}
use Rattle.gz_plain.specs.Seen.{name_of}
use Rattle.gz_plain.specs.Shards.{lines_to, closed, text_of_lines, written_to}
use Rattle.gz_promise.specs.Outputs.{choice}
use Rattle.gz_plain.specs.declared.writer.Writer.{Writer}
use Rattle.gz_model.specs.Lines.{newline}
use Rattle.serde_json.specs.Written.{compact_text}

-- a line has at least its newline
pub line_some : (m : Message) → 0 < length (line_of m)
unfolding line_of
line_some m = omega (arith, length-append (compact_text (data_of m)) (newline ∷ []))

-- ---- a place

text_first : (name : List ℕ) (j : Journal) (js : List Journal) (here : Bool) → text_of name js ≡ text_at (place_of name js) js
    → cond here (text_in j) (text_of name js) ≡ text_at (cond here 0 (suc (place_of name js))) (j ∷ js)
text_first name j js true rest = refl
text_first name j js false rest = rest

-- the text of a name is that at its place
pub text_of_is : (name : List ℕ) (js : List Journal) → text_of name js ≡ text_at (place_of name js) js
text_of_is name [] = refl
text_of_is name (j ∷ js) = text_first name j js (bytes_eq j.name name) (text_of_is name js)

-- the text at a place of the list
pub text_at_read : (i : ℕ) (js : List Journal) (j : Journal) → i < length js → j ≡ get_or js i j → (text_in j) ≡ text_at i js
text_at_read i [] j within is = absurd (omega (arith, within))
text_at_read zero (k ∷ js) j within is = ap (λ (o : Journal). text_in o) is
text_at_read (suc i) (k ∷ js) j within is = text_at_read i js j (omega (arith, within)) is

-- there is no text past the end
pub text_at_past : (i : ℕ) (js : List Journal) → length js ≤ i → text_at i js ≡ []
text_at_past i [] past = refl
text_at_past zero (k ∷ js) past = absurd (omega (arith, past))
text_at_past (suc i) (k ∷ js) past = text_at_past i js (omega (arith, past))

-- an append at a place of the list sets what stands there
pub appended_at_set : (attempt : Attempt) (i : ℕ) (bytes : List ℕ) (js : List Journal) (j : Journal) → i < length js → j ≡ get_or js i j
    → set js i (record j { entries = with_bytes attempt bytes j.entries }) ≡ appended_at attempt i bytes js
appended_at_set attempt i bytes [] j within is = absurd (omega (arith, within))
appended_at_set attempt zero bytes (k ∷ js) j within is = ap (λ (o : Journal). record o { entries = with_bytes attempt bytes o.entries } ∷ js) is
appended_at_set attempt (suc i) bytes (k ∷ js) j within is = ap (λ (rest : List Journal). k ∷ rest) (appended_at_set attempt i bytes js j (omega (arith, within)) is)

-- an append past the end does nothing
pub appended_at_past : (attempt : Attempt) (i : ℕ) (bytes : List ℕ) (js : List Journal) → length js ≤ i → appended_at attempt i bytes js ≡ js
appended_at_past attempt i bytes [] past = refl
appended_at_past attempt zero bytes (k ∷ js) past = absurd (omega (arith, past))
appended_at_past attempt (suc i) bytes (k ∷ js) past = ap (λ (rest : List Journal). k ∷ rest) (appended_at_past attempt i bytes js (omega (arith, past)))

-- ---- an append to the journal of a name

-- a name that no journal has
pub none_appended : (attempt : Attempt) (name bytes : List ℕ) (js : List Journal) → Apart name (names_of js) → appended attempt name bytes js ≡ js
none_appended attempt name bytes [] a = refl
none_appended attempt name bytes (j ∷ js) a = rw (a.1, none_appended attempt name bytes js a.2) refl

appended_first : (attempt : Attempt) (name bytes : List ℕ) (j : Journal) (js : List Journal) (here : Bool) → bytes_eq j.name name ≡ here → Apart j.name (names_of js)
    → appended attempt name bytes js ≡ appended_at attempt (place_of name js) bytes js
    → cond here (record j { entries = with_bytes attempt bytes j.entries }) j ∷ appended attempt name bytes js ≡ appended_at attempt (cond here 0 (suc (place_of name js))) bytes (j ∷ js)
appended_first attempt name bytes j js true is a rest =
    let same : j.name ≡ name = (bytes_eq-Decides j.name name).0 is in
    ap (λ (back : List Journal). record j { entries = with_bytes attempt bytes j.entries } ∷ back)
    (ap (λ (n : List ℕ). appended attempt n bytes js) (sym same) ∙ none_appended attempt j.name bytes js a)
appended_first attempt name bytes j js false is a rest = ap (λ (back : List Journal). j ∷ back) rest

-- where each name is there once, the journal of the name is the one at its place
pub appended_is : (attempt : Attempt) (name bytes : List ℕ) (js : List Journal) → Distinct (names_of js) → appended attempt name bytes js ≡ appended_at attempt (place_of name js) bytes js
appended_is attempt name bytes [] d = refl
appended_is attempt name bytes (j ∷ js) d = appended_first attempt name bytes j js (bytes_eq j.name name) refl d.0 (appended_is attempt name bytes js d.1)

name_first : (attempt : Attempt) (bytes : List ℕ) (j : Journal) (here : Bool) → (cond here (record j { entries = with_bytes attempt bytes j.entries }) j).name ≡ j.name
name_first attempt bytes j true = refl
name_first attempt bytes j false = refl

-- the names stay
pub names_stay : (attempt : Attempt) (name bytes : List ℕ) (js : List Journal) → names_of (appended attempt name bytes js) ≡ names_of js
names_stay attempt name bytes [] = refl
names_stay attempt name bytes (j ∷ js) = rw (name_first attempt bytes j (bytes_eq j.name name), names_stay attempt name bytes js) refl

-- journals that begin have the names that they were given
pub names_empty : (names : List (List ℕ)) → names_of (all_empty names) ≡ names
names_empty [] = refl
names_empty (n ∷ names) = ap (λ (rest : List (List ℕ)). n ∷ rest) (names_empty names)

-- the places stay
pub place_stays : (attempt : Attempt) (name bytes other : List ℕ) (js : List Journal) → place_of other (appended attempt name bytes js) ≡ place_of other js
place_stays attempt name bytes other [] = refl
place_stays attempt name bytes other (j ∷ js) = rw (name_first attempt bytes j (bytes_eq j.name name), place_stays attempt name bytes other js) refl

-- a journal is one whose name is among the names
abbrev is_among : List ℕ → List (List ℕ) → Bool
is_among name [] = false
is_among name (n ∷ names) = bytes_eq n name || is_among name names

journal_among : (name : List ℕ) (js : List Journal) → is_journal name js ≡ is_among name (names_of js)
journal_among name [] = refl
journal_among name (j ∷ js) = ap (λ (b : Bool). bytes_eq j.name name || b) (journal_among name js)

-- where the names stay, each journal is still there
pub journal_stays : (name : List ℕ) (js new : List Journal) → names_of new ≡ names_of js → is_journal name new ≡ is_journal name js
journal_stays name js new names =
    journal_among name new ∙ ap (λ (ns : List (List ℕ)). is_among name ns) names ∙ sym (journal_among name js)

pub present_stays : (names : List (List ℕ)) (js new : List Journal) → ((name : List ℕ) → is_journal name new ≡ is_journal name js) → ArePresent names js → ArePresent names new
present_stays [] js new same present = tt
present_stays (n ∷ names) js new same present = (same n ∙ present.0, present_stays names js new same present.1)

-- each is still named once
pub distinct_stay : (attempt : Attempt) (name bytes : List ℕ) (js : List Journal) → Distinct (names_of js) → Distinct (names_of (appended attempt name bytes js))
distinct_stay attempt name bytes js d = rw (names_stay attempt name bytes js) d

-- writers stay at the places of their journals
pub placed_stay : (attempt : Attempt) (name bytes : List ℕ) (js : List Journal) (ws : List Writer) → ArePlaced js ws → ArePlaced (appended attempt name bytes js) ws
placed_stay attempt name bytes js [] p = tt
placed_stay attempt name bytes js (w ∷ ws) p = (p.0 ∙ sym (place_stays attempt name bytes w.journal js), placed_stay attempt name bytes js ws p.1)

-- ---- lines for each output

text_two : (xs ys : List Message) → text_of_lines (xs ++ ys) ≡ text_of_lines xs ++ text_of_lines ys
text_two xs ys = flat_map-append (λ m. line_of m) xs ys

lines_two : (count place : ℕ) (xs ys : List Message) → lines_to count place (xs ++ ys) ≡ lines_to count place xs ++ lines_to count place ys
lines_two count place xs ys = filter-append (λ m. choice count m.key == place) xs ys

-- lines behind lines
pub with_lines_two : (count place : ℕ) (xs ys : List Message) (texts : List (List ℕ)) → with_lines count place ys (with_lines count place xs texts) ≡ with_lines count place (xs ++ ys) texts
with_lines_two count place xs ys [] = refl
with_lines_two count place xs ys (t ∷ texts) =
    let prefix : List ℕ = text_of_lines (lines_to count place xs) in
    let back : List ℕ = text_of_lines (lines_to count place ys) in
    rw (append_assoc t prefix back, lines_two count place xs ys, text_two (lines_to count place xs) (lines_to count place ys), with_lines_two count (place + 1) xs ys texts) refl

-- no lines change nothing
pub with_lines_none : (count place : ℕ) (texts : List (List ℕ)) → with_lines count place [] texts ≡ texts
with_lines_none count place [] = refl
with_lines_none count place (t ∷ texts) = rw (append-nil t, with_lines_none count (place + 1) texts) refl

-- there are as many texts
pub length_with_lines : (count place : ℕ) (lines : List Message) (texts : List (List ℕ)) → length (with_lines count place lines texts) ≡ length texts
length_with_lines count place lines [] = refl
length_with_lines count place lines (t ∷ texts) = ap (λ (n : ℕ). suc n) (length_with_lines count (place + 1) lines texts)

not_here : (count place : ℕ) (m : Message) (t : List ℕ) (here : Bool) → (choice count m.key == place) ≡ here → (choice count m.key ≡ place → ⊥) → t ++ text_of_lines (cond here (m ∷ []) []) ≡ t
not_here count place m t true is apart = absurd (apart (eqb-true (choice count m.key) place is))
not_here count place m t false is apart = append-nil t

is_here : (count place : ℕ) (m : Message) (t : List ℕ) (here : Bool) → (choice count m.key == place) ≡ here → choice count m.key ≡ place → t ++ text_of_lines (cond here (m ∷ []) []) ≡ t ++ line_of m
is_here count place m t true is same = ap (λ (bytes : List ℕ). t ++ bytes) (append-nil (line_of m))
is_here count place m t false is same = absurd (eqb-false (choice count m.key) place is same)

-- a line that chooses an output before these
not_chosen : (count place : ℕ) (m : Message) (texts : List (List ℕ)) → choice count m.key < place → with_lines count place (m ∷ []) texts ≡ texts
not_chosen count place m [] before = refl
not_chosen count place m (t ∷ texts) before =
    rw (not_here count place m t (choice count m.key == place) refl (λ same. omega (arith, same, before)), not_chosen count (place + 1) m texts (omega (arith, before))) refl

-- a line goes behind the text that it chooses
pub with_line_set : (count place i : ℕ) (m : Message) (texts : List (List ℕ)) (t : List ℕ) → choice count m.key ≡ place + i → i < length texts → t ≡ get_or texts i t
    → set texts i (t ++ line_of m) ≡ with_lines count place (m ∷ []) texts
with_line_set count place i m [] t is within read = absurd (omega (arith, within))
with_line_set count place zero m (o ∷ texts) t is within read =
    rw (read, is_here count place m o (choice count m.key == place) refl (omega (arith, is)), not_chosen count (place + 1) m texts (omega (arith, is))) refl
with_line_set count place (suc i) m (o ∷ texts) t is within read =
    rw (not_here count place m o (choice count m.key == place) refl (λ same. omega (arith, same, is)))
    (ap (λ (rest : List (List ℕ)). o ∷ rest) (with_line_set count (place + 1) i m texts t (omega (arith, is)) (omega (arith, within)) read))

message_turn : (count : ℕ) (producer : List ℕ) (last i : ℕ) (os : List Output) (o : Output) (texts : List (List ℕ)) → i < length os → o ≡ get_or os i o
    → with_lines count 0 (lines_from producer (last + (i + 1)) (drop (i + 1) os)) (with_lines count 0 (record { producer = producer; clock = last + i + 1; flags = continue_txn; key = o.key; value = o.value } ∷ []) texts)
    ≡ with_lines count 0 (lines_from producer (last + i) (drop i os)) texts
message_turn count producer last i os o texts within read =
    let m : Message = record { producer = producer; clock = last + i + 1; flags = continue_txn; key = o.key; value = o.value } in
    let next : last + (i + 1) ≡ last + i + 1 = omega arith in
    let split : drop i os ≡ o ∷ drop (i + 1) os = drop_more os i o within ∙ ap (λ (first : Output). first ∷ drop (i + 1) os) (sym read) in
    with_lines_two count 0 (m ∷ []) (lines_from producer (last + (i + 1)) (drop (i + 1) os)) texts
    ∙ ap (λ (n : ℕ). with_lines count 0 (m ∷ lines_from producer n (drop (i + 1) os)) texts) next
    ∙ ap (λ (rest : List Output). with_lines count 0 (lines_from producer (last + i) rest) texts) (sym split)

-- one more output is put
pub lines_turn : (count : ℕ) (producer : List ℕ) (last i : ℕ) (os : List Output) (o : Output) (m : Message) (all : List (List ℕ)) (texts new : List (List ℕ)) → i < length os → o ≡ get_or os i o
    → m ≡ record { producer = producer; clock = last + i + 1; flags = continue_txn; key = o.key; value = o.value } → length texts ≡ count → new ≡ with_lines (length texts) 0 (m ∷ []) texts
    → with_lines count 0 (lines_from producer (last + i) (drop i os)) texts ≡ all
    → with_lines count 0 (lines_from producer (last + (i + 1)) (drop (i + 1) os)) new ≡ all
lines_turn count producer last i os o m all texts new within read is long put before =
    rw (put, long, is) (message_turn count producer last i os o texts within read ∙ before)

-- all outputs are put
pub lines_end : (count : ℕ) (producer : List ℕ) (last i : ℕ) (os : List Output) (texts all : List (List ℕ)) → length os ≤ i
    → with_lines count 0 (lines_from producer (last + i) (drop i os)) texts ≡ all → texts ≡ all
lines_end count producer last i os texts all end is =
    sym (with_lines_none count 0 texts)
    ∙ ap (λ (rest : List Output). with_lines count 0 (lines_from producer (last + i) rest) texts) (sym (drop_all i os end))
    ∙ is

-- ---- what a commit writes

ended_line : (ack m : Message) (ms : List Message) (line : List ℕ) → 0 < length line → ended (line_of ack) (line ++ text_of_lines ms) ≡ (line ++ text_of_lines ms) ++ line_of ack
ended_line ack m ms [] some = absurd (omega (arith, some))
ended_line ack m ms (b ∷ bs) some = refl

-- a text has the acknowledgement behind it where it has lines
ended_is : (ack : Message) (ms : List Message) → ended (line_of ack) (text_of_lines ms) ≡ text_of_lines (closed ack ms)
ended_is ack [] = refl
ended_is ack (m ∷ ms) =
    ended_line ack m ms (line_of m) (line_some m)
    ∙ ap (λ (back : List ℕ). text_of_lines (m ∷ ms) ++ back) (sym (append-nil (line_of ack)))
    ∙ sym (text_two (m ∷ ms) (ack ∷ []))

-- there is a text for each writer
pub length_texts : (count place n : ℕ) (lines : List Message) (line : List ℕ) → length (map (ended line) (with_lines count place lines (replicate n []))) ≡ n
length_texts count place n lines line =
    length-map (with_lines count place lines (replicate n [])) (ended line) ∙ length_with_lines count place lines (replicate n []) ∙ length-replicate n []

-- the texts of a commit, behind the journals at the writers' places
pub written_places : (attempt : Attempt) (count place : ℕ) (lines : List Message) (ack : Message) (ws : List Writer) (js : List Journal) → Distinct (names_of js) → ArePlaced js ws
    → all_appended attempt (places_of ws) (map (ended (line_of ack)) (with_lines count place lines (replicate (length ws) []))) js ≡ written_to attempt count place lines ack (map name_of ws) js
written_places attempt count place lines ack [] js d p = refl
written_places attempt count place lines ack (w ∷ ws) js d p =
    let bytes : List ℕ = text_of_lines (closed ack (lines_to count place lines)) in
    let rest : List (List ℕ) = map (ended (line_of ack)) (with_lines count (place + 1) lines (replicate (length ws) [])) in
    let same : appended_at attempt w.place (ended (line_of ack) (text_of_lines (lines_to count place lines))) js ≡ appended attempt w.journal bytes js =
    rw (ended_is ack (lines_to count place lines), p.0) (sym (appended_is attempt w.journal bytes js d)) in
    ap (λ (new : List Journal). all_appended attempt (places_of ws) rest new) same
    ∙ written_places attempt count (place + 1) lines ack ws (appended attempt w.journal bytes js) (distinct_stay attempt w.journal bytes js d) (placed_stay attempt w.journal bytes js ws p.1)

-- ---- what stays in a commit

-- the names stay
pub names_written : (attempt : Attempt) (count place : ℕ) (lines : List Message) (ack : Message) (names : List (List ℕ)) (js : List Journal) → names_of (written_to attempt count place lines ack names js) ≡ names_of js
names_written attempt count place lines ack [] js = refl
names_written attempt count place lines ack (n ∷ names) js =
    let bytes : List ℕ = text_of_lines (closed ack (lines_to count place lines)) in
    names_written attempt count (place + 1) lines ack names (appended attempt n bytes js) ∙ names_stay attempt n bytes js

-- the places stay
pub place_written : (attempt : Attempt) (count place : ℕ) (lines : List Message) (ack : Message) (names : List (List ℕ)) (js : List Journal) (other : List ℕ)
    → place_of other (written_to attempt count place lines ack names js) ≡ place_of other js
place_written attempt count place lines ack [] js other = refl
place_written attempt count place lines ack (n ∷ names) js other =
    let bytes : List ℕ = text_of_lines (closed ack (lines_to count place lines)) in
    place_written attempt count (place + 1) lines ack names (appended attempt n bytes js) other ∙ place_stays attempt n bytes other js
