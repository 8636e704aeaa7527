-- Journals that grow by whole lines, and what their growth adds to what a source has committed.
use Rattle.std.proofs.Common.{◌≡◌, ℕ, zero, suc, ◌+◌, ◌<◌, ◌≤◌, ◌==◌, List, [], ◌∷◌, ◌++◌, length, map, drop, refl, ap, sym, ◌∙◌, subst, append_assoc, Bool, true, false, cond, Option, Some, None, arith}
use Rattle.std.specs.Prelude.{⊤}
use Rattle.std.proofs.lemmas.Grind.{common_steps}
use Rattle.std.proofs.lemmas.List.{append-nil, length-append}
use Rattle.std.specs.Str.{bytes_eq}
use Rattle.gz_model.specs.Lines.{newline, lines_of}
use Rattle.gz_frame.specs.Messages.{Message}
use Rattle.gz_frame.specs.Release.{Release, released, of_producer}
use Rattle.gz_frame.specs.Text.{Placed, message_of, placed_at, messages_in, messages_of, last_of, is_whole}
use Rattle.gz_frame.proofs.Whole.{messages_joined, bytes_in, bytes_of_lines}
use Rattle.gz_sequencer.specs.Committed.{messages_alone, committed_after}
use Rattle.gz_sequencer.specs.Committed as sequencer
use Rattle.gz_promise.specs.Journals.{Journal, text_in, text_of, with_bytes, appended, AreWhole}
use Rattle.gz_promise.proofs.Entries.{text_with_bytes}
use Rattle.gz_label.specs.declared.entry.Attempt.{Attempt}
use Rattle.gz_promise.specs.Sources.{Source, text_from, end_of, committed}
use Rattle.gz_plain.proofs.Parts.{Within, within_two}
use Rattle.gz_plain.proofs.Parts.{within_line}

-- ---- texts of whole lines

-- a text has become longer by whole lines
pub record Gain (old new : List ℕ) : Type 0 where
  pub more : List ℕ
  pub joined : new ≡ old ++ more
  pub whole : is_whole more ≡ true

last_two : (before : ℕ) (xs ys : List ℕ) → last_of before (xs ++ ys) ≡ last_of (last_of before xs) ys
last_two before [] ys = refl
last_two before (x ∷ xs) ys = last_two x xs ys

is_newline : (b : ℕ) → (b == newline) ≡ true → b ≡ newline
is_newline b same = grind (arith, common_steps)

pub whole_two : (xs ys : List ℕ) → is_whole xs ≡ true → is_whole ys ≡ true → is_whole (xs ++ ys) ≡ true
whole_two xs ys a b =
    ap (λ (n : ℕ). n == newline) (last_two newline xs ys ∙ ap (λ (n : ℕ). last_of n ys) (is_newline (last_of newline xs) a)) ∙ b

pub gain_none : (text : List ℕ) → Gain text text
gain_none text = record { more = []; joined = sym (append-nil text); whole = refl }

pub gain_two : (a b c : List ℕ) → Gain a b → Gain b c → Gain a c
gain_two a b c f g = record {
  more = f.more ++ g.more;
  joined = g.joined ∙ ap (λ (t : List ℕ). t ++ g.more) f.joined ∙ append_assoc a f.more g.more;
  whole = whole_two f.more g.more f.whole g.whole;
}

pub gain_whole : (old new : List ℕ) → Gain old new → is_whole old ≡ true → is_whole new ≡ true
gain_whole old new g w = ap (λ (t : List ℕ). is_whole t) g.joined ∙ whole_two old g.more w g.whole

-- ---- journals

-- every journal has become longer by whole lines
abbrev pub Grow : List Journal → List Journal → Type 0
Grow js new = (name : List ℕ) → Gain (text_of name js) (text_of name new)

pub grow_none : (js : List Journal) → Grow js js
grow_none js name = gain_none (text_of name js)

pub grow_two : (a b c : List Journal) → Grow a b → Grow b c → Grow a c
grow_two a b c f g name = gain_two (text_of name a) (text_of name b) (text_of name c) (f name) (g name)

pub grow_whole : (js new : List Journal) → Grow js new → AreWhole js → AreWhole new
grow_whole js new g w name = gain_whole (text_of name js) (text_of name new) (g name) (w name)

-- the first journal, whether it grows or not, and whether it is the one of the name
gain_first : (attempt : Attempt) (name bytes other : List ℕ) (j : Journal) (js : List Journal) (here there : Bool) → bytes_eq j.name other ≡ there → is_whole bytes ≡ true
    → Gain (text_of other js) (text_of other (appended attempt name bytes js))
    → Gain (cond there (text_in j) (text_of other js)) (text_of other (cond here (record j { entries = with_bytes attempt bytes j.entries }) j ∷ appended attempt name bytes js))
gain_first attempt name bytes other j js true true is whole rest = rw is (record { more = bytes; joined = text_with_bytes attempt bytes j.entries; whole = whole })
gain_first attempt name bytes other j js false true is whole rest = rw is (gain_none (text_in j))
gain_first attempt name bytes other j js true false is whole rest = rw is rest
gain_first attempt name bytes other j js false false is whole rest = rw is rest

pub grow_appended : (attempt : Attempt) (name bytes : List ℕ) (js : List Journal) → is_whole bytes ≡ true → Grow js (appended attempt name bytes js)
grow_appended attempt name bytes [] whole other = gain_none []
grow_appended attempt name bytes (j ∷ js) whole other =
    gain_first attempt name bytes other j js (bytes_eq j.name name) (bytes_eq j.name other) refl whole (grow_appended attempt name bytes js whole other)

-- ---- the text of a source

whole_behind : (n b : ℕ) (ys : List ℕ) → (last_of b ys == newline) ≡ true → is_whole (drop n ys) ≡ true
whole_behind zero b [] w = refl
whole_behind zero b (y ∷ ys) w = w
whole_behind (suc n) b [] w = refl
whole_behind (suc n) b (y ∷ ys) w = whole_behind n y ys w

pub whole_drop : (n : ℕ) (ys : List ℕ) → is_whole ys ≡ true → is_whole (drop n ys) ≡ true
whole_drop n ys w = whole_behind n newline ys w

-- ---- what a text has committed

-- each message's line ends after `low` and at or before `high`
abbrev pub Inside : ℕ → ℕ → List Placed → Type 0
Inside low high [] = ⊤
Inside low high (p ∷ ps) = ((low < p.end) × (p.end ≤ high)) × Inside low high ps

pub inside_wider : (from to low high : ℕ) (ps : List Placed) → low ≤ from → to ≤ high → Inside from to ps → Inside low high ps
inside_wider from to low high [] l h w = tt
inside_wider from to low high (p ∷ ps) l h w = ((omega (arith, w.0.0), omega (arith, w.0.1)), inside_wider from to low high ps l h w.1)

inside_first : (at len high : ℕ) (m : Option Message) (ps : List Placed) → 0 < len → at + len ≤ high → Inside at high ps → Inside at high (placed_at at len m ++ ps)
inside_first at len high None ps some upto rest = rest
inside_first at len high (Some m) ps some upto rest = ((omega arith, omega arith), rest)

empty_line : message_of [] ≡ None
unfolding message_of
empty_line = refl

pub messages_inside : (at : ℕ) (lines : List (List ℕ)) → Inside at (at + bytes_in lines) (messages_in at lines)
messages_inside at [] = tt
messages_inside at ([] ∷ lines) =
    let same : at + 0 ≡ at = omega arith in
    rw (empty_line, same) (subst (λ (n : ℕ). Inside at (at + n) (messages_in at lines)) (omega arith) (messages_inside at lines))
messages_inside at ((b ∷ bs) ∷ lines) =
    let len : ℕ = length (b ∷ bs) in
    let high : ℕ = at + bytes_in ((b ∷ bs) ∷ lines) in
    inside_first at len high (message_of (b ∷ bs)) (messages_in (at + len) lines) (omega arith) (omega arith)
    (inside_wider (at + len) (at + len + bytes_in lines) at high (messages_in (at + len) lines) (omega arith) (omega arith) (messages_inside (at + len) lines))

pub text_inside : (at : ℕ) (text : List ℕ) → Inside at (at + length text) (messages_of at text)
unfolding messages_of
text_inside at text = subst (λ (n : ℕ). Inside at (at + n) (messages_in at (lines_of text))) (bytes_of_lines text) (messages_inside at (lines_of text))

pub committed_inside : (low high : ℕ) (h : List Message) (ps : List Placed) → Inside low high ps → Within low high (committed_after h ps)
committed_inside low high h [] w = tt
committed_inside low high h (p ∷ ps) w =
    within_two low high (map (λ r. record { message = r; end = p.end }) (released (of_producer p.message.producer h) p.message)) (committed_after (h ++ p.message ∷ []) ps)
    (within_line low high p.end (released (of_producer p.message.producer h) p.message) w.0.0 w.0.1)
    (committed_inside low high (h ++ p.message ∷ []) ps w.1)

pub committed_two : (h : List Message) (ps qs : List Placed) → committed_after h (ps ++ qs) ≡ committed_after h ps ++ committed_after (h ++ messages_alone ps) qs
committed_two h [] qs = ap (λ (g : List Message). committed_after g qs) (sym (append-nil h))
committed_two h (p ∷ ps) qs =
    let first : List Release = map (λ r. record { message = r; end = p.end }) (released (of_producer p.message.producer h) p.message) in
    let next : List Message = h ++ p.message ∷ [] in
    ap (λ (rs : List Release). first ++ rs) (committed_two next ps qs
    ∙ ap (λ (g : List Message). committed_after next ps ++ committed_after g qs) (append_assoc h (p.message ∷ []) (messages_alone ps)))
    ∙ sym (append_assoc first (committed_after next ps) (committed_after (h ++ p.message ∷ messages_alone ps) qs))

-- what longer journals add to what a source has committed: it ends behind what was there
pub record Later (js new : List Journal) (s : Source) : Type 0 where
  pub more : List Release
  pub joined : committed new s ≡ committed js s ++ more
  pub behind : Within (end_of js s) (end_of new s) more
  pub further : end_of js s ≤ end_of new s

pub committed_within : (js : List Journal) (s : Source) → Within s.from (end_of js s) (committed js s)
committed_within js s = committed_inside s.from (end_of js s) [] (messages_of s.from (text_from js s)) (text_inside s.from (text_from js s))

pub later_of : (at : ℕ) (old new more : List ℕ) → new ≡ old ++ more → is_whole old ≡ true
    → sequencer.committed at new ≡ sequencer.committed at old ++ committed_after (messages_alone (messages_of at old)) (messages_of (at + length old) more)
later_of at old new more joined whole =
    ap (λ (t : List ℕ). sequencer.committed at t) joined
    ∙ ap (λ (ps : List Placed). committed_after [] ps) (messages_joined at old more whole)
    ∙ committed_two [] (messages_of at old) (messages_of (at + length old) more)
