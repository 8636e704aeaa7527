-- Journals that grow by any bytes, and what their growth adds to what a source has committed.
use Rattle.std.proofs.Common.{◌≡◌, ℕ, zero, suc, ◌+◌, ◌<◌, ◌≤◌, ◌==◌, List, [], ◌∷◌, ◌++◌, length, take, drop, refl, ap, sym, ◌∙◌, subst, append_assoc, Bool, true, false, cond, Option, Some, None, option_map, arith}
use Rattle.std.proofs.lemmas.List.{append-nil, length-append, length-drop}
use Rattle.std.specs.Str.{bytes_eq}
use Rattle.gz_model.specs.Lines.{newline, line_len}
use Rattle.gz_model.specs.Prefix.{IsPrefix}
use Rattle.gz_frame.specs.Messages.{Message}
use Rattle.gz_frame.specs.Release.{Release}
use Rattle.gz_frame.specs.Text.{Placed, message_of, placed_at, messages_of, is_whole}
use Rattle.gz_frame.proofs.Whole.{Split, split_of, messages_joined, messages_of_first, no_messages, within_text}
use Rattle.gz_sequencer.specs.Committed.{messages_alone, committed_after}
use Rattle.gz_sequencer.specs.Committed as sequencer
use Rattle.gz_promise.specs.Journals.{Journal, text_in, text_of, with_bytes, appended}
use Rattle.gz_promise.proofs.Entries.{text_with_bytes}
use Rattle.gz_label.specs.declared.entry.Attempt.{Attempt}
use Rattle.gz_plain.specs.Shards.{written_to, closed, lines_to, text_of_lines}
use Rattle.gz_promise.specs.Sources.{Source, text_from, end_of, committed}
use Rattle.gz_plain.proofs.Growth.{Inside, inside_wider, text_inside, committed_inside, later_of, Later, Gain, Grow}
use Rattle.gz_plain.proofs.Parts.{Within}

some_inj : {A : Type 0} {x y : A} → Some x ≡ Some y → x ≡ y
some_inj same = cc

none_some : {A : Type 0} {x : A} → let o : Option A = None in o ≡ Some x → ⊥
none_some same = cc

-- ---- journals

-- every journal's text begins with what it was
abbrev pub Longer : List Journal → List Journal → Type 0
Longer js new = (name : List ℕ) → IsPrefix (text_of name js) (text_of name new)

prefix_none : (text : List ℕ) → IsPrefix text text
prefix_none text = ([], append-nil text)

prefix_two : (a b c : List ℕ) → IsPrefix a b → IsPrefix b c → IsPrefix a c
prefix_two a b c f g = (f.0 ++ g.0, sym (append_assoc a f.0 g.0) ∙ ap (λ (t : List ℕ). t ++ g.0) f.1 ∙ g.1)

pub longer_none : (js : List Journal) → Longer js js
longer_none js name = prefix_none (text_of name js)

pub longer_two : (a b c : List Journal) → Longer a b → Longer b c → Longer a c
longer_two a b c f g name = prefix_two (text_of name a) (text_of name b) (text_of name c) (f name) (g name)

longer_first : (attempt : Attempt) (bytes rest new : List ℕ) (j : Journal) (here there : Bool) (other : List ℕ) → bytes_eq j.name other ≡ there → IsPrefix rest new
    → IsPrefix (cond there (text_in j) rest) (cond (bytes_eq (cond here (record j { entries = with_bytes attempt bytes j.entries }) j).name other) (text_in (cond here (record j { entries = with_bytes attempt bytes j.entries }) j)) new)
longer_first attempt bytes rest new j true true other is more = rw is (bytes, sym (text_with_bytes attempt bytes j.entries))
longer_first attempt bytes rest new j false true other is more = rw is (prefix_none (text_in j))
longer_first attempt bytes rest new j true false other is more = rw is more
longer_first attempt bytes rest new j false false other is more = rw is more

pub longer_appended : (attempt : Attempt) (name bytes : List ℕ) (js : List Journal) → Longer js (appended attempt name bytes js)
longer_appended attempt name bytes [] other = prefix_none []
longer_appended attempt name bytes (j ∷ js) other =
    longer_first attempt bytes (text_of other js) (text_of other (appended attempt name bytes js)) j (bytes_eq j.name name) (bytes_eq j.name other) other refl (longer_appended attempt name bytes js other)

pub longer_written : (attempt : Attempt) (count place : ℕ) (lines : List Message) (ack : Message) (names : List (List ℕ)) (js : List Journal) → Longer js (written_to attempt count place lines ack names js)
longer_written attempt count place lines ack [] js = longer_none js
longer_written attempt count place lines ack (name ∷ names) js =
    let bytes : List ℕ = text_of_lines (closed ack (lines_to count place lines)) in
    longer_two js (appended attempt name bytes js) (written_to attempt count (place + 1) lines ack names (appended attempt name bytes js))
    (longer_appended attempt name bytes js) (longer_written attempt count (place + 1) lines ack names (appended attempt name bytes js))

pub grow_longer : (js new : List Journal) → Grow js new → Longer js new
grow_longer js new grow name =
    let g : Gain (text_of name js) (text_of name new) = grow name in
    (g.more, sym g.joined)

-- ---- the text of a source

prefix_drop_two : (n : ℕ) (xs ys : List ℕ) → IsPrefix (drop n xs) (drop n (xs ++ ys))
prefix_drop_two zero xs ys = (ys, refl)
prefix_drop_two (suc n) [] ys = (drop (suc n) ys, refl)
prefix_drop_two (suc n) (x ∷ xs) ys = prefix_drop_two n xs ys

pub prefix_drop : (n : ℕ) (old new : List ℕ) → IsPrefix old new → IsPrefix (drop n old) (drop n new)
prefix_drop n old new p = subst (λ (t : List ℕ). IsPrefix (drop n old) (drop n t)) p.1 (prefix_drop_two n old p.0)

-- ---- a text behind an open end

-- the first line of a longer text ends behind an open end
longer_line : (rest more : List ℕ) (n : ℕ) → line_len rest ≡ None → line_len (rest ++ more) ≡ Some n → length rest < n
longer_line [] more n none found = some_line more n found
  where
    by_first : (here : Bool) (o : Option ℕ) (n : ℕ) → cond here (Some 1) (option_map (λ k. suc k) o) ≡ Some n → 0 < n
    by_first true o n found = rw (← some_inj found) (omega arith)
    by_first false None n found = absurd (none_some found)
    by_first false (Some k) n found = rw (← some_inj found) (omega arith)

    some_line : (text : List ℕ) (n : ℕ) → line_len text ≡ Some n → 0 < n
    some_line [] n found = absurd (none_some found)
    some_line (b ∷ bs) n found = by_first (b == newline) (line_len bs) n found
longer_line (b ∷ bs) more n none found = by_here (b == newline) (line_len bs) (line_len (bs ++ more)) (λ k. longer_line bs more k) none found
  where
    by_here : (here : Bool) (o p : Option ℕ) → ((k : ℕ) → o ≡ None → p ≡ Some k → length bs < k) → cond here (Some 1) (option_map (λ k. suc k) o) ≡ None → cond here (Some 1) (option_map (λ k. suc k) p) ≡ Some n → suc (length bs) < n
    by_here true o p rest none found = absurd (none_some (sym none))
    by_here false (Some k) p rest none found = absurd (none_some (sym none))
    by_here false None None rest none found = absurd (none_some found)
    by_here false None (Some k) rest none found = let less = rest k refl refl in rw (← some_inj found) (omega (arith, less))

placed_inside : (at low len high : ℕ) (m : Option Message) (ps : List Placed) → low < at + len → at + len ≤ high → Inside low high ps → Inside low high (placed_at at len m ++ ps)
placed_inside at low len high None ps some upto rest = rest
placed_inside at low len high (Some m) ps some upto rest = ((some, upto), rest)

-- lines that an open end is part of end behind it
open_inside : (at : ℕ) (rest more : List ℕ) → line_len rest ≡ None → Inside (at + length rest) (at + length (rest ++ more)) (messages_of at (rest ++ more))
open_inside at rest more none = by_line (line_len (rest ++ more)) refl
  where
    by_line : (o : Option ℕ) → line_len (rest ++ more) ≡ o → Inside (at + length rest) (at + length (rest ++ more)) (messages_of at (rest ++ more))
    by_line None found = subst (λ (ps : List Placed). Inside (at + length rest) (at + length (rest ++ more)) ps) (sym (no_messages at (rest ++ more) found)) tt
    by_line (Some n) found =
        let text : List ℕ = rest ++ more in
        let less : length rest < n = longer_line rest more n none found in
        let fits : n ≤ length text = within_text text n found in
        let left : length (drop n text) + n ≡ length text = omega (arith, length-drop n text, fits) in
        subst (λ (ps : List Placed). Inside (at + length rest) (at + length text) ps) (sym (messages_of_first at text n found))
        (placed_inside at (at + length rest) n (at + length text) (message_of (take n text)) (messages_of (at + n) (drop n text)) (omega (arith, less)) (omega (arith, fits))
        (inside_wider (at + n) (at + n + length (drop n text)) (at + length rest) (at + length text) (messages_of (at + n) (drop n text)) (omega (arith, less)) (omega (arith, left)) (text_inside (at + n) (drop n text))))

-- what more bytes add to what a text has committed: it ends behind what was there
pub record Adds (at : ℕ) (old new : List ℕ) : Type 0 where
  pub more : List Release
  pub joined : sequencer.committed at new ≡ sequencer.committed at old ++ more
  pub behind : Within (at + length old) (at + length new) more
  pub further : length old ≤ length new

pub adds_of : (at : ℕ) (old new : List ℕ) → IsPrefix old new → Adds at old new
adds_of at old new p =
    let s : Split old = split_of old in
    let more : List ℕ = s.rest ++ p.0 in
    let text : new ≡ s.whole ++ more = sym p.1 ∙ ap (λ (t : List ℕ). t ++ p.0) (sym s.joined) ∙ append_assoc s.whole s.rest p.0 in
    let prefix : sequencer.committed at old ≡ sequencer.committed at s.whole =
    later_of at s.whole old s.rest (sym s.joined) s.lines
    ∙ ap (λ (ps : List Placed). sequencer.committed at s.whole ++ committed_after (messages_alone (messages_of at s.whole)) ps) (no_messages (at + length s.whole) s.rest s.open_end)
    ∙ append-nil (sequencer.committed at s.whole) in
    let lengths : length s.whole + length s.rest ≡ length old = sym (length-append s.whole s.rest) ∙ ap (λ (t : List ℕ). length t) s.joined in
    let all : length new ≡ length s.whole + length more = ap (λ (t : List ℕ). length t) text ∙ length-append s.whole more in
    let both : length more ≡ length s.rest + length p.0 = length-append s.rest p.0 in
    let at_rest : ℕ = at + length s.whole in
    let ps : List Placed = messages_of at_rest more in
    record {
      more = committed_after (messages_alone (messages_of at s.whole)) ps;
      joined = later_of at s.whole new more text s.lines ∙ ap (λ (rs : List Release). rs ++ committed_after (messages_alone (messages_of at s.whole)) ps) (sym prefix);
      behind = committed_inside (at + length old) (at + length new) (messages_alone (messages_of at s.whole)) ps
          (inside_wider (at_rest + length s.rest) (at_rest + length more) (at + length old) (at + length new) ps (omega (arith, lengths)) (omega (arith, all))
          (open_inside at_rest s.rest p.0 s.open_end));
      further = omega (arith, lengths, all, both);
    }

pub later_any : (js new : List Journal) (s : Source) → Longer js new → Later js new s
later_any js new s longer =
    let a : Adds s.from (text_from js s) (text_from new s) = adds_of s.from (text_from js s) (text_from new s) (prefix_drop s.from (text_of s.journal js) (text_of s.journal new) (longer s.journal)) in
    record { more = a.more; joined = a.joined; behind = a.behind; further = omega (arith, a.further) }
