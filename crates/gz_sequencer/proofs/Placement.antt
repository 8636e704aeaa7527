-- Where the messages of a text stand: each where whole lines end, each behind those before it, and within the text.
use Rattle.std.proofs.Common.{◌≡◌, ℕ, ◌+◌, ◌<◌, ◌≤◌, ◌==◌, List, [], ◌∷◌, ◌++◌, length, refl, ap, sym, ◌∙◌, subst, Bool, true, false, Option, Some, None, arith, append_assoc}
use Rattle.std.specs.Prelude.{⊤}
use Rattle.std.proofs.lemmas.Grind.{common_steps}
use Rattle.std.proofs.lemmas.List.{append-nil, length-append}
use Rattle.gz_model.specs.Lines.{newline, line_len}
use Rattle.gz_frame.specs.Messages.{Message}
use Rattle.gz_frame.specs.Text.{Placed, placed_at, message_of, messages_of, last_of, is_whole}
use Rattle.gz_frame.proofs.Whole.{no_messages}
use Rattle.gz_sequencer.proofs.PartHistories.{AllFrom}
use Rattle.gz_sequencer.proofs.FedTexts.{open_more, line_length, messages_ended}

-- all messages begin below an offset
abbrev pub AllBelow : ℕ → List Placed → Type 0
AllBelow to [] = ⊤
AllBelow to (p ∷ ps) = (p.begin < to) × AllBelow to ps

-- each message begins behind those before it
abbrev pub Ascending : List Placed → Type 0
Ascending [] = ⊤
Ascending (p ∷ ps) = AllFrom (p.begin + 1) ps × Ascending ps

-- whole lines of the text end at an offset
pub record StartsAt (begin : ℕ) (text : List ℕ) (n : ℕ) : Type 0 where
  pub prefix : List ℕ
  pub back : List ℕ
  pub joined : prefix ++ back ≡ text
  pub whole : is_whole prefix ≡ true
  pub place : n ≡ begin + length prefix

abbrev pub AllStart : ℕ → List ℕ → List Placed → Type 0
AllStart begin text [] = ⊤
AllStart begin text (p ∷ ps) = StartsAt begin text p.begin × AllStart begin text ps

pub record Placement (begin : ℕ) (text : List ℕ) (ps : List Placed) : Type 0 where
  pub from : AllFrom begin ps
  pub below : AllBelow (begin + length text) ps
  pub ascending : Ascending ps
  pub starts : AllStart begin text ps

pub all_from_lower : (ps : List Placed) (low high : ℕ) → low ≤ high → AllFrom high ps → AllFrom low ps
all_from_lower [] low high h all = tt
all_from_lower (p ∷ ps) low high h all = (omega (arith, all.0), all_from_lower ps low high h all.1)

pub all_below_higher : (ps : List Placed) (low high : ℕ) → low ≤ high → AllBelow low ps → AllBelow high ps
all_below_higher [] low high h all = tt
all_below_higher (p ∷ ps) low high h all = (omega (arith, all.0), all_below_higher ps low high h all.1)

pub eq_newline : (b : ℕ) → (b == newline) ≡ true → b ≡ newline
eq_newline b h = grind (arith, common_steps)

pub last_of_append : (xs ys : List ℕ) (b : ℕ) → last_of b (xs ++ ys) ≡ last_of (last_of b xs) ys
last_of_append [] ys b = refl
last_of_append (x ∷ xs) ys b = last_of_append xs ys x

pub whole_append : (xs ys : List ℕ) → is_whole xs ≡ true → is_whole ys ≡ true → is_whole (xs ++ ys) ≡ true
whole_append xs ys a b = rw (last_of_append xs ys newline, eq_newline (last_of newline xs) a) b

pub whole_line : (line : List ℕ) (x : ℕ) → (x == newline) ≡ true → is_whole (line ++ x ∷ []) ≡ true
whole_line line x end = rw (last_of_append line (x ∷ []) newline) end

starts_further : (begin : ℕ) (line text : List ℕ) (n : ℕ) → is_whole line ≡ true → StartsAt (begin + length line) text n → StartsAt begin (line ++ text) n
starts_further begin line text n whole s = record {
  prefix = line ++ s.prefix;
  back = s.back;
  joined = append_assoc line s.prefix s.back ∙ ap (λ (t : List ℕ). line ++ t) s.joined;
  whole = whole_append line s.prefix whole s.whole;
  place = omega (arith, s.place, length-append line s.prefix);
}

all_start_further : (ps : List Placed) (begin : ℕ) (line text : List ℕ) → is_whole line ≡ true → AllStart (begin + length line) text ps → AllStart begin (line ++ text) ps
all_start_further [] begin line text whole all = tt
all_start_further (p ∷ ps) begin line text whole all = (starts_further begin line text p.begin whole all.0, all_start_further ps begin line text whole all.1)

line_placed : (o : Option Message) (begin : ℕ) (line text : List ℕ) (ps : List Placed) → 0 < length line → is_whole line ≡ true → Placement (begin + length line) text ps
    → Placement begin (line ++ text) (placed_at begin (length line) o ++ ps)
line_placed None begin line text ps some whole h = record {
  from = all_from_lower ps begin (begin + length line) (omega arith) h.from;
  below = all_below_higher ps (begin + length line + length text) (begin + length (line ++ text)) (omega (arith, length-append line text)) h.below;
  ascending = h.ascending;
  starts = all_start_further ps begin line text whole h.starts;
}
line_placed (Some m) begin line text ps some whole h = record {
  from = (omega arith, all_from_lower ps begin (begin + length line) (omega arith) h.from);
  below = (omega (arith, length-append line text), all_below_higher ps (begin + length line + length text) (begin + length (line ++ text)) (omega (arith, length-append line text)) h.below);
  ascending = (all_from_lower ps (begin + 1) (begin + length line) (omega arith) h.from, h.ascending);
  starts = (record { prefix = []; back = line ++ text; joined = refl; whole = refl; place = omega arith }, all_start_further ps begin line text whole h.starts);
}

place_step : (b : Bool) (x : ℕ) (xs line : List ℕ) (begin : ℕ) → (x == 10) ≡ b → line_len line ≡ None
    → ((l : List ℕ) (n : ℕ) → line_len l ≡ None → Placement n (l ++ xs) (messages_of n (l ++ xs)))
    → Placement begin (line ++ x ∷ xs) (messages_of begin (line ++ x ∷ xs))
place_step true x xs line begin test none ih =
    let whole : List ℕ = line ++ x ∷ [] in
    let joined : whole ++ xs ≡ line ++ x ∷ xs = append_assoc line (x ∷ []) xs in
    let some : 0 < length whole = omega (arith, line_length line x) in
    let rest : Placement (begin + length whole) xs (messages_of (begin + length whole) xs) = ih [] (begin + length whole) refl in
    let here : Placement begin (whole ++ xs) (placed_at begin (length whole) (message_of whole) ++ messages_of (begin + length whole) xs) = line_placed (message_of whole) begin whole xs (messages_of (begin + length whole) xs) some (whole_line line x test) rest in
    let P : List Placed → Type 0 = λ ps. Placement begin (whole ++ xs) ps in
    let Q : List ℕ → Type 0 = λ text. Placement begin text (messages_of begin (line ++ x ∷ xs)) in
    subst Q joined (subst P (sym (messages_ended begin line x xs none test)) here)
place_step false x xs line begin test none ih =
    let Q : List ℕ → Type 0 = λ text. Placement begin text (messages_of begin text) in
    subst Q (append_assoc line (x ∷ []) xs) (ih (line ++ x ∷ []) begin (open_more line x none test))

pub placement : (text line : List ℕ) (begin : ℕ) → line_len line ≡ None → Placement begin (line ++ text) (messages_of begin (line ++ text))
placement [] line begin none =
    let P : List Placed → Type 0 = λ ps. Placement begin (line ++ []) ps in
    subst P (sym (no_messages begin (line ++ []) (ap (λ (l : List ℕ). line_len l) (append-nil line) ∙ none))) (record { from = tt; below = tt; ascending = tt; starts = tt })
placement (x ∷ xs) line begin none = place_step (x == 10) x xs line begin refl none (λ l n h. placement xs l n h)
