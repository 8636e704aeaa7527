-- What a sequencer keeps of a text, and what it releases, come from the text's messages.
use Rattle.std.proofs.Common.{◌≡◌, ℕ, suc, ◌+◌, ◌==◌, List, [], ◌∷◌, ◌++◌, length, take, drop, refl, ap, sym, ◌∙◌, subst, Bool, true, false, cond, Option, Some, None, option_map, append_assoc}
use Rattle.std.proofs.lemmas.List.{append-nil}
use Rattle.gz_model.specs.Lines.{line_len}
use Rattle.gz_frame.specs.Messages.{Message}
use Rattle.gz_frame.specs.Text.{Placed, placed_at, message_of, messages_of}
use Rattle.gz_frame.proofs.Whole.{messages_of_first, no_messages}
use Rattle.gz_sequencer.specs.Parts.{parts_after, parts_after_all, releases, releases_of_all}
use Rattle.gz_sequencer.specs.Machine.{Machine, after_message, after_line, fed}

-- one more byte of a line that isn't whole
none_rest : (r : Option ℕ) → option_map (λ n. suc n) r ≡ None → r ≡ None
none_rest None e = refl
none_rest (Some m) e = cc

none_step : (b : Bool) (r : Option ℕ) → cond b (Some 1) (option_map (λ n. suc n) r) ≡ None → (b ≡ false) × (r ≡ None)
none_step true r e = cc
none_step false r e = (refl, none_rest r e)

pub open_more : (line : List ℕ) (x : ℕ) → line_len line ≡ None → (x == 10) ≡ false → line_len (line ++ x ∷ []) ≡ None
open_more [] x none other = rw other refl
open_more (y ∷ line) x none other =
    let h : ((y == 10) ≡ false) × (line_len line ≡ None) = none_step (y == 10) (line_len line) none in
    rw (h.0, open_more line x h.1 other) refl

-- a newline ends it
pub ended_more : (line : List ℕ) (x : ℕ) (rest : List ℕ) → line_len line ≡ None → (x == 10) ≡ true → line_len (line ++ x ∷ rest) ≡ Some (suc (length line))
ended_more [] x rest none end = rw end refl
ended_more (y ∷ line) x rest none end =
    let h : ((y == 10) ≡ false) × (line_len line ≡ None) = none_step (y == 10) (line_len line) none in
    rw (h.0, ended_more line x rest h.1 end) refl

take_line : (line : List ℕ) (x : ℕ) (rest : List ℕ) → take (suc (length line)) (line ++ x ∷ rest) ≡ line ++ x ∷ []
take_line [] x rest = refl
take_line (y ∷ line) x rest = ap (λ (ys : List ℕ). y ∷ ys) (take_line line x rest)

drop_line : (line : List ℕ) (x : ℕ) (rest : List ℕ) → drop (suc (length line)) (line ++ x ∷ rest) ≡ rest
drop_line [] x rest = refl
drop_line (y ∷ line) x rest = drop_line line x rest

pub line_length : (line : List ℕ) (x : ℕ) → length (line ++ x ∷ []) ≡ suc (length line)
line_length [] x = refl
line_length (y ∷ line) x = ap (λ (n : ℕ). suc n) (line_length line x)

-- the messages of a text whose first line ends with this byte
pub messages_ended : (begin : ℕ) (line : List ℕ) (x : ℕ) (rest : List ℕ) → line_len line ≡ None → (x == 10) ≡ true
    → messages_of begin (line ++ x ∷ rest) ≡ placed_at begin (length (line ++ x ∷ [])) (message_of (line ++ x ∷ [])) ++ messages_of (begin + length (line ++ x ∷ [])) rest
messages_ended begin line x rest none end =
    messages_of_first begin (line ++ x ∷ rest) (suc (length line)) (ended_more line x rest none end)
    ∙ rw (take_line line x rest, drop_line line x rest, line_length line x) refl

-- a sequencer follows on another one, by these messages
pub record Follows (s t : Machine) (ps : List Placed) : Type 0 where
  pub until : t.until ≡ s.until
  pub parts : t.parts ≡ parts_after_all s.until s.parts ps
  pub released : t.released ≡ s.released ++ releases_of_all s.until s.parts ps
  pub still_open : line_len t.line ≡ None

follows_message : (o : Option Message) (s t : Machine) (len : ℕ) (ps : List Placed) → Follows (after_message o s len) t ps → Follows s t (placed_at s.begin len o ++ ps)
follows_message None s t len ps f = record { until = f.until; parts = f.parts; released = f.released; still_open = f.still_open }
follows_message (Some m) s t len ps f =
    let p : Placed = record { begin = s.begin; end = s.begin + len; message = m } in
    record { until = f.until; parts = f.parts; released = f.released ∙ append_assoc s.released (releases s.until s.parts p) (releases_of_all s.until (parts_after s.until s.parts p) ps); still_open = f.still_open }

begin_message : (o : Option Message) (s : Machine) (len : ℕ) → (after_message o s len).begin ≡ s.begin + len
begin_message None s len = refl
begin_message (Some m) s len = refl

line_message : (o : Option Message) (s : Machine) (len : ℕ) → (after_message o s len).line ≡ []
line_message None s len = refl
line_message (Some m) s len = refl

abbrev FollowsText : Machine → Machine → List ℕ → Type 0
FollowsText s t text = Follows s t (messages_of s.begin (s.line ++ text))

text_step : (b : Bool) (x : ℕ) (xs : List ℕ) (s : Machine) → (x == 10) ≡ b → line_len s.line ≡ None
    → ((u : Machine) → line_len u.line ≡ None → FollowsText u (fed u xs) xs)
    → FollowsText s (fed (cond b (after_line s (s.line ++ x ∷ [])) (record s { line = s.line ++ x ∷ [] })) xs) (x ∷ xs)
text_step true x xs s test none ih =
    let whole : List ℕ = s.line ++ x ∷ [] in
    let o : Option Message = message_of whole in
    let u : Machine = after_message o s (length whole) in
    let empty : u.line ≡ [] = line_message o s (length whole) in
    let begin : u.begin ≡ s.begin + length whole = begin_message o s (length whole) in
    let more : Follows u (fed u xs) (messages_of u.begin (u.line ++ xs)) = ih u (ap (λ (l : List ℕ). line_len l) empty) in
    let same : messages_of u.begin (u.line ++ xs) ≡ messages_of (s.begin + length whole) xs = rw (empty, begin) refl in
    let P : List Placed → Type 0 = λ ps. Follows u (fed u xs) ps in
    let Q : List Placed → Type 0 = λ ps. Follows s (fed u xs) ps in
    subst Q (sym (messages_ended s.begin s.line x xs none test)) (follows_message o s (fed u xs) (length whole) (messages_of (s.begin + length whole) xs) (subst P same more))
text_step false x xs s test none ih =
    let u : Machine = record s { line = s.line ++ x ∷ [] } in
    let more : Follows u (fed u xs) (messages_of s.begin ((s.line ++ x ∷ []) ++ xs)) = ih u (open_more s.line x none test) in
    let P : List ℕ → Type 0 = λ text. Follows s (fed u xs) (messages_of s.begin text) in
    subst P (append_assoc s.line (x ∷ []) xs) (record { until = more.until; parts = more.parts; released = more.released; still_open = more.still_open })

-- a text has the effect of its messages
pub fed_follows : (text : List ℕ) (s : Machine) → line_len s.line ≡ None → Follows s (fed s text) (messages_of s.begin (s.line ++ text))
fed_follows [] s none =
    let P : List Placed → Type 0 = λ ps. Follows s s ps in
    subst P (sym (no_messages s.begin (s.line ++ []) (ap (λ (l : List ℕ). line_len l) (append-nil s.line) ∙ none)))
    (record { until = refl; parts = refl; released = sym (append-nil s.released); still_open = none })
fed_follows (x ∷ xs) s none = text_step (x == 10) x xs s refl none (λ u h. fed_follows xs u h)
