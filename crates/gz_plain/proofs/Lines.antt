-- Lines that messages are, and the text that they give.
use Rattle.std.proofs.Common.{◌≡◌, ℕ, ◌+◌, ◌==◌, List, [], ◌∷◌, length, refl, ap, ◌∙◌, Bool, true, false, cond, Option, Some, None, option_map, nat_le}
use Rattle.std.specs.Prelude.{option_and_then}
use Rattle.gz_model.specs.Lines.{newline, lines_of, onto}
use Rattle.gz_frame.specs.Messages.{Message}
use Rattle.gz_frame.specs.Line.{line_of}
use Rattle.gz_frame.specs.Text.{Placed, message_of, message_read, messages_of, content_of, ended_by, is_whole, last_of, max_line}
use Rattle.std.proofs.lemmas.List.{map-append}
use Rattle.gz_frame.proofs.Whole.{messages_joined}
use Rattle.gz_sequencer.specs.Committed.{messages_alone}
use Rattle.gz_plain.specs.Shards.{text_of_lines}
use Rattle.gz_plain.specs.Runs.{IsLine}
use Rattle.gz_sequencer.proofs.Produced.{Each}
use Rattle.gz_plain.proofs.Growth.{whole_two}

some_none : {A : Type 0} {x : A} → let o : Option A = None in o ≡ Some x → ⊥
some_none same = cc

-- ---- one line

one_step : (b : ℕ) (bs : List ℕ) (here : Bool) (o : Option (List ℕ)) (content : List ℕ) → ((c : List ℕ) → o ≡ Some c → lines_of bs ≡ bs ∷ [])
    → cond here (ended_by bs) (option_map (λ c. b ∷ c) o) ≡ Some content → cond here ((b ∷ []) ∷ lines_of bs) (onto b (lines_of bs)) ≡ (b ∷ bs) ∷ []
one_step b [] true o content rest is = refl
one_step b (x ∷ xs) true o content rest is = absurd (some_none is)
one_step b bs false None content rest is = absurd (some_none is)
one_step b bs false (Some c) content rest is = rw (rest c refl) refl

-- a line with a content before its newline is one line
pub one_line : (line content : List ℕ) → content_of line ≡ Some content → lines_of line ≡ line ∷ []
one_line [] content is = absurd (some_none is)
one_line (b ∷ bs) content is = one_step b bs (b == newline) (content_of bs) content (λ c has. one_line bs c has) is

whole_step : (b : ℕ) (bs : List ℕ) (here : Bool) (o : Option (List ℕ)) (content : List ℕ) → (b == newline) ≡ here
    → ((c : List ℕ) → o ≡ Some c → (last_of b bs == newline) ≡ true) → cond here (ended_by bs) (option_map (λ c. b ∷ c) o) ≡ Some content → (last_of b bs == newline) ≡ true
whole_step b [] true o content test rest is = test
whole_step b (x ∷ xs) true o content test rest is = absurd (some_none is)
whole_step b bs false None content test rest is = absurd (some_none is)
whole_step b bs false (Some c) content test rest is = rest c refl

whole_line : (before : ℕ) (line content : List ℕ) → content_of line ≡ Some content → (last_of before line == newline) ≡ true
whole_line before [] content is = absurd (some_none is)
whole_line before (b ∷ bs) content is = whole_step b bs (b == newline) (content_of bs) content refl (λ c has. whole_line b bs c has) is

content_step : (t : Bool) (o : Option (List ℕ)) (m : Message) → cond t (option_and_then message_read o) None ≡ Some m → (c : List ℕ) × (o ≡ Some c)
content_step false o m is = absurd (some_none is)
content_step true None m is = absurd (some_none is)
content_step true (Some c) m is = (c, refl)

-- a line that is read as a message has a content
has_content : (line : List ℕ) (m : Message) → message_of line ≡ Some m → (c : List ℕ) × (content_of line ≡ Some c)
unfolding message_of
has_content line m is = content_step (nat_le (length line) max_line) (content_of line) m is

-- ---- the text of lines

line_whole : (m : Message) → IsLine m → is_whole (line_of m) ≡ true
line_whole m is = let c = has_content (line_of m) m is in whole_line newline (line_of m) c.0 c.1

line_read : (at : ℕ) (m : Message) → IsLine m → messages_alone (messages_of at (line_of m)) ≡ m ∷ []
unfolding messages_of
line_read at m is = let c = has_content (line_of m) m is in rw (one_line (line_of m) c.0 c.1, is) refl

pub lines_whole : (ms : List Message) → Each IsLine ms → is_whole (text_of_lines ms) ≡ true
lines_whole [] each = refl
lines_whole (m ∷ ms) each = whole_two (line_of m) (text_of_lines ms) (line_whole m each.0) (lines_whole ms each.1)

no_text : (at : ℕ) → messages_of at [] ≡ []
unfolding messages_of
no_text at = refl

pub lines_read : (at : ℕ) (ms : List Message) → Each IsLine ms → messages_alone (messages_of at (text_of_lines ms)) ≡ ms
lines_read at [] each = rw (no_text at) refl
lines_read at (m ∷ ms) each =
    let next : ℕ = at + length (line_of m) in
    ap (λ (ps : List Placed). messages_alone ps) (messages_joined at (line_of m) (text_of_lines ms) (line_whole m each.0))
    ∙ map-append (λ p. p.message) (messages_of at (line_of m)) (messages_of next (text_of_lines ms))
    ∙ rw (line_read at m each.0, lines_read next ms each.1) refl
