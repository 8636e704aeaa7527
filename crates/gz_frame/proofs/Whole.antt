-- Messages of joined texts.
use Rattle.std.proofs.Common.{◌≡◌, ℕ, ◌+◌, ◌==◌, List, [], ◌∷◌, ◌++◌, length, refl, sym, ◌∙◌, ap, Bool, true, false, cond, Option, Some, None, option_map, suc, take, drop, subst, ◌≤◌, nat_le, append_assoc, append-nil, arith}
use Rattle.std.proofs.lemmas.Grind.{common_steps}
use Rattle.gz_model.specs.Lines.{newline, lines_of, onto, line_len}
use Rattle.gz_model.specs.Prefix.{IsPrefix}
use Rattle.gz_frame.specs.Text.{message_of, placed_at, messages_in, messages_of, last_of, is_whole, content_of, ended_by, max_line}

-- how many bytes lines have
abbrev pub bytes_in : List (List ℕ) → ℕ
bytes_in [] = 0
bytes_in (line ∷ lines) = length line + bytes_in lines

some_inj : {A : Type 0} {x y : A} → Some x ≡ Some y → x ≡ y
some_inj same = cc

none_some : {A : Type 0} {x : A} → let o : Option A = None in o ≡ Some x → ⊥
none_some same = cc

both_none : {A : Type 0} (b : Bool) → let o : Option A = None in cond b o o ≡ o
both_none true = refl
both_none false = refl

length-take-within : (n : ℕ) (xs : List ℕ) → n ≤ length xs → length (take n xs) ≡ n
length-take-within n xs within = grind (arith, common_steps)

no_more : (at : ℕ) → at ≡ at + 0
no_more at = omega arith

moved : (a b c : ℕ) → a + b + c ≡ a + (b + c)
moved a b c = omega arith

pub messages_in_append : (at : ℕ) (prefix back : List (List ℕ)) →
    messages_in at (prefix ++ back) ≡ messages_in at prefix ++ messages_in (at + bytes_in prefix) back
messages_in_append at [] back = ap (λ n. messages_in n back) (no_more at)
messages_in_append at (line ∷ lines) back =
    ap (λ ms. placed_at at (length line) (message_of line) ++ ms) (messages_in_append (at + length line) lines back)
    ∙ sym (append_assoc (placed_at at (length line) (message_of line)) (messages_in (at + length line) lines) _)
    ∙ ap (λ n. placed_at at (length line) (message_of line) ++ messages_in (at + length line) lines ++ messages_in n back) (moved at (length line) (bytes_in lines))

-- ---- lines of joined texts

onto_append : (b : ℕ) (c : ℕ) (here : Bool) (ls : List (List ℕ)) (back : List (List ℕ)) →
    onto b (cond here ((c ∷ []) ∷ ls) (onto c ls) ++ back) ≡ onto b (cond here ((c ∷ []) ∷ ls) (onto c ls)) ++ back
onto_append b c true ls back = refl
onto_append b c false [] back = refl
onto_append b c false (l ∷ ls) back = refl

step : (b c : ℕ) (here there : Bool) (ls both back : List (List ℕ)) → both ≡ cond there ((c ∷ []) ∷ ls) (onto c ls) ++ back →
    cond here ((b ∷ []) ∷ both) (onto b both) ≡ cond here ((b ∷ []) ∷ cond there ((c ∷ []) ∷ ls) (onto c ls)) (onto b (cond there ((c ∷ []) ∷ ls) (onto c ls))) ++ back
step b c true there ls both back same = ap (λ x. (b ∷ []) ∷ x) same
step b c false there ls both back same = ap (λ x. onto b x) same ∙ onto_append b c there ls back

lines_append : (b : ℕ) (bs back : List ℕ) → (last_of b bs == newline) ≡ true →
    lines_of (b ∷ (bs ++ back)) ≡ lines_of (b ∷ bs) ++ lines_of back
lines_append b [] back ends = rw ends refl
lines_append b (c ∷ cs) back ends = step b c (b == newline) (c == newline) (lines_of cs) (lines_of (c ∷ (cs ++ back))) (lines_of back) (lines_append c cs back ends)

pub lines_of_append : (prefix back : List ℕ) → is_whole prefix ≡ true → lines_of (prefix ++ back) ≡ lines_of prefix ++ lines_of back
lines_of_append [] back whole = refl
lines_of_append (b ∷ bs) back whole = lines_append b bs back whole

bytes_onto : (b : ℕ) (ls : List (List ℕ)) → bytes_in (onto b ls) ≡ 1 + bytes_in ls
bytes_onto b [] = refl
bytes_onto b (l ∷ ls) = grind (arith, common_steps)

bytes_step : (b : ℕ) (here : Bool) (ls : List (List ℕ)) → bytes_in (cond here ((b ∷ []) ∷ ls) (onto b ls)) ≡ 1 + bytes_in ls
bytes_step b true ls = refl
bytes_step b false ls = bytes_onto b ls

more_length : (b : ℕ) (bs : List ℕ) (n : ℕ) → n ≡ length bs → 1 + n ≡ length (b ∷ bs)
more_length b bs n same = grind (arith, common_steps)

pub bytes_of_lines : (text : List ℕ) → bytes_in (lines_of text) ≡ length text
bytes_of_lines [] = refl
bytes_of_lines (b ∷ bs) = bytes_step b (b == newline) (lines_of bs) ∙ more_length b bs _ (bytes_of_lines bs)

-- the messages of a text of whole lines, and those of what follows
pub messages_joined : (at : ℕ) (prefix back : List ℕ) → is_whole prefix ≡ true →
    messages_of at (prefix ++ back) ≡ messages_of at prefix ++ messages_of (at + length prefix) back
unfolding messages_of
messages_joined at prefix back whole =
    ap (λ ls. messages_in at ls) (lines_of_append prefix back whole)
    ∙ messages_in_append at (lines_of prefix) (lines_of back)
    ∙ ap (λ n. messages_in at (lines_of prefix) ++ messages_in (at + n) (lines_of back)) (bytes_of_lines prefix)

-- ---- the first line of a text

first_step : (b : ℕ) (bs : List ℕ) (here : Bool) (o : Option ℕ) (n : ℕ) →
    ((k : ℕ) → o ≡ Some k → lines_of bs ≡ take k bs ∷ lines_of (drop k bs)) →
    cond here (Some 1) (option_map (λ k. suc k) o) ≡ Some n →
    cond here ((b ∷ []) ∷ lines_of bs) (onto b (lines_of bs)) ≡ take n (b ∷ bs) ∷ lines_of (drop n (b ∷ bs))
first_step b bs true o n rest found = rw (← some_inj found) refl
first_step b bs false None n rest found = absurd (none_some found)
first_step b bs false (Some k) n rest found = rw (← some_inj found, rest k refl) refl

pub first_line : (text : List ℕ) (n : ℕ) → line_len text ≡ Some n → lines_of text ≡ take n text ∷ lines_of (drop n text)
first_line [] n found = absurd (none_some found)
first_line (b ∷ bs) n found = first_step b bs (b == newline) (line_len bs) n (first_line bs) found

first_length : (b : ℕ) (bs : List ℕ) (here : Bool) (o : Option ℕ) (n : ℕ) →
    ((k : ℕ) → o ≡ Some k → k ≤ length bs) → cond here (Some 1) (option_map (λ k. suc k) o) ≡ Some n → n ≤ length (b ∷ bs)
first_length b bs true o n rest found = rw (← some_inj found) (omega arith)
first_length b bs false None n rest found = absurd (none_some found)
first_length b bs false (Some k) n rest found = let short = rest k refl in rw (← some_inj found) (omega arith)

pub within_text : (text : List ℕ) (n : ℕ) → line_len text ≡ Some n → n ≤ length text
within_text [] n found = absurd (none_some found)
within_text (b ∷ bs) n found = first_length b bs (b == newline) (line_len bs) n (within_text bs) found

-- the message of the first line, if it is one, and those behind that line
pub messages_of_first : (at : ℕ) (text : List ℕ) (n : ℕ) → line_len text ≡ Some n →
    messages_of at text ≡ placed_at at n (message_of (take n text)) ++ messages_of (at + n) (drop n text)
unfolding messages_of
messages_of_first at text n found =
    ap (λ ls. messages_in at ls) (first_line text n found)
    ∙ ap (λ len. placed_at at len (message_of (take n text)) ++ messages_in (at + len) (lines_of (drop n text))) (length-take-within n text (within_text text n found))

-- ---- a text without a newline

no_line_step : (b : ℕ) (bs : List ℕ) (here : Bool) (o : Option ℕ) →
    (o ≡ None → content_of bs ≡ None) → cond here (Some 1) (option_map (λ k. suc k) o) ≡ None →
    cond here (ended_by bs) (option_map (λ content. b ∷ content) (content_of bs)) ≡ None
no_line_step b bs true o rest none = absurd (none_some (sym none))
no_line_step b bs false None rest none = rw (rest refl) refl
no_line_step b bs false (Some k) rest none = absurd (none_some (sym none))

pub no_content : (text : List ℕ) → line_len text ≡ None → content_of text ≡ None
no_content [] none = refl
no_content (b ∷ bs) none = no_line_step b bs (b == newline) (line_len bs) (no_content bs) none

pub no_message : (text : List ℕ) → line_len text ≡ None → message_of text ≡ None
unfolding message_of
no_message text none = rw (no_content text none) (both_none (nat_le (length text) max_line))

only_step : (b : ℕ) (bs : List ℕ) (here : Bool) (o : Option ℕ) →
    (o ≡ None → onto b (lines_of bs) ≡ (b ∷ bs) ∷ []) → cond here (Some 1) (option_map (λ k. suc k) o) ≡ None →
    cond here ((b ∷ []) ∷ lines_of bs) (onto b (lines_of bs)) ≡ (b ∷ bs) ∷ []
only_step b bs true o rest none = absurd (none_some (sym none))
only_step b bs false None rest none = rest refl
only_step b bs false (Some k) rest none = absurd (none_some (sym none))

only_onto : (b : ℕ) (bs : List ℕ) → line_len bs ≡ None → onto b (lines_of bs) ≡ (b ∷ bs) ∷ []
only_onto b [] none = refl
only_onto b (c ∷ cs) none = ap (λ ls. onto b ls) (only_step c cs (c == newline) (line_len cs) (only_onto c cs) none)

pub only_line : (b : ℕ) (bs : List ℕ) → line_len (b ∷ bs) ≡ None → lines_of (b ∷ bs) ≡ (b ∷ bs) ∷ []
only_line b bs none = only_step b bs (b == newline) (line_len bs) (only_onto b bs) none

pub no_messages : (at : ℕ) (text : List ℕ) → line_len text ≡ None → messages_of at text ≡ []
unfolding messages_of
no_messages at [] none = refl
no_messages at (b ∷ bs) none = rw (only_line b bs none, no_message (b ∷ bs) none) refl

-- ---- each text is whole lines and a rest without a newline

pub record Split (text : List ℕ) : Type 0 where
  pub whole : List ℕ
  pub rest : List ℕ
  pub joined : whole ++ rest ≡ text
  pub lines : is_whole whole ≡ true
  pub open_end : line_len rest ≡ None

split_step : (b : ℕ) (here : Bool) → (b == newline) ≡ here → (bs whole rest : List ℕ) → whole ++ rest ≡ bs → is_whole whole ≡ true → line_len rest ≡ None → Split (b ∷ bs)
split_step b here test bs (c ∷ cs) rest joined lines none =
    record { whole = b ∷ c ∷ cs; rest = rest; joined = ap (λ xs. b ∷ xs) joined; lines = lines; open_end = none }
split_step b true test bs [] rest joined lines none =
    record { whole = b ∷ []; rest = rest; joined = ap (λ xs. b ∷ xs) joined; lines = test; open_end = none }
split_step b false test bs [] rest joined lines none =
    record { whole = []; rest = b ∷ rest; joined = ap (λ xs. b ∷ xs) joined; lines = refl; open_end = rw (test, none) refl }

pub split_of : (text : List ℕ) → Split text
split_of [] = record { whole = []; rest = []; joined = refl; lines = refl; open_end = refl }
split_of (b ∷ bs) = let s = split_of bs in split_step b (b == newline) refl bs s.whole s.rest s.joined s.lines s.open_end

prefix_from : (at : ℕ) (whole rest back : List ℕ) → is_whole whole ≡ true → line_len rest ≡ None →
    IsPrefix (messages_of at (whole ++ rest)) (messages_of at (whole ++ rest ++ back))
prefix_from at whole rest back lines none = (
  messages_of (at + length whole) (rest ++ back),
  ap (λ ms. ms ++ messages_of (at + length whole) (rest ++ back))
      (messages_joined at whole rest lines ∙ ap (λ ms. messages_of at whole ++ ms) (no_messages (at + length whole) rest none) ∙ append-nil (messages_of at whole))
      ∙ sym (messages_joined at whole (rest ++ back) lines)
      ∙ ap (λ text. messages_of at text) (sym (append_assoc whole rest back)),
)

-- the messages of a prefix of a text are a prefix of its messages
pub messages_prefix : (at : ℕ) (prefix back : List ℕ) → IsPrefix (messages_of at prefix) (messages_of at (prefix ++ back))
messages_prefix at prefix back =
    let s = split_of prefix in
    let P : List ℕ → Type 0 = λ text. IsPrefix (messages_of at text) (messages_of at (text ++ back)) in
    subst P s.joined (prefix_from at s.whole s.rest back s.lines s.open_end)
