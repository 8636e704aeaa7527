-- Bytes, piece by piece and line by line.
use Rattle.std.proofs.Common.{◌≡◌, ℕ, suc, ◌+◌, ◌-◌, ◌<◌, ◌≤◌, ◌==◌, List, [], ◌∷◌, ◌++◌, length, take, drop, refl, ap, sym, ◌∙◌, Bool, true, false, cond, Option, Some, None, option_map, arith, append_assoc}
use Rattle.std.proofs.lemmas.Grind.{common_steps}
use Rattle.std.proofs.lemmas.List.{append-nil, length-append, length-drop, take-append-drop}
use Rattle.gz_model.specs.Lines.{line_len}
use Rattle.gz_frame.specs.Messages.{Message}
use Rattle.gz_frame.specs.Text.{message_of}
use Rattle.gz_sequencer.specs.Machine.{Machine, at, after_message, after_line, after_byte, fed}

-- the length of a first line is within the bytes, and isn't 0
within_rest : (r : Option ℕ) (len n : ℕ) → option_map (λ n. suc n) r ≡ Some n → ((m : ℕ) → r ≡ Some m → m ≤ len) → n ≤ suc len
within_rest None len n e ih = cc
within_rest (Some m) len n e ih = let k : suc m ≡ n = cc in let h : m ≤ len = ih m refl in omega arith

within_step : (b : Bool) (xs : List ℕ) (n : ℕ) → cond b (Some 1) (option_map (λ n. suc n) (line_len xs)) ≡ Some n → ((m : ℕ) → line_len xs ≡ Some m → m ≤ length xs) → n ≤ suc (length xs)
within_step true xs n e ih = let k : 1 ≡ n = cc in omega arith
within_step false xs n e ih = within_rest (line_len xs) (length xs) n e ih

pub line_len_within : (xs : List ℕ) (n : ℕ) → line_len xs ≡ Some n → n ≤ length xs
line_len_within [] n e = cc
line_len_within (x ∷ xs) n e = within_step (x == 10) xs n e (λ m. line_len_within xs m)

some_rest : (r : Option ℕ) (n : ℕ) → option_map (λ n. suc n) r ≡ Some n → 0 < n
some_rest None n e = cc
some_rest (Some m) n e = let k : suc m ≡ n = cc in omega arith

some_step : (b : Bool) (r : Option ℕ) (n : ℕ) → cond b (Some 1) (option_map (λ n. suc n) r) ≡ Some n → 0 < n
some_step true r n e = let k : 1 ≡ n = cc in omega arith
some_step false r n e = some_rest r n e

pub line_len_some : (xs : List ℕ) (n : ℕ) → line_len xs ≡ Some n → 0 < n
line_len_some [] n e = cc
line_len_some (x ∷ xs) n e = some_step (x == 10) (line_len xs) n e

-- the bytes of a first line are a whole line
whole_rest : (r : Option ℕ) (x : ℕ) (xs : List ℕ) (n : ℕ) → option_map (λ n. suc n) r ≡ Some n → ((m : ℕ) → r ≡ Some m → line_len (take m xs) ≡ Some m)
    → (x == 10) ≡ false → line_len (take n (x ∷ xs)) ≡ Some n
whole_rest None x xs n e ih other = cc
whole_rest (Some m) x xs n e ih other = let k : suc m ≡ n = cc in rw (← k) (rw (other, ih m refl) refl)

whole_step : (b : Bool) (x : ℕ) (xs : List ℕ) (n : ℕ) → b ≡ (x == 10) → cond b (Some 1) (option_map (λ n. suc n) (line_len xs)) ≡ Some n → ((m : ℕ) → line_len xs ≡ Some m → line_len (take m xs) ≡ Some m)
    → line_len (take n (x ∷ xs)) ≡ Some n
whole_step true x xs n same e ih = let k : 1 ≡ n = cc in rw (← k) (rw (← same) refl)
whole_step false x xs n same e ih = whole_rest (line_len xs) x xs n e ih (sym same)

pub line_len_whole : (xs : List ℕ) (n : ℕ) → line_len xs ≡ Some n → line_len (take n xs) ≡ Some n
line_len_whole [] n e = cc
line_len_whole (x ∷ xs) n e = whole_step (x == 10) x xs n refl e (λ m. line_len_whole xs m)

-- where the bytes are cut doesn't matter
pub fed_append : (xs ys : List ℕ) (s : Machine) → fed s (xs ++ ys) ≡ fed (fed s xs) ys
fed_append [] ys s = refl
fed_append (x ∷ xs) ys s = fed_append xs ys (after_byte s x)

-- bytes without a newline go behind the line
open_rest : (r : Option ℕ) → option_map (λ n. suc n) r ≡ None → r ≡ None
open_rest None e = refl
open_rest (Some m) e = cc

open_step : (b : Bool) (r : Option ℕ) → cond b (Some 1) (option_map (λ n. suc n) r) ≡ None → (b ≡ false) × (r ≡ None)
open_step true r e = cc
open_step false r e = (refl, open_rest r e)

pub fed_open : (xs : List ℕ) (s : Machine) → line_len xs ≡ None → fed s xs ≡ record s { line = s.line ++ xs }
fed_open [] s e = ap (λ (line : List ℕ). record s { line = line }) (sym (append-nil s.line))
fed_open (x ∷ xs) s e =
    let h : ((x == 10) ≡ false) × (line_len xs ≡ None) = open_step (x == 10) (line_len xs) e in
    rw (h.0) (fed_open xs (record s { line = s.line ++ x ∷ [] }) h.1 ∙ ap (λ (line : List ℕ). record s { line = line }) (append_assoc s.line (x ∷ []) xs))

-- a whole line ends the line
line_rest : (r : Option ℕ) (len : ℕ) → option_map (λ n. suc n) r ≡ Some (suc len) → r ≡ Some len
line_rest None len e = cc
line_rest (Some m) len e = cc

no_bytes : (xs : List ℕ) → 1 ≡ suc (length xs) → xs ≡ []
no_bytes [] e = refl
no_bytes (x ∷ xs) e = absurd (omega arith)

same_line : (o : Option Message) (s : Machine) (line : List ℕ) (len : ℕ) → after_message o (record s { line = line }) len ≡ after_message o s len
same_line None s line len = refl
same_line (Some m) s line len = refl

line_step : (b : Bool) (x : ℕ) (xs : List ℕ) (s : Machine) → cond b (Some 1) (option_map (λ n. suc n) (line_len xs)) ≡ Some (suc (length xs))
    → (line_len xs ≡ Some (length xs) → fed (record s { line = s.line ++ x ∷ [] }) xs ≡ after_line (record s { line = s.line ++ x ∷ [] }) ((s.line ++ x ∷ []) ++ xs))
    → fed (cond b (after_line s (s.line ++ x ∷ [])) (record s { line = s.line ++ x ∷ [] })) xs ≡ after_line s (s.line ++ x ∷ xs)
line_step true x xs s e ih =
    let none : xs ≡ [] = no_bytes xs (cc) in
    rw none refl
line_step false x xs s e ih = ih (line_rest (line_len xs) (length xs) e) ∙ same_line (message_of ((s.line ++ x ∷ []) ++ xs)) s (s.line ++ x ∷ []) (length ((s.line ++ x ∷ []) ++ xs)) ∙ ap (λ (line : List ℕ). after_line s line) (append_assoc s.line (x ∷ []) xs)

pub fed_line : (xs : List ℕ) (s : Machine) → line_len xs ≡ Some (length xs) → fed s xs ≡ after_line s (s.line ++ xs)
fed_line [] s e = cc
fed_line (x ∷ xs) s e = line_step (x == 10) x xs s e (λ h. fed_line xs (record s { line = s.line ++ x ∷ [] }) h)

-- the offset moves with the bytes
at_message : (o : Option Message) (s : Machine) (len : ℕ) → at (after_message o s len) ≡ s.begin + len
at_message None s len = omega arith
at_message (Some m) s len = omega arith

at_byte : (b : Bool) (s : Machine) (x : ℕ) → at (cond b (after_line s (s.line ++ x ∷ [])) (record s { line = s.line ++ x ∷ [] })) ≡ at s + 1
at_byte true s x = at_message (message_of (s.line ++ x ∷ [])) s (length (s.line ++ x ∷ [])) ∙ omega (arith, length-append s.line (x ∷ []))
at_byte false s x = omega (arith, length-append s.line (x ∷ []))

pub at_fed : (xs : List ℕ) (s : Machine) → at (fed s xs) ≡ at s + length xs
at_fed [] s = omega arith
at_fed (x ∷ xs) s = at_fed xs (after_byte s x) ∙ omega (arith, at_byte (x == 10) s x)

-- the first line of some bytes, and what is behind it
pub whole_prefix : (xs prefix : List ℕ) (n : ℕ) → Some n ≡ line_len xs → n ≤ length xs → prefix ≡ take n xs → line_len prefix ≡ Some (length prefix)
whole_prefix xs prefix n e within f =
    let len : length (take n xs) ≡ n = grind (arith, common_steps) in
    rw f (line_len_whole xs n (sym e) ∙ ap (λ (k : ℕ). Some k) (sym len))

pub fed_split : (xs prefix back : List ℕ) (n : ℕ) (s t : Machine) → prefix ≡ take n xs → back ≡ drop n xs → t ≡ fed s prefix → fed t back ≡ fed s xs
fed_split xs prefix back n s t f b e =
    let joined : prefix ++ back ≡ xs = rw (f, b) (take-append-drop n xs) in
    ap (λ (u : Machine). fed u back) e ∙ sym (fed_append prefix back s) ∙ ap (λ (ys : List ℕ). fed s ys) joined

pub at_split : (xs prefix back : List ℕ) (n : ℕ) (s t : Machine) → prefix ≡ take n xs → back ≡ drop n xs → t ≡ fed s prefix → at t + length back ≡ at s + length xs
at_split xs prefix back n s t f b e =
    let moved : at t ≡ at s + length prefix = ap (λ (u : Machine). at u) e ∙ at_fed prefix s in
    let joined : prefix ++ back ≡ xs = rw (f, b) (take-append-drop n xs) in
    let both : length prefix + length back ≡ length xs = sym (length-append prefix back) ∙ ap (λ (ys : List ℕ). length ys) joined in
    omega arith

pub smaller : (xs back : List ℕ) (n : ℕ) → Some n ≡ line_len xs → n ≤ length xs → back ≡ drop n xs → length back < length xs
smaller xs back n e within b =
    let some : 0 < n = line_len_some xs n (sym e) in
    let len : length back ≡ length xs - n = rw b (length-drop n xs) in
    omega arith
