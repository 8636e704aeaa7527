-- Lines, from their start.
use Rattle.std.proofs.Common.{◌≡◌, ℕ, suc, ◌≤◌, ◌==◌, List, [], ◌∷◌, ◌++◌, length, take, drop, refl, cond, Bool, true, false, Option, Some, None, option_map, arith}
use Rattle.gz_model.specs.Lines.{lines_of, onto, line_len}

abbrev Splits : List ℕ → List ℕ → ℕ → Type 0
Splits xs ys n = lines_of (xs ++ ys) ≡ take n xs ∷ lines_of (drop n xs ++ ys)

whole_rest : (r : Option ℕ) (x : ℕ) (xs ys : List ℕ) (n : ℕ) → option_map (λ n. suc n) r ≡ Some n → ((m : ℕ) → r ≡ Some m → Splits xs ys m)
    → onto x (lines_of (xs ++ ys)) ≡ take n (x ∷ xs) ∷ lines_of (drop n (x ∷ xs) ++ ys)
whole_rest None x xs ys n e ih = cc
whole_rest (Some m) x xs ys n e ih = let k : suc m ≡ n = cc in rw (← k, ih m refl) refl

whole_step : (b : Bool) (x : ℕ) (xs ys : List ℕ) (n : ℕ) → cond b (Some 1) (option_map (λ n. suc n) (line_len xs)) ≡ Some n → ((m : ℕ) → line_len xs ≡ Some m → Splits xs ys m)
    → cond b ((x ∷ []) ∷ lines_of (xs ++ ys)) (onto x (lines_of (xs ++ ys))) ≡ take n (x ∷ xs) ∷ lines_of (drop n (x ∷ xs) ++ ys)
whole_step true x xs ys n e ih = let k : 1 ≡ n = cc in rw (← k) refl
whole_step false x xs ys n e ih = whole_rest (line_len xs) x xs ys n e ih

-- a whole line at the start is the first one, whatever follows
pub lines_of-whole : (xs ys : List ℕ) (n : ℕ) → line_len xs ≡ Some n → Splits xs ys n
lines_of-whole [] ys n e = cc
lines_of-whole (x ∷ xs) ys n e = whole_step (x == 10) x xs ys n e (λ m. lines_of-whole xs ys m)

-- it is within the bytes
within_rest : (r : Option ℕ) (len n : ℕ) → option_map (λ n. suc n) r ≡ Some n → ((m : ℕ) → r ≡ Some m → m ≤ len) → n ≤ suc len
within_rest None len n e ih = cc
within_rest (Some m) len n e ih = let k : suc m ≡ n = cc in let h : m ≤ len = ih m refl in omega arith

within_step : (b : Bool) (xs : List ℕ) (n : ℕ) → cond b (Some 1) (option_map (λ n. suc n) (line_len xs)) ≡ Some n → ((m : ℕ) → line_len xs ≡ Some m → m ≤ length xs) → n ≤ suc (length xs)
within_step true xs n e ih = let k : 1 ≡ n = cc in omega arith
within_step false xs n e ih = within_rest (line_len xs) (length xs) n e ih

pub line_len_within : (xs : List ℕ) (n : ℕ) → line_len xs ≡ Some n → n ≤ length xs
line_len_within [] n e = cc
line_len_within (x ∷ xs) n e = within_step (x == 10) xs n e (λ m. line_len_within xs m)

onto_begins : (x : ℕ) (ls : List (List ℕ)) (n : ℕ) → ((line : List ℕ) × (lines : List (List ℕ)) × (ls ≡ line ∷ lines) × (n ≤ length line)) → (line : List ℕ) × (lines : List (List ℕ)) × (onto x ls ≡ line ∷ lines) × (suc n ≤ length line)
onto_begins x ls n h = (x ∷ h.0, h.1, rw h.2 refl, omega (arith, h.3))

abbrev pub Begins : List ℕ → List ℕ → Type 0
Begins xs ys = (line : List ℕ) × (lines : List (List ℕ)) × (lines_of (xs ++ ys) ≡ line ∷ lines) × (length xs ≤ length line)

begins_one : (x : ℕ) (ls : List (List ℕ)) → (line : List ℕ) × (lines : List (List ℕ)) × (onto x ls ≡ line ∷ lines) × (1 ≤ length line)
begins_one x [] = (x ∷ [], [], refl, omega arith)
begins_one x (l ∷ ls) = (x ∷ l, ls, refl, omega arith)

begins_here : (b : Bool) (x : ℕ) (ls : List (List ℕ)) → (line : List ℕ) × (lines : List (List ℕ)) × (cond b ((x ∷ []) ∷ ls) (onto x ls) ≡ line ∷ lines) × (1 ≤ length line)
begins_here true x ls = (x ∷ [], ls, refl, omega arith)
begins_here false x ls = begins_one x ls

either_way : (b : Bool) (x : ℕ) → cond b ((x ∷ []) ∷ []) ((x ∷ []) ∷ []) ≡ (x ∷ []) ∷ []
either_way true x = refl
either_way false x = refl

begins_step : (b : Bool) (r : Option ℕ) (x : ℕ) (ls : List (List ℕ)) (n : ℕ) → cond b (Some 1) (option_map (λ n. suc n) r) ≡ None → (r ≡ None → (line : List ℕ) × (lines : List (List ℕ)) × (ls ≡ line ∷ lines) × (n ≤ length line))
    → (line : List ℕ) × (lines : List (List ℕ)) × (cond b ((x ∷ []) ∷ ls) (onto x ls) ≡ line ∷ lines) × (suc n ≤ length line)
begins_step true r x ls n e ih = cc
begins_step false None x ls n e ih = onto_begins x ls n (ih refl)
begins_step false (Some m) x ls n e ih = cc

-- the bytes, of which there is one, have no newline
pub lines_of-begins : (x : ℕ) (xs ys : List ℕ) → line_len (x ∷ xs) ≡ None → Begins (x ∷ xs) ys
lines_of-begins x [] ys e = begins_here (x == 10) x (lines_of ys)
lines_of-begins x (y ∷ xs) ys e = begins_step (x == 10) (line_len (y ∷ xs)) x (lines_of ((y ∷ xs) ++ ys)) (length (y ∷ xs)) e (λ f. lines_of-begins y xs ys f)

-- and nothing follows
last_step : (b : Bool) (r : Option ℕ) (x : ℕ) (xs : List ℕ) (ls : List (List ℕ)) → cond b (Some 1) (option_map (λ n. suc n) r) ≡ None → (r ≡ None → ls ≡ xs ∷ []) → cond b ((x ∷ []) ∷ ls) (onto x ls) ≡ (x ∷ xs) ∷ []
last_step true r x xs ls e ih = cc
last_step false None x xs ls e ih = rw (ih refl) refl
last_step false (Some m) x xs ls e ih = cc

pub lines_of-last : (x : ℕ) (xs : List ℕ) → line_len (x ∷ xs) ≡ None → lines_of (x ∷ xs) ≡ (x ∷ xs) ∷ []
lines_of-last x [] e = either_way (x == 10) x
lines_of-last x (y ∷ xs) e = last_step (x == 10) (line_len (y ∷ xs)) x (y ∷ xs) (lines_of (y ∷ xs)) e (λ f. lines_of-last y xs f)
