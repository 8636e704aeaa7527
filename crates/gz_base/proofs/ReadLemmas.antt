-- A block that is read behind bytes in which no line ends.
use Rattle.std.proofs.Common.{◌≡◌, ℕ, ◌+◌, ◌<◌, take, List, [], ◌∷◌, ◌++◌, length, drop, refl, ap, ◌∙◌, append_assoc, Option, Some, None, option_map, arith, length-append, cond, Bool, true, false, ◌==◌, suc}
use Rattle.std.proofs.lemmas.List.{drop_at, append-nil}
use Rattle.std.specs.Io.KnownBytes.{Keeps, Consumes, IsAtEnd}
use Rattle.gz_model.specs.Lines.{line_len, IsSearched}
use Rattle.gz_model.specs.Told.{ahead, ReadsMore, TakesLine}
use Rattle.gz_base.proofs.ToldLemmas.{takes_last}

-- what is ahead stays, where bytes move from what is left to what was read
keeps_read : (old left rest : Option (List ℕ)) (unread now bytes : List ℕ) → Keeps old (ahead unread left) → now ≡ unread ++ bytes → Consumes left rest bytes → Keeps old (ahead now rest)
keeps_read None left rest unread now bytes same grows taken = tt
keeps_read (Some old) None rest unread now bytes same grows taken = elim same [ ]
keeps_read (Some old) (Some left) None unread now bytes same grows taken = elim taken [ ]
keeps_read (Some old) (Some left) (Some rest) unread now bytes same grows taken = rw (grows, ← same, taken) (append_assoc unread bytes rest)

pub keeps_more : (old left rest : Option (List ℕ)) (n : ℕ) (unread now : List ℕ) → Keeps old (ahead unread left) → ReadsMore n unread now left rest → Keeps old (ahead now rest)
keeps_more old left rest n unread now same more = keeps_read old left rest unread now more.0 same more.2 more.3

none_inside : (b : Bool) (r : Option ℕ) → cond b (Some 1) (option_map (λ k. suc k) r) ≡ None → r ≡ None
none_inside true r none = cc
none_inside false None none = refl
none_inside false (Some k) none = cc

none_false : (b : Bool) (r : Option ℕ) → cond b (Some 1) (option_map (λ k. suc k) r) ≡ None → b ≡ false
none_false true r none = cc
none_false false r none = refl

map_suc : (r : Option ℕ) (n : ℕ) → option_map (λ k. suc k) (option_map (λ k. n + k) r) ≡ option_map (λ k. suc n + k) r
map_suc None n = refl
map_suc (Some k) n = let e : suc (n + k) ≡ suc n + k = omega arith in rw e

map_zero : (r : Option ℕ) → r ≡ option_map (λ k. 0 + k) r
map_zero None = refl
map_zero (Some k) = let e : k ≡ 0 + k = omega arith in ap (λ n. Some n) e

-- no line ends within the bytes, so what follows them is searched next
pub searched_all : (xs ys : List ℕ) → line_len xs ≡ None → line_len (xs ++ ys) ≡ option_map (λ k. length xs + k) (line_len ys)
searched_all [] ys none = map_zero (line_len ys)
searched_all (x ∷ xs) ys none =
    rw (none_false (x == 10) (line_len xs) none, searched_all xs ys (none_inside (x == 10) (line_len xs) none)) (map_suc (line_len ys) (length xs))

pub searched_more : (left rest : Option (List ℕ)) (n m : ℕ) (unread now : List ℕ) → line_len unread ≡ None → length unread ≡ m → ReadsMore n unread now left rest → IsSearched m now
searched_more left rest n m unread now none size more =
    rw (more.2, ← size, drop_at unread more.0 (length unread) refl) (searched_all unread more.0 none)

pub length_more : (left rest : Option (List ℕ)) (n : ℕ) (unread now : List ℕ) → ReadsMore n unread now left rest → length now ≡ length unread + n
length_more left rest n unread now more = rw (more.2, length-append unread more.0, more.1) refl

no_items : (xs : List ℕ) → length xs ≡ 0 → xs ≡ []
no_items [] none = refl
no_items (x ∷ xs) none = absurd (omega arith)

-- at the end of the input all that was read is the last line
pub last_line : (old left rest : Option (List ℕ)) (n m : ℕ) (unread now line after : List ℕ) → Keeps old (ahead unread left) → ReadsMore n unread now left rest → n ≡ 0 → IsAtEnd rest → line_len unread ≡ None → length unread ≡ m → (m ≡ 0 → ⊥)
    → line ≡ take m now → after ≡ drop m now → TakesLine old (ahead after rest) line
last_line old left rest n m unread now line after same more zero end none size some is goes =
    let empty : more.0 ≡ [] = no_items more.0 (more.1 ∙ zero) in
    let stays : now ≡ unread = rw empty at more.2 ∙ append-nil unread in
    let taken = rw empty at more.3 in
    let positive : 0 < length unread = omega (arith, rw (← size) at some) in
    takes_last old left rest unread line after same taken end none positive (rw (stays, ← size) at is) (rw (stays, ← size) at goes)
