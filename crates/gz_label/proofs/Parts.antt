-- The items of a text, one after another.
use Rattle.std.proofs.Common.{◌≡◌, ℕ, suc, ◌+◌, ◌-◌, ◌<◌, ◌≤◌, ◌==◌, List, [], ◌∷◌, ◌++◌, length, take, drop, refl, ap, sym, ◌∙◌, Bool, true, false, cond, eqb, nat_lt, nat_le, Option, Some, None, Ok, Err, arith}
use Rattle.std.proofs.lemmas.Grind.{common_steps}
use Rattle.std.proofs.lemmas.List.{length-take, length-drop}
use Rattle.std.proofs.lemmas.Bool.{ltb-true}
use Rattle.std.specs.List.{onto_first}
use Rattle.gz_label.specs.declared.name.LabelError.{LabelError}
use Rattle.gz_label.specs.declared.name.LabelError.TheVariants.{BadName, TooMany, NoMemory}
use Rattle.gz_label.specs.Outcomes.{Fails}
use Rattle.gz_label.specs.Items.{place_of, parts_of, first_bad, limited, put_all}

-- the items of what is left of a text
abbrev pub items_left : Bool → List ℕ → List (List ℕ)
items_left goes_on rest = cond goes_on (parts_of rest) []

one_more : (n : ℕ) → 1 + n ≡ suc n
one_more n = omega arith

two_more : (n : ℕ) → suc n + 1 ≡ suc (n + 1)
two_more n = omega arith

same_lt : (n k : ℕ) → nat_lt (suc n) (suc k) ≡ nat_lt n k
same_lt n k = grind (arith, common_steps)

first_lt : (k : ℕ) → nat_lt 0 (suc k) ≡ true
first_lt k = grind (arith, common_steps)

cut_more : (b : ℕ) (bs : List ℕ) (n : ℕ) → parts_of bs ≡ take n bs ∷ items_left (nat_lt n (length bs)) (drop (n + 1) bs)
    → onto_first b (parts_of bs) ≡ take (1 + n) (b ∷ bs) ∷ items_left (nat_lt (1 + n) (length (b ∷ bs))) (drop (1 + n + 1) (b ∷ bs))
cut_more b bs n is = rw (one_more n, two_more n, same_lt n (length bs), is) refl

cut_step : (comma : Bool) (b : ℕ) (bs : List ℕ) → parts_of bs ≡ take (place_of 44 bs) bs ∷ items_left (nat_lt (place_of 44 bs) (length bs)) (drop (place_of 44 bs + 1) bs)
    → cond comma ([] ∷ parts_of bs) (onto_first b (parts_of bs))
    ≡ take (cond (Rattle.std.proofs.Common.not comma) (1 + place_of 44 bs) 0) (b ∷ bs)
    ∷ items_left (nat_lt (cond (Rattle.std.proofs.Common.not comma) (1 + place_of 44 bs) 0) (length (b ∷ bs))) (drop (cond (Rattle.std.proofs.Common.not comma) (1 + place_of 44 bs) 0 + 1) (b ∷ bs))
cut_step true b bs is = rw (first_lt (length bs)) refl
cut_step false b bs is = cut_more b bs (place_of 44 bs) is

-- a text begins with its first item, and goes on behind the comma if there is one
pub cut : (text : List ℕ) → parts_of text ≡ take (place_of 44 text) text ∷ items_left (nat_lt (place_of 44 text) (length text)) (drop (place_of 44 text + 1) text)
cut [] = refl
cut (b ∷ bs) = cut_step (b == 44) b bs (cut bs)

-- ---- reading on

le_cond : (n : ℕ) → n ≤ 64 → nat_le n 64 ≡ true
le_cond n few = grind (arith, common_steps)

over_cond : (n : ℕ) → 64 < n → nat_le n 64 ≡ false
over_cond n many = grind (arith, common_steps)

pub limited_few : {A : Type 0} (xs : List A) → length xs ≤ 64 → limited xs ≡ Ok xs
limited_few xs few = rw (le_cond (length xs) few) refl

limited_many : {A : Type 0} (xs : List A) → 64 < length xs → limited xs ≡ Err TooMany
limited_many xs many = rw (over_cond (length xs) many) refl

many_cond : {A : Type 0} (xs : List A) (few : Bool) → nat_le (length xs) 64 ≡ few → cond few (Ok xs) (Err TooMany) ≡ Err TooMany → 64 < length xs
many_cond xs true is full = cc
many_cond xs false is full = grind (arith, common_steps)

limited_full : {A : Type 0} (xs : List A) → limited xs ≡ Err TooMany → 64 < length xs
limited_full xs full = many_cond xs (nat_le (length xs) 64) refl full

fits_cond : {A : Type 0} (xs ys : List A) (few : Bool) → cond few (Ok xs) (Err TooMany) ≡ Ok ys → ys ≡ xs
fits_cond xs ys true is = cc
fits_cond xs ys false is = cc

pub limited_is : {A : Type 0} (xs ys : List A) → limited xs ≡ Ok ys → ys ≡ xs
limited_is xs ys is = fits_cond xs ys (nat_le (length xs) 64) is

never_cond : {A : Type 0} {Z : Type 0} (xs : List A) (at : ℕ) (few : Bool) → cond few (Ok xs) (Err TooMany) ≡ Err (BadName at) → Z
never_cond xs at true is = cc
never_cond xs at false is = cc

pub limited_names_none : {A : Type 0} {Z : Type 0} (xs : List A) (at : ℕ) → limited xs ≡ Err (BadName at) → Z
limited_names_none xs at is = never_cond xs at (nat_le (length xs) 64) is

pub put_all-append : {A B : Type 0} (put : A → B → B) (xs ys : List A) (into : B) → put_all put (xs ++ ys) into ≡ put_all put ys (put_all put xs into)
put_all-append put [] ys into = refl
put_all-append put (x ∷ xs) ys into = put_all-append put xs ys (put x into)

grows : {A : Type 0} (put : A → List A → List A) → ((x : A) (into : List A) → length into ≤ length (put x into)) → (xs : List A) (into : List A) → length into ≤ length (put_all put xs into)
grows put more [] into = omega arith
grows put more (x ∷ xs) into =
    let first : length into ≤ length (put x into) = more x into in
    let rest : length (put x into) ≤ length (put_all put xs (put x into)) = grows put more xs (put x into) in
    omega arith

-- what is too many stays too many
pub fails_more : {A : Type 0} (put : A → List A → List A) → ((x : A) (into : List A) → length into ≤ length (put x into)) → (e : LabelError) (xs ys : List A) (into : List A)
    → Fails e (limited (put_all put xs into)) → Fails e (limited (put_all put (xs ++ ys) into))
fails_more put more (BadName at) xs ys into fails = limited_names_none (put_all put xs into) at fails
fails_more put more TooMany xs ys into fails =
    let many : 64 < length (put_all put xs into) = limited_full (put_all put xs into) fails in
    let rest : length (put_all put xs into) ≤ length (put_all put ys (put_all put xs into)) = grows put more ys (put_all put xs into) in
    rw (put_all-append put xs ys into) (limited_many (put_all put ys (put_all put xs into)) (omega arith))
fails_more put more NoMemory xs ys into fails = tt

-- ---- the first bad item

some_place : (good : List ℕ → Bool) (at : ℕ) (item : List ℕ) (items : List (List ℕ)) (fits : Bool) → good item ≡ fits → fits ≡ false → first_bad good at (item ∷ items) ≡ Some at
some_place good at item items fits is bad = rw (is, bad) refl

-- the first item of what is left is bad
pub bad_here : (good : List ℕ → Bool) (at : ℕ) (rest : List ℕ) (all : Option ℕ) → first_bad good at (items_left true rest) ≡ all → good (take (place_of 44 rest) rest) ≡ false → Some at ≡ all
bad_here good at rest all is bad =
    let first : first_bad good at (take (place_of 44 rest) rest ∷ items_left (nat_lt (place_of 44 rest) (length rest)) (drop (place_of 44 rest + 1) rest)) ≡ all = sym (ap (λ (items : List (List ℕ)). first_bad good at items) (cut rest)) ∙ is in
    let here : first_bad good at (take (place_of 44 rest) rest ∷ items_left (nat_lt (place_of 44 rest) (length rest)) (drop (place_of 44 rest + 1) rest)) ≡ Some at =
    some_place good at (take (place_of 44 rest) rest) (items_left (nat_lt (place_of 44 rest) (length rest)) (drop (place_of 44 rest + 1) rest)) false bad refl in
    cc

bad_next : (more : Bool) (good : List ℕ → Bool) (total n : ℕ) (rest : List ℕ) → nat_lt n (length rest) ≡ more → length rest ≤ total
    → first_bad good (total - length rest + length (take n rest) + 1) (items_left more (drop (n + 1) rest)) ≡ first_bad good (total - length (drop (n + 1) rest)) (items_left more (drop (n + 1) rest))
bad_next false good total n rest is within = refl
bad_next true good total n rest is within =
    let below : n < length rest = ltb-true n (length rest) is in
    let same : total - length rest + length (take n rest) + 1 ≡ total - length (drop (n + 1) rest) = omega (arith, length-take n rest, length-drop (n + 1) rest) in
    rw same refl

-- the first item of what is left is good
pub bad_later : (good : List ℕ → Bool) (total : ℕ) (rest : List ℕ) (all : Option ℕ) → length rest ≤ total → first_bad good (total - length rest) (items_left true rest) ≡ all
    → good (take (place_of 44 rest) rest) ≡ true
    → first_bad good (total - length (drop (place_of 44 rest + 1) rest)) (items_left (nat_lt (place_of 44 rest) (length rest)) (drop (place_of 44 rest + 1) rest)) ≡ all
bad_later good total rest all within is fine =
    let first : first_bad good (total - length rest) (take (place_of 44 rest) rest ∷ items_left (nat_lt (place_of 44 rest) (length rest)) (drop (place_of 44 rest + 1) rest)) ≡ all = sym (ap (λ (items : List (List ℕ)). first_bad good (total - length rest) items) (cut rest)) ∙ is in
    let on : first_bad good (total - length rest + length (take (place_of 44 rest) rest) + 1) (items_left (nat_lt (place_of 44 rest) (length rest)) (drop (place_of 44 rest + 1) rest)) ≡ all = rw fine at first in
    sym (bad_next (nat_lt (place_of 44 rest) (length rest)) good total (place_of 44 rest) rest refl within) ∙ on
