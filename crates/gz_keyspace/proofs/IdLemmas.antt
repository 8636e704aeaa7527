-- Ids: that they are names, and lists of them, item by item.
use Rattle.std.proofs.Common.{◌≡◌, ◌≢◌, ℕ, ◌+◌, ◌<◌, ◌≤◌, ◌==◌, ◌&&◌, ◌||◌, List, [], ◌∷◌, ◌++◌, length, Bool, true, false, not, cond, refl, ap, sym, ◌∙◌, Option, Some, None, Ok, nat_le, arith, zero, suc, append_assoc, map, drop, get_or, Bor}
use Rattle.std.proofs.lemmas.Grind.{common_steps}
use Rattle.std.proofs.Math.ListN.{drop_of_length-le}
use Rattle.std.proofs.lemmas.Str.{IsUtf8-from_ascii}
use Rattle.std.specs.List.{list_all}
use Rattle.std.specs.Str.{IsAscii}
use Rattle.gz_label.specs.Names.{name_of}
use Rattle.gz_label.proofs.Sets.{both_left, both_right}
use Rattle.gz_label.proofs.Utf8.{is_utf8_of_text}
use Rattle.gz_fields.specs.Names.{is_id_byte, is_id}
use Rattle.gz_keyspace.specs.Keys.{same_key}
use Rattle.gz_keyspace.specs.Formats.{id_of, is_in, are_distinct, ids_in, number_of, is_consumer, joined_with, joined_words, words_of}

-- ---- an id is a name

plain_id_byte : (b : ℕ) → is_id_byte b ≡ true → b < 128
plain_id_byte b is = grind (arith, common_steps)

all_plain : (bs : List ℕ) → list_all is_id_byte bs ≡ true → IsAscii bs
all_plain [] all i = omega arith
all_plain (b ∷ bs) all zero = plain_id_byte b (both_left (is_id_byte b) (list_all is_id_byte bs) all)
all_plain (b ∷ bs) all (suc i) = all_plain bs (both_right (is_id_byte b) (list_all is_id_byte bs) all) i

short : (n : ℕ) → nat_le n 32 ≡ true → nat_le n 1024 ≡ true
short n few = grind (arith, common_steps)

pub name_of_id : (text : List ℕ) → is_id text ≡ true → name_of text ≡ Ok text
unfolding is_id
name_of_id text is =
    let sized : (nat_le 1 (length text) && nat_le (length text) 32) ≡ true = both_left (nat_le 1 (length text) && nat_le (length text) 32) (list_all is_id_byte text) is in
    let few : nat_le (length text) 32 ≡ true = both_right (nat_le 1 (length text)) (nat_le (length text) 32) sized in
    let plain : list_all is_id_byte text ≡ true = both_right (nat_le 1 (length text) && nat_le (length text) 32) (list_all is_id_byte text) is in
    rw (is_utf8_of_text text (IsUtf8-from_ascii text (all_plain text plain)), short (length text) few) refl

-- ---- items, one after another

-- the ids where these were read, and these items are left
abbrev pub ids_left : List (List ℕ) → List (List ℕ) → Option (List (List ℕ))
ids_left ids [] = Some ids
ids_left ids (i ∷ is) = cond (is_id i) (cond (is_in i ids) None (ids_left (ids ++ i ∷ []) is)) None

-- none of the ids is among the items
abbrev pub are_apart : List (List ℕ) → List (List ℕ) → Bool
are_apart [] items = true
are_apart (id ∷ ids) items = not (is_in id items) && are_apart ids items

same_number : (n m : ℕ) → (n == m) ≡ (m == n)
same_number n m = grind (arith, common_steps)

same_sym : (a b : List ℕ) → same_key a b ≡ same_key b a
same_sym [] [] = refl
same_sym [] (y ∷ ys) = refl
same_sym (x ∷ xs) [] = refl
same_sym (x ∷ xs) (y ∷ ys) = rw (same_number x y, same_sym xs ys) refl

-- of the first ones, and of one more behind it
prefix : (a b c d : Bool) → (not (a || b) && (not c && d)) ≡ (not (a || c) && (not b && d))
prefix true b c d = refl
prefix false true true d = refl
prefix false true false d = refl
prefix false false true d = refl
prefix false false false d = refl

apart_cons : (ids : List (List ℕ)) (i : List ℕ) (is : List (List ℕ)) → are_apart ids (i ∷ is) ≡ (not (is_in i ids) && are_apart ids is)
apart_cons [] i is = refl
apart_cons (id ∷ ids) i is = rw (apart_cons ids i is, same_sym i id) (prefix (same_key id i) (is_in id is) (is_in i ids) (are_apart ids is))

whole : (a : Bool) → (a && true) ≡ a
whole true = refl
whole false = refl

joined : (a b c : Bool) → (a && (b && c)) ≡ ((a && b) && c)
joined true b c = refl
joined false b c = refl

apart_push : (ids : List (List ℕ)) (i : List ℕ) (is : List (List ℕ)) → are_apart (ids ++ i ∷ []) is ≡ (are_apart ids is && not (is_in i is))
apart_push [] i is = whole (not (is_in i is))
apart_push (id ∷ ids) i is = rw (apart_push ids i is) (joined (not (is_in id is)) (are_apart ids is) (not (is_in i is)))

shuffled : (all twice distinct apart : Bool) → (all && (distinct && (apart && not twice))) ≡ (all && ((not twice && distinct) && apart))
shuffled false twice distinct apart = refl
shuffled true true false apart = refl
shuffled true true true true = refl
shuffled true true true false = refl
shuffled true false false apart = refl
shuffled true false true true = refl
shuffled true false true false = refl

never : {A : Type 0} (all b : Bool) (a : A) → cond (all && (b && false)) (Some a) None ≡ None
never true true a = refl
never true false a = refl
never false b a = refl

-- the next item, by whether it is an id and whether it stands among those before it
next : (good used all twice distinct apart : Bool) (left : Option (List (List ℕ))) (ids : List (List ℕ))
    → left ≡ cond (all && (distinct && (apart && not twice))) (Some ids) None
    → cond good (cond used None left) None ≡ cond ((good && all) && ((not twice && distinct) && (not used && apart))) (Some ids) None
next false used all twice distinct apart left ids is = refl
next true true all twice distinct apart left ids is = sym (never all (not twice && distinct) ids)
next true false all twice distinct apart left ids is = is ∙ ap (λ (b : Bool). cond b (Some ids) None) (shuffled all twice distinct apart)

apart_none : (ids : List (List ℕ)) → are_apart ids [] ≡ true
apart_none [] = refl
apart_none (id ∷ ids) = apart_none ids

append_none : (ids : List (List ℕ)) → ids ++ [] ≡ ids
append_none [] = refl
append_none (id ∷ ids) = ap (λ (xs : List (List ℕ)). id ∷ xs) (append_none ids)

left_is : (ids items : List (List ℕ)) → ids_left ids items ≡ cond (list_all is_id items && (are_distinct items && are_apart ids items)) (Some (ids ++ items)) None
left_is ids [] = rw (apart_none ids, append_none ids) refl
left_is ids (i ∷ is) =
    let more : ids_left (ids ++ i ∷ []) is ≡ cond (list_all is_id is && (are_distinct is && (are_apart ids is && not (is_in i is)))) (Some (ids ++ (i ∷ is))) None =
    left_is (ids ++ i ∷ []) is ∙ rw (apart_push ids i is, append_assoc ids (i ∷ []) is) refl in
    rw (apart_cons ids i is) (next (is_id i) (is_in i ids) (list_all is_id is) (is_in i is) (are_distinct is) (are_apart ids is) (ids_left (ids ++ i ∷ []) is) (ids ++ (i ∷ is)) more)

-- before the first item
pub all_left : (items : List (List ℕ)) → ids_left [] items ≡ ids_in items
all_left items = left_is [] items ∙ rw (whole (are_distinct items)) refl

-- the parts from a place on, as texts
abbrev pub texts_from : ℕ → List (Bor (List ℕ)) → List (List ℕ)
texts_from i parts = map (λ part. part.now) (drop i parts)

no_id : (good : Bool) (text : List ℕ) → cond good (Some text) None ≡ None → good ≡ false
no_id true text is = absurd (cc)
no_id false text is = refl

some_id : (good : Bool) (text id : List ℕ) → cond good (Some text) None ≡ Some id → (good ≡ true) × (id ≡ text)
some_id true text id is = (refl, cc)
some_id false text id is = absurd (cc)

pub none_here : (ids : List (List ℕ)) (parts : List (Bor (List ℕ))) (i : ℕ) (d : Bor (List ℕ)) → i < length parts → id_of (get_or parts i d).now ≡ None → ids_left ids (texts_from i parts) ≡ None
none_here ids [] i d within none = absurd (omega (arith, within))
none_here ids (p ∷ ps) zero d within none = rw (no_id (is_id p.now) p.now none) refl
none_here ids (p ∷ ps) (suc i) d within none = none_here ids ps i d (omega (arith, within)) none

pub used_here : (ids : List (List ℕ)) (parts : List (Bor (List ℕ))) (i : ℕ) (d : Bor (List ℕ)) (id : List ℕ) → i < length parts → id_of (get_or parts i d).now ≡ Some id → is_in id ids ≡ true
    → ids_left ids (texts_from i parts) ≡ None
used_here ids [] i d id within some used = absurd (omega (arith, within))
used_here ids (p ∷ ps) zero d id within some used =
    let s = some_id (is_id p.now) p.now id some in
    let here : is_in p.now ids ≡ true = ap (λ (text : List ℕ). is_in text ids) (sym s.1) ∙ used in
    rw (s.0, here) refl
used_here ids (p ∷ ps) (suc i) d id within some used = used_here ids ps i d id (omega (arith, within)) some used

one_more : (i : ℕ) → suc (i + 1) ≡ suc i + 1
one_more i = omega arith

pub next_here : (ids : List (List ℕ)) (parts : List (Bor (List ℕ))) (i : ℕ) (d : Bor (List ℕ)) (id : List ℕ) → i < length parts → id_of (get_or parts i d).now ≡ Some id → is_in id ids ≡ false
    → ids_left ids (texts_from i parts) ≡ ids_left (ids ++ id ∷ []) (texts_from (i + 1) parts)
next_here ids [] i d id within some new = absurd (omega (arith, within))
next_here ids (p ∷ ps) zero d id within some new =
    let s = some_id (is_id p.now) p.now id some in
    let here : is_in p.now ids ≡ false = ap (λ (text : List ℕ). is_in text ids) (sym s.1) ∙ new in
    rw (s.0, here) (ap (λ (text : List ℕ). ids_left (ids ++ text ∷ []) (texts_from 0 ps)) (sym s.1))
next_here ids (p ∷ ps) (suc i) d id within some new =
    next_here ids ps i d id (omega (arith, within)) some new ∙ ap (λ (n : ℕ). ids_left (ids ++ id ∷ []) (texts_from n (p ∷ ps))) (one_more i)

pub end_here : (ids : List (List ℕ)) (parts : List (Bor (List ℕ))) (i : ℕ) → length parts ≤ i → ids_left ids (texts_from i parts) ≡ Some ids
end_here ids parts i past = rw (drop_of_length-le parts past) refl

-- ---- three words

pub three_words : (id value : List ℕ) (words : List (Bor (List ℕ))) (d : Bor (List ℕ)) → length words ≡ 3 → map (λ word. word.now) words ≡ words_of value
    → joined_with id (is_consumer (get_or words 0 d).now) (get_or words 1 d).now (number_of (get_or words 2 d).now) ≡ joined_words id (words_of value)
three_words id value [] d three is = absurd (omega (arith, three))
three_words id value (a ∷ []) d three is = absurd (omega (arith, three))
three_words id value (a ∷ b ∷ []) d three is = absurd (omega (arith, three))
three_words id value (a ∷ b ∷ c ∷ []) d three is = ap (λ (texts : List (List ℕ)). joined_words id texts) is
three_words id value (a ∷ b ∷ c ∷ e ∷ es) d three is = absurd (omega (arith, three))

pub other_words : (id value : List ℕ) (words : List (Bor (List ℕ))) → length words ≢ 3 → map (λ word. word.now) words ≡ words_of value → joined_words id (words_of value) ≡ None
other_words id value [] other is = ap (λ (texts : List (List ℕ)). joined_words id texts) (sym is)
other_words id value (a ∷ []) other is = ap (λ (texts : List (List ℕ)). joined_words id texts) (sym is)
other_words id value (a ∷ b ∷ []) other is = ap (λ (texts : List (List ℕ)). joined_words id texts) (sym is)
other_words id value (a ∷ b ∷ c ∷ []) other is = absurd (other refl)
other_words id value (a ∷ b ∷ c ∷ e ∷ es) other is = ap (λ (texts : List (List ℕ)). joined_words id texts) (sym is)
