-- What is printed of a member reads back.
use Rattle.std.proofs.Common.{◌≡◌, ℕ, ◌+◌, ◌/◌, ◌%◌, ◌^◌, ◌<◌, ◌≤◌, ◌==◌, ◌&&◌, List, [], ◌∷◌, ◌++◌, length, Bool, true, false, not, refl, ap, ◌∙◌, Some, decimal, nat_lt, nat_le, arith, zero, suc, All}
use Rattle.std.proofs.lemmas.Bool.Decides.{nat_tests}
use Rattle.std.proofs.lemmas.Grind.{common_steps}
use Rattle.std.proofs.lemmas.Fmt.{digits_decimal, digits_value-decimal, decimal_by_steps}
use Rattle.std.proofs.lemmas.Str.Parse.{IsNumeralModel, numerals_by_fold, tells_all_ascii_digits}
use Rattle.std.proofs.lemmas.List.Splits.{slice_split_at, slice_split_none}
use Rattle.std.specs.List.{list_all}
use Rattle.std.specs.Char.{is_ascii_digit}
use Rattle.std.specs.Str.{all_ascii_digits}
use Rattle.gz_label.proofs.Sets.{both_left, both_right}
use Rattle.gz_fields.specs.Names.{is_id_byte, is_id}
use Rattle.gz_fields.specs.Form.{is_between}
use Rattle.gz_spec.specs.Limits.{max_limit}
use Rattle.gz_spec.specs.Valid.{is_lone_member}
use Rattle.gz_keyspace.specs.declared.formats.Joined.{Joined}
use Rattle.gz_keyspace.specs.Formats.{number_from, number_of, begins_as_number, words_of, is_consumer, joined_with, joined_words, joined_of, kind_word, member_text}

-- ---- numbers

own : IsNumeralModel (λ ds. all_ascii_digits ds ≡ true) (number_from 0)
own = numerals_by_fold (λ ds. all_ascii_digits ds ≡ true) tells_all_ascii_digits number_from (record { empty = λ n. refl; more = λ n c cs k. refl })

-- the first digit isn't 0
abbrev pub is_led : List ℕ → Bool
is_led [] = false
is_led (b ∷ bs) = not (b == 48)

-- what is known of the digits of a number
abbrev pub Leads : ℕ → List ℕ → Type 0
Leads n ds = (0 < n → is_led ds ≡ true) × (begins_as_number ds ≡ true)

few : (m : ℕ) → m < 10 → Leads m ((48 + m) ∷ [])
few m small = (λ some. grind (arith, nat_tests), refl)

led_more : (ds : List ℕ) (d : ℕ) → is_led ds ≡ true → (is_led (ds ++ d ∷ []) ≡ true) × (begins_as_number (ds ++ d ∷ []) ≡ true)
led_more [] d led = absurd (cc)
led_more (b ∷ []) d led = (led, led)
led_more (b ∷ c ∷ cs) d led = (led, led)

more : (m : ℕ) (ds : List ℕ) → 10 ≤ m → Leads (m / 10) ds → Leads m (ds ++ (48 + m % 10) ∷ [])
more m ds large lead =
    let led = led_more ds (48 + m % 10) (lead.0 (omega (arith, large))) in
    (λ some. led.0, led.1)

reads_by : (text : List ℕ) (n : ℕ) → begins_as_number text ≡ true → all_ascii_digits text ≡ true → number_from 0 text ≡ n → n < 2 ^ 64 → number_of text ≡ Some n
reads_by text n begins digits value small =
    let yes : nat_lt n (2 ^ 64) ≡ true = grind (arith, nat_tests) in
    rw (begins, digits, value, yes) refl

pub number_reads : (n : ℕ) → n < 2 ^ 64 → number_of (decimal n) ≡ Some n
number_reads n small = reads_by (decimal n) n (decimal_by_steps Leads few more n small).1 (digits_decimal own n small) (digits_value-decimal own n small) small

-- ---- words

abbrev pub is_no_space : ℕ → Bool
is_no_space b = not (b == 32)

no_space : (b : ℕ) → is_no_space b ≡ true → (b == 32) ≡ false
no_space b is = grind (arith, nat_tests)

-- a text without a space
none_of : (xs : List ℕ) → list_all is_no_space xs ≡ true → All (λ b. (b == 32) ≡ false) xs
none_of [] all k d within = absurd (omega (arith, within))
none_of (x ∷ xs) all zero d within = no_space x (both_left (is_no_space x) (list_all is_no_space xs) all)
none_of (x ∷ xs) all (suc k) d within = none_of xs (both_right (is_no_space x) (list_all is_no_space xs) all) k d (omega (arith, within))

id_byte : (b : ℕ) → is_id_byte b ≡ true → is_no_space b ≡ true
id_byte b is = grind (arith, common_steps)

digit : (b : ℕ) → is_ascii_digit b ≡ true → is_no_space b ≡ true
digit b is = grind (arith, common_steps)

id_bytes : (xs : List ℕ) → list_all is_id_byte xs ≡ true → list_all is_no_space xs ≡ true
id_bytes [] all = refl
id_bytes (x ∷ xs) all = rw (id_byte x (both_left (is_id_byte x) (list_all is_id_byte xs) all), id_bytes xs (both_right (is_id_byte x) (list_all is_id_byte xs) all)) refl

digits : (xs : List ℕ) → all_ascii_digits xs ≡ true → list_all is_no_space xs ≡ true
digits [] all = refl
digits (x ∷ xs) all = rw (digit x (both_left (is_ascii_digit x) (all_ascii_digits xs) all), digits xs (both_right (is_ascii_digit x) (all_ascii_digits xs) all)) refl

id_has_none : (id : List ℕ) → is_id id ≡ true → list_all is_no_space id ≡ true
unfolding is_id
id_has_none id is = id_bytes id (both_right (nat_le 1 (length id) && nat_le (length id) 32) (list_all is_id_byte id) is)

kind_has_none : (consumer : Bool) → list_all is_no_space (kind_word consumer) ≡ true
kind_has_none true = refl
kind_has_none false = refl

kind_reads : (consumer : Bool) → is_consumer (kind_word consumer) ≡ Some consumer
kind_reads true = refl
kind_reads false = refl

three : (a b c : List ℕ) → list_all is_no_space a ≡ true → list_all is_no_space b ≡ true → list_all is_no_space c ≡ true
    → words_of (a ++ 32 ∷ (b ++ 32 ∷ c)) ≡ a ∷ b ∷ c ∷ []
three a b c first second third =
    slice_split_at (λ x. x == 32) a 32 (b ++ 32 ∷ c) (none_of a first) refl
    ∙ ap (λ (ws : List (List ℕ)). a ∷ ws) (slice_split_at (λ x. x == 32) b 32 c (none_of b second) refl
    ∙ ap (λ (ws : List (List ℕ)). b ∷ ws) (slice_split_none (λ x. x == 32) c (none_of c third)))

member_by : (j : Joined) → is_id j.spec.id ≡ true → is_id j.spec.zone ≡ true → nat_le j.spec.limit max_limit ≡ true → joined_with j.spec.id (Some j.consumer) j.spec.zone (Some j.spec.limit) ≡ Some j
member_by j id zone limit = rw (id, zone, limit) refl

at_most : (n m : ℕ) → nat_le n m ≡ true → n ≤ m
at_most n m is = grind (arith, common_steps)

pub member_reads : (j : Joined) → is_lone_member j.spec ≡ true → joined_of j.spec.id (member_text j) ≡ Some j
member_reads j is =
    let id = both_left (is_id j.spec.id) (is_id j.spec.zone && is_between 0 max_limit j.spec.limit) is in
    let rest = both_right (is_id j.spec.id) (is_id j.spec.zone && is_between 0 max_limit j.spec.limit) is in
    let zone = both_left (is_id j.spec.zone) (is_between 0 max_limit j.spec.limit) rest in
    let range = both_right (is_id j.spec.zone) (is_between 0 max_limit j.spec.limit) rest in
    let limit = both_right (nat_le 0 j.spec.limit) (nat_le j.spec.limit max_limit) range in
    let few_items : j.spec.limit ≤ max_limit = at_most j.spec.limit max_limit limit in
    let small : j.spec.limit < 2 ^ 64 = omega (arith, few_items) in
    let words : words_of (member_text j) ≡ kind_word j.consumer ∷ j.spec.zone ∷ decimal j.spec.limit ∷ [] =
    three (kind_word j.consumer) j.spec.zone (decimal j.spec.limit) (kind_has_none j.consumer) (id_has_none j.spec.zone zone) (digits (decimal j.spec.limit) (digits_decimal own j.spec.limit small)) in
    ap (joined_words j.spec.id) words
    ∙ rw (kind_reads j.consumer, number_reads j.spec.limit small) (member_by j id zone limit)
