-- Digits in lower case spell bytes, and the bytes spell them again.
use Rattle.std.proofs.Common.{◌≡◌, ℕ, zero, suc, ◌+◌, ◌-◌, ◌*◌, ◌/◌, ◌%◌, ◌^◌, ◌<◌, ◌≤◌, ◌==◌, Bool, true, false, cond, ◌&&◌, ◌||◌, ◌⊎◌, inl, inr, List, [], ◌∷◌, length, slice_index, refl, sym, ap, ◌∙◌, arith, nat_le, nat_lt, Option, Some, None, Ok}
use Rattle.std.specs.List.{list_all}
use Rattle.std.specs.Prelude.{option_map}
use Rattle.std.specs.Int.{w64, to_be_bytes, from_be_bytes, bytes_high_first, byte_at}
use Rattle.std.proofs.lemmas.Nat.{be_bytes_8}
use Rattle.std.proofs.lemmas.Bool.{and_parts, cases_lt, eqb-true, leb-true, le-leb, lt-leb, lt-ltb, le-ltb}
use Rattle.hex.specs.Hex.{IsBytes, decode_of, decode_pairs, encode_with, encode_lower, lower_digits, hex_digit_value, digit_or_error, value_at, pair_value}
use Rattle.hex.proofs.Pairs.{cons_byte, decode_pairs-ok_pair}
use Rattle.hex.proofs.HexLemmas.{decode_of-even, decode_of-encode_lower}
use Rattle.gz_fragment.specs.Names.{is_lower_digit, value_of, bytes_in, number_in, digits_of}

-- ---- one digit

either : (a b : Bool) → (a || b) ≡ true → (a ≡ true) ⊎ (b ≡ true)
either true b h = inl refl
either false b h = inr h

-- a digit, or a letter
lower_cases : (c : ℕ) → is_lower_digit c ≡ true → ((48 ≤ c) × (c ≤ 57)) ⊎ ((97 ≤ c) × (c ≤ 102))
lower_cases c h = elim (either (nat_le 48 c && nat_le c 57) (nat_le 97 c && nat_le c 102) h) [
  | inl d ↦ let p = and_parts (nat_le 48 c) (nat_le c 57) d in inl (leb-true 48 c p.0, leb-true c 57 p.1)
  | inr l ↦ let p = and_parts (nat_le 97 c) (nat_le c 102) l in inr (leb-true 97 c p.0, leb-true c 102 p.1)
]

abbrev pub lower_value : ℕ → ℕ
lower_value c = cond (nat_le c 57) (c - 48) (c - 87)

-- the digit at each place of the table
abbrev digit_at : ℕ → ℕ
digit_at v = cond (nat_lt v 10) (v + 48) (v + 87)

abbrev all_at : ℕ → Bool
all_at zero = true
all_at (suc n) = (slice_index lower_digits n == digit_at n) && (is_lower_digit (digit_at n) && all_at n)

all_at-below : (n v : ℕ) → all_at n ≡ true → v < n → (slice_index lower_digits v ≡ digit_at v) × (is_lower_digit (digit_at v) ≡ true)
all_at-below zero v h lt = absurd (omega arith)
all_at-below (suc n) v h lt =
    let first = and_parts (slice_index lower_digits n == digit_at n) (is_lower_digit (digit_at n) && all_at n) h in
    let second = and_parts (is_lower_digit (digit_at n)) (all_at n) first.1 in
    elim (cases_lt v n) [
      | inl below ↦ all_at-below n v second.1 below
      | inr top ↦ let e : v ≡ n = omega arith in rw e (eqb-true (slice_index lower_digits n) (digit_at n) first.0, second.0)
    ]

place : (v : ℕ) → v < 16 → slice_index lower_digits v ≡ digit_at v
place v lt = (all_at-below 16 v refl lt).0

pub place_lower : (v : ℕ) → v < 16 → is_lower_digit (slice_index lower_digits v) ≡ true
place_lower v lt = let both = all_at-below 16 v refl lt in ap is_lower_digit both.0 ∙ both.1

pub record IsRead (c : ℕ) : Type 0 where
  pub small : lower_value c < 16
  pub value : hex_digit_value c ≡ Some (lower_value c)
  pub back : slice_index lower_digits (lower_value c) ≡ c

pub read_lower : (c : ℕ) → is_lower_digit c ≡ true → IsRead c
read_lower c h = elim (lower_cases c h) [
  | inl d ↦
      let low : lower_value c ≡ c - 48 = ap (λ b. cond b (c - 48) (c - 87)) (le-leb c 57 d.1) in
      let is : c - 48 + 48 ≡ c = omega (arith, d.0) in
      record {
        small = rw low (omega (arith, d.0, d.1));
        value = rw low (rw (lt-leb 65 c (omega (arith, d.1)), lt-leb 97 c (omega (arith, d.1)), le-leb 48 c d.0, le-leb c 57 d.1) refl);
        back = rw low (place (c - 48) (omega (arith, d.1)) ∙ ap (λ b. cond b (c - 48 + 48) (c - 48 + 87)) (lt-ltb (c - 48) 10 (omega (arith, d.1))) ∙ is);
      }
  | inr l ↦
      let high : lower_value c ≡ c - 87 = ap (λ b. cond b (c - 48) (c - 87)) (lt-leb c 57 (omega (arith, l.0))) in
      let is : c - 87 + 87 ≡ c = omega (arith, l.0) in
      record {
        small = rw high (omega (arith, l.0, l.1));
        value = rw high (rw (le-leb 65 c (omega (arith, l.0)), lt-leb c 70 (omega (arith, l.0)), le-leb 97 c l.0, le-leb c 102 l.1) refl);
        back = rw high (place (c - 87) (omega (arith, l.1)) ∙ ap (λ b. cond b (c - 87 + 48) (c - 87 + 87)) (le-ltb (c - 87) 10 (omega (arith, l.0))) ∙ is);
      }
]

-- ---- pairs of digits

abbrev pub pairs : List ℕ → List ℕ
pairs [] = []
pairs (x ∷ []) = []
pairs (h ∷ l ∷ rest) = (lower_value h * 16 + lower_value l) ∷ pairs rest

pub record IsSpelled (i : ℕ) (text : List ℕ) : Type 0 where
  pub decoded : decode_pairs i text ≡ Ok (pairs text)
  pub again : encode_lower (pairs text) ≡ text
  pub size : 2 * length (pairs text) ≡ length text
  pub small : (k : ℕ) → slice_index (pairs text) k < 256

pub spelled : (i : ℕ) (text : List ℕ) → list_all is_lower_digit text ≡ true → length text % 2 ≡ 0 → IsSpelled i text
unfolding decode_pairs encode_with
spelled i [] lower even = record { decoded = refl; again = refl; size = refl; small = λ k. omega arith }
spelled i (x ∷ []) lower even = absurd (omega arith)
spelled i (h ∷ l ∷ rest) lower even =
    let first = and_parts (is_lower_digit h) (is_lower_digit l && list_all is_lower_digit rest) lower in
    let second = and_parts (is_lower_digit l) (list_all is_lower_digit rest) first.1 in
    let high = read_lower h first.0 in
    let low = read_lower l second.0 in
    let more = spelled (i + 2) rest second.1 (omega arith) in
    let hv : value_at h i ≡ Ok (lower_value h) = ap (digit_or_error h i) high.value in
    let lv : value_at l (i + 1) ≡ Ok (lower_value l) = ap (digit_or_error l (i + 1)) low.value in
    let pair : pair_value h l i ≡ Ok (lower_value h * 16 + lower_value l) = rw (hv, lv) refl in
    let over : (lower_value h * 16 + lower_value l) / 16 ≡ lower_value h = omega (arith, low.small) in
    let rest_of : (lower_value h * 16 + lower_value l) % 16 ≡ lower_value l = omega (arith, low.small) in
    record {
      decoded = decode_pairs-ok_pair i h l _ rest pair ∙ ap (cons_byte (lower_value h * 16 + lower_value l)) more.decoded;
      again = λ j. (ap (slice_index lower_digits) over ∙ high.back) j ∷ (ap (slice_index lower_digits) rest_of ∙ low.back) j ∷ more.again j;
      size = omega (arith, more.size);
      small = small_next (lower_value h * 16 + lower_value l) (pairs rest) (omega (arith, high.small, low.small)) more.small;
    }
  where
    small_next : (v : ℕ) (vs : List ℕ) → v < 256 → ((k : ℕ) → slice_index vs k < 256) → (k : ℕ) → slice_index (v ∷ vs) k < 256
    small_next v vs lt less zero = lt
    small_next v vs lt less (suc k) = less k

-- ---- texts of digits

-- what is read of digits is spelled by them
pub bytes_back : (text bytes : List ℕ) → length text % 2 ≡ 0 → bytes_in text ≡ Some bytes
    → (encode_lower bytes ≡ text) × (2 * length bytes ≡ length text) × ((k : ℕ) → slice_index bytes k < 256)
bytes_back text bytes even is = step (list_all is_lower_digit text) refl where
  step : (b : Bool) → list_all is_lower_digit text ≡ b → (encode_lower bytes ≡ text) × (2 * length bytes ≡ length text) × ((k : ℕ) → slice_index bytes k < 256)
  step false t = let no : None ≡ Some bytes = sym (ap (λ b. cond b (value_of (decode_of text)) None) t) ∙ is in cc
  step true t =
      let all = spelled 0 text t even in
      let some : Some (pairs text) ≡ Some bytes = sym (ap (λ b. cond b (value_of (decode_of text)) None) t ∙ ap value_of (decode_of-even text even ∙ all.decoded)) ∙ is in
      let same : pairs text ≡ bytes = cc in
      (ap encode_lower (sym same) ∙ all.again, ap (λ l. 2 * length l) (sym same) ∙ all.size, λ k. rw (sym same) (all.small k))

pub number_back : (text : List ℕ) (n : ℕ) → length text ≡ 16 → number_in text ≡ Some n → digits_of n ≡ text
number_back text n size is = step (bytes_in text) refl where
  step : (o : Option (List ℕ)) → bytes_in text ≡ o → digits_of n ≡ text
  step None t = let no : None ≡ Some n = sym (ap (option_map (from_be_bytes w64)) t) ∙ is in cc
  step (Some bytes) t =
      let some : Some (from_be_bytes w64 bytes) ≡ Some n = sym (ap (option_map (from_be_bytes w64)) t) ∙ is in
      let value : n ≡ from_be_bytes w64 bytes = cc in
      let back = bytes_back text bytes (omega (arith, size)) t in
      ap encode_lower (be_bytes_8 bytes n (omega (arith, back.1, size)) back.2 value) ∙ back.0

-- what is spelled is read
pub lower_encoded : (bytes : List ℕ) → IsBytes bytes → list_all is_lower_digit (encode_lower bytes) ≡ true
unfolding encode_with
lower_encoded [] h = refl
lower_encoded (b ∷ rest) h =
    let fits : b < 256 = h 0 in
    let high = place_lower (b / 16) (omega arith) in
    let low = place_lower (b % 16) (omega arith) in
    let more = lower_encoded rest (λ k. h (suc k)) in
    ap (λ t. t && (is_lower_digit (slice_index lower_digits (b % 16)) && list_all is_lower_digit (encode_lower rest))) high
    ∙ ap (λ t. t && list_all is_lower_digit (encode_lower rest)) low ∙ more

pub bytes_read : (bytes : List ℕ) → IsBytes bytes → bytes_in (encode_lower bytes) ≡ Some bytes
bytes_read bytes h =
    ap (λ b. cond b (value_of (decode_of (encode_lower bytes))) None) (lower_encoded bytes h) ∙ ap value_of (decode_of-encode_lower bytes h)

-- the bytes of a number are bytes
small_at : (v : ℕ) (vs : List ℕ) → v < 256 → ((k : ℕ) → slice_index vs k < 256) → (k : ℕ) → slice_index (v ∷ vs) k < 256
small_at v vs lt less zero = lt
small_at v vs lt less (suc k) = less k

none_small : (k : ℕ) → slice_index [] k < 256
none_small k = omega arith

mod_small : (m : ℕ) → m % 256 < 256
mod_small m = omega arith

byte_small : (k n : ℕ) → byte_at k n < 256
byte_small zero n = mod_small n
byte_small (suc k) n = mod_small (n / 256 ^ suc k)

high_small : (k n : ℕ) → IsBytes (bytes_high_first k n)
high_small zero n = none_small
high_small (suc k) n = small_at (byte_at k n) (bytes_high_first k n) (byte_small k n) (high_small k n)

pub be_small : (n : ℕ) → IsBytes (to_be_bytes w64 n)
be_small n = high_small 8 n
