-- The strings of a text that is UTF-8 are UTF-8.
use Rattle.std.proofs.Common.{◌≡◌, ℕ, ◌+◌, ◌-◌, ◌*◌, ◌<◌, ◌≤◌, Bool, true, false, cond, ◌&&◌, ◌||◌, ◌==◌, nat_lt, nat_le, nat_eq, inl, inr, List, [], ◌∷◌, ◌++◌, length, take, drop, get_or, IsUtf8, Option, Some, None, option_and_then, refl, sym, ap, subst, ◌∙◌, arith, append_assoc, append-nil}
use Rattle.std.specs.Char.{IsScalar, is_digit, digit_value, encode_utf8}
use Rattle.std.specs.List.{list_all, starts_with}
use Rattle.std.specs.Str.{is_utf8}
use Rattle.std.proofs.lemmas.Bool.{and_parts, and_from, or_cases, cases_lt, eqb-true, leb-true, le-leb, ltb-true, ltb-false, lt-ltb, le-ltb}
use Rattle.std.proofs.lemmas.List.{length-append, take_at, drop_at, get_or_at}
use Rattle.std.proofs.lemmas.Str.{IsUtf8-append, IsUtf8-encode, IsUtf8-take, IsUtf8-drop, IsCharBoundary-before_ascii, IsCharBoundary-after_ascii, encode_ascii, is_utf8-from_IsUtf8}
use Rattle.json.specs.Text.{code_unit, short_escape, is_high_surrogate, is_low_surrogate, surrogate_pair, Within, plain, after_backslash, after_u, after_high, prepend, content}
use Rattle.json.specs.Token.{Token}
use Rattle.json.specs.Word.{is_operator, is_space, head, ends_word, after_number, number_before, literal, word}
use Rattle.json.specs.Lex.{Lexeme, token, comma, colon, Class, quote, backslash, operator, space, other, class, operator_lexeme, string_token, Mode, between, in_word, in_string, in_escape, lex_byte, lex, Place, fresh, after_value, after_comma, after_key, begins_colon, may_begin, may_close, if_allowed, place_token, punctuate, tokens}
use Rattle.json.specs.Ascii as ascii

pub nothing : {A : Type 0} {a : A} → let o : Option A = None in o ≡ Some a → ⊥
nothing is = cc

pub same_some : {A : Type 0} {a b : A} → let o : Option A = Some a in o ≡ Some b → a ≡ b
same_some is = cc

-- ---- where a text may be cut

inside : (p : List ℕ) (x : ℕ) (xs : List ℕ) → length p < length (p ++ x ∷ xs)
inside p x xs = omega (arith, length-append p (x ∷ xs))

byte_at : (p : List ℕ) (x : ℕ) (xs : List ℕ) → x < 128 → get_or (p ++ x ∷ xs) (length p) 0 < 128
byte_at p x xs small = rw (get_or_at p x xs 0 (length p) refl) small

-- before a byte of ASCII
before : (p : List ℕ) (x : ℕ) (xs : List ℕ) → x < 128 → IsUtf8 (p ++ x ∷ xs) → IsUtf8 p
before p x xs small u =
    subst IsUtf8 (take_at p (x ∷ xs) (length p) refl)
    (IsUtf8-take (p ++ x ∷ xs) (length p) u
    (IsCharBoundary-before_ascii (p ++ x ∷ xs) (length p) (inside p x xs) (byte_at p x xs small)))

-- and behind it
behind : (p : List ℕ) (x : ℕ) (xs : List ℕ) → x < 128 → IsUtf8 (p ++ x ∷ xs) → IsUtf8 xs
behind p x xs small u =
    subst IsUtf8
    (ap (λ l. drop (length p + 1) l) (sym (append_assoc p (x ∷ []) xs))
    ∙ drop_at (p ++ x ∷ []) xs (length p + 1) (length-append p (x ∷ [])))
    (IsUtf8-drop (p ++ x ∷ xs) (length p + 1) u
    (IsCharBoundary-after_ascii (p ++ x ∷ xs) (length p) u (inside p x xs) (byte_at p x xs small)))

char_utf8 : (c : ℕ) → IsScalar c → IsUtf8 (encode_utf8 c)
unfolding encode_utf8
char_utf8 c is = IsUtf8-encode c is

first_passes : (a b : Bool) → a ≡ true → cond a true b ≡ true
first_passes true b is = refl
first_passes false b is = absurd (cc)

last_passes : (a b : Bool) → b ≡ true → cond a true b ≡ true
last_passes true b is = refl
last_passes false b is = is

low_scalar : (c : ℕ) → c < 55296 → IsScalar c
low_scalar c low = first_passes (nat_lt c 55296) (nat_le 57344 c && nat_lt c 1114112) (lt-ltb c 55296 low)

high_scalar : (c : ℕ) → 57344 ≤ c → c < 1114112 → IsScalar c
high_scalar c least most =
    last_passes (nat_lt c 55296) (nat_le 57344 c && nat_lt c 1114112)
    (and_from (nat_le 57344 c) (nat_lt c 1114112) (le-leb 57344 c least) (lt-ltb c 1114112 most))

byte_utf8 : (c : ℕ) → c < 128 → IsUtf8 (c ∷ [])
byte_utf8 c small = subst IsUtf8 (encode_ascii c small) (IsUtf8-encode c (low_scalar c (omega arith)))

byte_is : (x n : ℕ) → n < 128 → (x == n) ≡ true → x < 128
byte_is x n small is = omega (arith, eqb-true x n is)

-- ---- escapes

chosen : (t : Bool) (n c : ℕ) → cond t (Some n) None ≡ Some c → (t ≡ true) × (n ≡ c)
chosen true n c is = (refl, same_some is)
chosen false n c is = absurd (nothing is)

escape_turn : (t : Bool) (x n c : ℕ) (rest : Option ℕ) → (t ≡ true → (x < 128) × (n < 128))
    → (rest ≡ Some c → (x < 128) × (c < 128)) → cond t (Some n) rest ≡ Some c → (x < 128) × (c < 128)
escape_turn true x n c rest here more is = subst (λ m. (x < 128) × (m < 128)) (same_some is) (here refl)
escape_turn false x n c rest here more is = more is

same_char : (x : ℕ) → ((x == 34) || (x == 92) || (x == 47)) ≡ true → x < 128
same_char x is = elim (or_cases ((x == 34) || (x == 92)) (x == 47) is) [
  | inl two ↦ elim (or_cases (x == 34) (x == 92) two) [
    | inl q ↦ byte_is x 34 (omega arith) q
    | inr b ↦ byte_is x 92 (omega arith) b
  ]
  | inr s ↦ byte_is x 47 (omega arith) s
]

short_small : (x c : ℕ) → short_escape x ≡ Some c → (x < 128) × (c < 128)
unfolding short_escape
short_small x c is =
    let tabs : Option ℕ = cond (x == 116) (Some 9) None in
    let returns : Option ℕ = cond (x == 114) (Some 13) tabs in
    let feeds : Option ℕ = cond (x == 110) (Some 10) returns in
    let forms : Option ℕ = cond (x == 102) (Some 12) feeds in
    let backs : Option ℕ = cond (x == 98) (Some 8) forms in
    escape_turn ((x == 34) || (x == 92) || (x == 47)) x x c backs (λ t. (same_char x t, same_char x t))
    (escape_turn (x == 98) x 8 c forms (λ t. (byte_is x 98 (omega arith) t, omega arith))
    (escape_turn (x == 102) x 12 c feeds (λ t. (byte_is x 102 (omega arith) t, omega arith))
    (escape_turn (x == 110) x 10 c returns (λ t. (byte_is x 110 (omega arith) t, omega arith))
    (escape_turn (x == 114) x 13 c tabs (λ t. (byte_is x 114 (omega arith) t, omega arith))
    (escape_turn (x == 116) x 9 c None (λ t. (byte_is x 116 (omega arith) t, omega arith)) (λ e. absurd (nothing e))))))) is

digit_fits : (x : ℕ) → is_digit x 16 ≡ true → digit_value x < 16
digit_fits x is = ltb-true (digit_value x) 16 is

big_digit : (x : ℕ) → 128 ≤ x → digit_value x ≡ 36
big_digit x big =
    rw (
      le-ltb x 48 (omega arith),
      le-ltb x 58 (omega arith),
      le-ltb x 65 (omega arith),
      le-ltb x 91 (omega arith),
      le-ltb x 97 (omega arith),
      le-ltb x 123 (omega arith),
    ) refl

digit_small : (x v : ℕ) → digit_value x ≡ v → v < 16 → x < 128
digit_small x v is fits = elim (cases_lt x 128) [
  | inl small ↦ small
  | inr big ↦ let same : v ≡ 36 = sym is ∙ big_digit x big in absurd (omega (arith, same))
]

hex_small : (x : ℕ) → is_digit x 16 ≡ true → x < 128
hex_small x is = digit_small x (digit_value x) refl (digit_fits x is)

unit_fits : (a b c d u : ℕ) → a < 16 → b < 16 → c < 16 → d < 16 → a * 4096 + b * 256 + c * 16 + d ≡ u → u < 65536
unit_fits a b c d u fa fb fc fd is = omega arith

-- four hex digits, and their code unit
record IsUnit (a b c d u : ℕ) : Type 0 where
  first : a < 128
  second : b < 128
  third : c < 128
  fourth : d < 128
  fits : u < 65536

is_unit : (a b c d u : ℕ) → code_unit a b c d ≡ Some u → IsUnit a b c d u
unfolding code_unit
is_unit a b c d u is =
    let k = chosen (is_digit a 16 && is_digit b 16 && is_digit c 16 && is_digit d 16)
    (digit_value a * 4096 + digit_value b * 256 + digit_value c * 16 + digit_value d) u is in
    let three = and_parts (is_digit a 16 && is_digit b 16 && is_digit c 16) (is_digit d 16) k.0 in
    let two = and_parts (is_digit a 16 && is_digit b 16) (is_digit c 16) three.0 in
    let one = and_parts (is_digit a 16) (is_digit b 16) two.0 in
    record {
      first = hex_small a one.0;
      second = hex_small b one.1;
      third = hex_small c two.1;
      fourth = hex_small d three.1;
      fits = unit_fits (digit_value a) (digit_value b) (digit_value c) (digit_value d) u (digit_fits a one.0)
          (digit_fits b one.1) (digit_fits c two.1) (digit_fits d three.1) k.1;
    }

behind_unit : (a b c d u : ℕ) (xs : List ℕ) → IsUnit a b c d u → IsUtf8 (a ∷ b ∷ c ∷ d ∷ xs) → IsUtf8 xs
behind_unit a b c d u xs k text =
    behind [] d xs k.fourth (behind [] c (d ∷ xs) k.third (behind [] b (c ∷ d ∷ xs) k.second
    (behind [] a (b ∷ c ∷ d ∷ xs) k.first text)))

other_fails : (a b : Bool) → a ≡ true → (a && b) ≡ false → b ≡ false
other_fails true b is none = none
other_fails false b is none = absurd (cc)

-- what is no surrogate, at the surrogates' least or above it, is above them all
past_surrogates : (u : ℕ) → 55296 ≤ u → is_high_surrogate u ≡ false → is_low_surrogate u ≡ false → 57344 ≤ u
past_surrogates u least high low =
    let past_high : 56320 ≤ u = ltb-false u 56320 (other_fails (nat_le 55296 u) (nat_lt u 56320) (le-leb 55296 u least) high) in
    ltb-false u 57344 (other_fails (nat_le 56320 u) (nat_lt u 57344) (le-leb 56320 u past_high) low)

unit_scalar : (u : ℕ) → u < 65536 → is_high_surrogate u ≡ false → is_low_surrogate u ≡ false → IsScalar u
unit_scalar u fits high low = elim (cases_lt u 55296) [
  | inl below ↦ low_scalar u below
  | inr least ↦ high_scalar u (past_surrogates u least high low) (omega arith)
]

pair_within : (h l : ℕ) → 55296 ≤ h → h < 56320 → 56320 ≤ l → l < 57344
    → (57344 ≤ 65536 + (h - 55296) * 1024 + (l - 56320)) × (65536 + (h - 55296) * 1024 + (l - 56320) < 1114112)
pair_within h l a b c d = (omega arith, omega arith)

pair_scalar : (h l : ℕ) → is_high_surrogate h ≡ true → is_low_surrogate l ≡ true → IsScalar (surrogate_pair h l)
pair_scalar h l high low =
    let a = and_parts (nat_le 55296 h) (nat_lt h 56320) high in
    let b = and_parts (nat_le 56320 l) (nat_lt l 57344) low in
    let w = pair_within h l (leb-true 55296 h a.0) (ltb-true h 56320 a.1) (leb-true 56320 l b.0) (ltb-true l 57344 b.1) in
    high_scalar (surrogate_pair h l) w.0 w.1

-- ---- the content of a string

-- What was read is p, and xs is to come. A character may be cut in two only where no escape was begun.
abbrev Begun : Within → List ℕ → List ℕ → Type 0
Begun plain p xs = IsUtf8 (p ++ xs)
Begun after_backslash p xs = IsUtf8 p × IsUtf8 xs
Begun after_u p xs = IsUtf8 p × IsUtf8 xs
Begun (after_high h) p xs = IsUtf8 p × IsUtf8 xs × (is_high_surrogate h ≡ true)

abbrev Ends : Within → List ℕ → Type 0
Ends w xs = (p s : List ℕ) → Begun w p xs → content w xs ≡ Some s → IsUtf8 (p ++ s)

prepended : (b s : List ℕ) (o : Option (List ℕ)) → prepend b o ≡ Some s → (r : List ℕ) × (o ≡ Some r) × (b ++ r ≡ s)
prepended b s None is = absurd (nothing is)
prepended b s (Some r) is = (r, refl, same_some is)

goes_on : (b xs p s : List ℕ) → Ends plain xs → IsUtf8 ((p ++ b) ++ xs) → prepend b (content plain xs) ≡ Some s
    → IsUtf8 (p ++ s)
goes_on b xs p s more u is =
    let r = prepended b s (content plain xs) is in
    subst IsUtf8 (append_assoc p b r.0 ∙ ap (λ l. p ++ l) r.2) (more (p ++ b) r.0 u r.1)

decoded : (b xs p s : List ℕ) → Ends plain xs → IsUtf8 b → IsUtf8 p → IsUtf8 xs → prepend b (content plain xs) ≡ Some s
    → IsUtf8 (p ++ s)
decoded b xs p s more ub up ux is = goes_on b xs p s more (IsUtf8-append (p ++ b) xs (IsUtf8-append p b up ub) ux) is

plain_turn : (x : ℕ) (xs p s : List ℕ) (q b c : Bool) → (x == 34) ≡ q → (x == 92) ≡ b → IsUtf8 (p ++ x ∷ xs)
    → Ends plain xs → Ends after_backslash xs
    → cond q (Some []) (cond b (content after_backslash xs) (cond c None (prepend (x ∷ []) (content plain xs)))) ≡ Some s
    → IsUtf8 (p ++ s)
plain_turn x xs p s true b c eq eb u more escape is =
    subst (λ l. IsUtf8 (p ++ l)) (same_some is)
    (subst IsUtf8 (sym (append-nil p)) (before p x xs (byte_is x 34 (omega arith) eq) u))
plain_turn x xs p s false true c eq eb u more escape is =
    let small = byte_is x 92 (omega arith) eb in
    escape p s (before p x xs small u, behind p x xs small u) is
plain_turn x xs p s false false true eq eb u more escape is = absurd (nothing is)
plain_turn x xs p s false false false eq eb u more escape is =
    goes_on (x ∷ []) xs p s more (subst IsUtf8 (sym (append_assoc p (x ∷ []) xs)) u) is

short_turn : (x : ℕ) (xs p s : List ℕ) (o : Option ℕ) → short_escape x ≡ o → IsUtf8 p → IsUtf8 (x ∷ xs) → Ends plain xs
    → option_and_then (λ c. prepend (c ∷ []) (content plain xs)) o ≡ Some s → IsUtf8 (p ++ s)
short_turn x xs p s None e up ux more is = absurd (nothing is)
short_turn x xs p s (Some c) e up ux more is =
    let small = short_small x c e in
    decoded (c ∷ []) xs p s more (byte_utf8 c small.1) up (behind [] x xs small.0 ux) is

escape_turns : (x : ℕ) (xs p s : List ℕ) (t : Bool) → (x == 117) ≡ t → IsUtf8 p → IsUtf8 (x ∷ xs) → Ends plain xs
    → Ends after_u xs
    → cond t (content after_u xs) (option_and_then (λ c. prepend (c ∷ []) (content plain xs)) (short_escape x)) ≡ Some s
    → IsUtf8 (p ++ s)
escape_turns x xs p s true e up ux more number is = number p s (up, behind [] x xs (byte_is x 117 (omega arith) e) ux) is
escape_turns x xs p s false e up ux more number is = short_turn x xs p s (short_escape x) refl up ux more is

unit_turn : (u : ℕ) (xs p s : List ℕ) (h l : Bool) → is_high_surrogate u ≡ h → is_low_surrogate u ≡ l → u < 65536
    → IsUtf8 p → IsUtf8 xs → Ends plain xs → Ends (after_high u) xs
    → cond h (content (after_high u) xs) (cond l None (prepend (encode_utf8 u) (content plain xs))) ≡ Some s
    → IsUtf8 (p ++ s)
unit_turn u xs p s true l eh el fits up ux more high is = high p s (up, ux, eh) is
unit_turn u xs p s false true eh el fits up ux more high is = absurd (nothing is)
unit_turn u xs p s false false eh el fits up ux more high is =
    decoded (encode_utf8 u) xs p s more (char_utf8 u (unit_scalar u fits eh el)) up ux is

number_turn : (a b c d : ℕ) (xs p s : List ℕ) (o : Option ℕ) → code_unit a b c d ≡ o → IsUtf8 p
    → IsUtf8 (a ∷ b ∷ c ∷ d ∷ xs) → Ends plain xs → ((u : ℕ) → Ends (after_high u) xs)
    → option_and_then (λ u. cond (is_high_surrogate u) (content (after_high u) xs)
    (cond (is_low_surrogate u) None (prepend (encode_utf8 u) (content plain xs)))) o ≡ Some s
    → IsUtf8 (p ++ s)
number_turn a b c d xs p s None e up ux more high is = absurd (nothing is)
number_turn a b c d xs p s (Some u) e up ux more high is =
    let k = is_unit a b c d u e in
    unit_turn u xs p s (is_high_surrogate u) (is_low_surrogate u) refl refl k.fits up (behind_unit a b c d u xs k ux) more
    (high u) is

low_turn : (h l : ℕ) (xs p s : List ℕ) (t : Bool) → is_high_surrogate h ≡ true → is_low_surrogate l ≡ t → IsUtf8 p
    → IsUtf8 xs → Ends plain xs
    → cond t (prepend (encode_utf8 (surrogate_pair h l)) (content plain xs)) None ≡ Some s → IsUtf8 (p ++ s)
low_turn h l xs p s true eh el up ux more is =
    decoded (encode_utf8 (surrogate_pair h l)) xs p s more (char_utf8 (surrogate_pair h l) (pair_scalar h l eh el)) up ux is
low_turn h l xs p s false eh el up ux more is = absurd (nothing is)

second_turn : (h a b c d : ℕ) (xs p s : List ℕ) (o : Option ℕ) → code_unit a b c d ≡ o → is_high_surrogate h ≡ true
    → IsUtf8 p → IsUtf8 (a ∷ b ∷ c ∷ d ∷ xs) → Ends plain xs
    → option_and_then (λ l. cond (is_low_surrogate l) (prepend (encode_utf8 (surrogate_pair h l)) (content plain xs)) None) o
    ≡ Some s → IsUtf8 (p ++ s)
second_turn h a b c d xs p s None e eh up ux more is = absurd (nothing is)
second_turn h a b c d xs p s (Some l) e eh up ux more is =
    low_turn h l xs p s (is_low_surrogate l) eh refl up (behind_unit a b c d l xs (is_unit a b c d l e) ux) more is

pair_turn : (h x y a b c d : ℕ) (xs p s : List ℕ) (t : Bool) → ((x == 92) && (y == 117)) ≡ t
    → is_high_surrogate h ≡ true → IsUtf8 p → IsUtf8 (x ∷ y ∷ a ∷ b ∷ c ∷ d ∷ xs) → Ends plain xs
    → cond t (option_and_then (λ l. cond (is_low_surrogate l) (prepend (encode_utf8 (surrogate_pair h l)) (content plain xs))
    None) (code_unit a b c d)) None ≡ Some s
    → IsUtf8 (p ++ s)
pair_turn h x y a b c d xs p s true e eh up ux more is =
    let k = and_parts (x == 92) (y == 117) e in
    let rest = behind [] y (a ∷ b ∷ c ∷ d ∷ xs) (byte_is y 117 (omega arith) k.1)
    (behind [] x (y ∷ a ∷ b ∷ c ∷ d ∷ xs) (byte_is x 92 (omega arith) k.0) ux) in
    second_turn h a b c d xs p s (code_unit a b c d) refl eh up rest more is
pair_turn h x y a b c d xs p s false e eh up ux more is = absurd (nothing is)

content_ends : (w : Within) (xs : List ℕ) → Ends w xs
unfolding content
content_ends plain [] = λ p s u is. absurd (nothing is)
content_ends plain (x ∷ xs) = λ p s u is.
    plain_turn x xs p s (x == 34) (x == 92) (nat_lt x 32) refl refl u (content_ends plain xs) (content_ends after_backslash xs) is
content_ends after_backslash [] = λ p s u is. absurd (nothing is)
content_ends after_backslash (x ∷ xs) = λ p s u is.
    escape_turns x xs p s (x == 117) refl u.0 u.1 (content_ends plain xs) (content_ends after_u xs) is
content_ends after_u [] = λ p s u is. absurd (nothing is)
content_ends after_u (a ∷ []) = λ p s u is. absurd (nothing is)
content_ends after_u (a ∷ b ∷ []) = λ p s u is. absurd (nothing is)
content_ends after_u (a ∷ b ∷ c ∷ []) = λ p s u is. absurd (nothing is)
content_ends after_u (a ∷ b ∷ c ∷ d ∷ xs) = λ p s u is.
    number_turn a b c d xs p s (code_unit a b c d) refl u.0 u.1 (content_ends plain xs) (λ h. content_ends (after_high h) xs) is
content_ends (after_high h) [] = λ p s u is. absurd (nothing is)
content_ends (after_high h) (x ∷ []) = λ p s u is. absurd (nothing is)
content_ends (after_high h) (x ∷ y ∷ []) = λ p s u is. absurd (nothing is)
content_ends (after_high h) (x ∷ y ∷ a ∷ []) = λ p s u is. absurd (nothing is)
content_ends (after_high h) (x ∷ y ∷ a ∷ b ∷ []) = λ p s u is. absurd (nothing is)
content_ends (after_high h) (x ∷ y ∷ a ∷ b ∷ c ∷ []) = λ p s u is. absurd (nothing is)
content_ends (after_high h) (x ∷ y ∷ a ∷ b ∷ c ∷ d ∷ xs) = λ p s u is.
    pair_turn h x y a b c d xs p s ((x == 92) && (y == 117)) refl u.2 u.0 u.1 (content_ends plain xs) is

-- ---- tokens

abbrev pub utf8_token : Token → Bool
utf8_token Token.begin_object = true
utf8_token Token.end_object = true
utf8_token Token.begin_array = true
utf8_token Token.end_array = true
utf8_token (Token.key s) = true
utf8_token (Token.string s) = is_utf8 s
utf8_token (Token.number s) = true
utf8_token (Token.boolean b) = true
utf8_token Token.null = true
utf8_token Token.bad = true

abbrev utf8_lexeme : Lexeme → Bool
utf8_lexeme (token t) = utf8_token t
utf8_lexeme comma = true
utf8_lexeme colon = true

either : (b : Bool) (x y : Token) → utf8_token x ≡ true → utf8_token y ≡ true → utf8_token (cond b x y) ≡ true
either true x y hx hy = hx
either false x y hx hy = hy

string_utf8 : (xs : List ℕ) (o : Option (List ℕ)) → IsUtf8 xs → content plain xs ≡ o → utf8_token (string_token o) ≡ true
string_utf8 xs None u is = refl
string_utf8 xs (Some s) u is = is_utf8-from_IsUtf8 s (content_ends plain xs [] s u is)

number_utf8 : (t : List ℕ) (o : Option (List ℕ)) → utf8_token (number_before t o) ≡ true
number_utf8 t None = refl
number_utf8 t (Some rest) = either (ends_word rest) (Token.number (take (length t - length rest) t)) Token.bad refl refl

literal_utf8 : (name : List ℕ) (t : Token) (text : List ℕ) → utf8_token t ≡ true → utf8_token (literal name t text) ≡ true
literal_utf8 name t text good =
    either (starts_with nat_eq text name && ends_word (drop (length name) text)) t Token.bad good refl

word_utf8 : (t : List ℕ) → utf8_token (word t) ≡ true
unfolding word
word_utf8 t =
    let numbers : Token = number_before t (after_number t) in
    let nulls : Token = cond (head t == ascii.lower_n) (literal ascii.null_text Token.null t) numbers in
    let falses : Token = cond (head t == ascii.lower_f) (literal ascii.false_text (Token.boolean false) t) nulls in
    either (head t == ascii.lower_t) (literal ascii.true_text (Token.boolean true) t) falses
    (literal_utf8 ascii.true_text (Token.boolean true) t refl)
    (either (head t == ascii.lower_f) (literal ascii.false_text (Token.boolean false) t) nulls
    (literal_utf8 ascii.false_text (Token.boolean false) t refl)
    (either (head t == ascii.lower_n) (literal ascii.null_text Token.null t) numbers
    (literal_utf8 ascii.null_text Token.null t refl) (number_utf8 t (after_number t))))

one_of_six : (a b c d e : Bool) → utf8_lexeme (cond a (token Token.begin_object) (cond b (token Token.end_object)
    (cond c (token Token.begin_array) (cond d (token Token.end_array) (cond e comma colon))))) ≡ true
one_of_six true b c d e = refl
one_of_six false true c d e = refl
one_of_six false false true d e = refl
one_of_six false false false true e = refl
one_of_six false false false false true = refl
one_of_six false false false false false = refl

operator_utf8 : (x : ℕ) → utf8_lexeme (operator_lexeme x) ≡ true
operator_utf8 x =
    one_of_six (x == ascii.open_brace) (x == ascii.close_brace) (x == ascii.open_bracket) (x == ascii.close_bracket)
    (x == ascii.comma)

is_quote : (q b o s : Bool) → cond q quote (cond b backslash (cond o operator (cond s space other))) ≡ quote → q ≡ true
is_quote true b o s is = refl
is_quote false true o s is = absurd (cc)
is_quote false false true s is = absurd (cc)
is_quote false false false true is = absurd (cc)
is_quote false false false false is = absurd (cc)

quote_small : (x : ℕ) → class x ≡ quote → x < 128
quote_small x is = byte_is x 34 (omega arith) (is_quote (x == 34) (x == 92) (is_operator x) (is_space x) is)

-- the lexemes that k gives are good, whatever the mode
abbrev AreGood : (Mode → List Lexeme) → Type 0
AreGood k = (m : Mode) → list_all utf8_lexeme (k m) ≡ true

byte_good : (m : Mode) (c : Class) (x : ℕ) (xs p : List ℕ) (k : Mode → List Lexeme) → class x ≡ c
    → IsUtf8 (p ++ x ∷ xs) → AreGood k → list_all utf8_lexeme (lex_byte m c x xs k) ≡ true
byte_good between quote x xs p k is u more =
    and_from (utf8_token (string_token (content plain xs))) (list_all utf8_lexeme (k in_string))
    (string_utf8 xs (content plain xs) (behind p x xs (quote_small x is) u) refl) (more in_string)
byte_good between backslash x xs p k is u more = more in_word
byte_good between operator x xs p k is u more =
    and_from (utf8_lexeme (operator_lexeme x)) (list_all utf8_lexeme (k between)) (operator_utf8 x) (more between)
byte_good between space x xs p k is u more = more between
byte_good between other x xs p k is u more =
    and_from (utf8_token (word (x ∷ xs))) (list_all utf8_lexeme (k in_word)) (word_utf8 (x ∷ xs)) (more in_word)
byte_good in_word quote x xs p k is u more = more in_word
byte_good in_word backslash x xs p k is u more = more in_word
byte_good in_word operator x xs p k is u more =
    and_from (utf8_lexeme (operator_lexeme x)) (list_all utf8_lexeme (k between)) (operator_utf8 x) (more between)
byte_good in_word space x xs p k is u more = more between
byte_good in_word other x xs p k is u more = more in_word
byte_good in_string quote x xs p k is u more = more between
byte_good in_string backslash x xs p k is u more = more in_escape
byte_good in_string operator x xs p k is u more = more in_string
byte_good in_string space x xs p k is u more = more in_string
byte_good in_string other x xs p k is u more = more in_string
byte_good in_escape c x xs p k is u more = more in_string

lex_good : (m : Mode) (xs p : List ℕ) → IsUtf8 (p ++ xs) → list_all utf8_lexeme (lex m xs) ≡ true
unfolding lex
lex_good m [] p u = refl
lex_good m (x ∷ xs) p u =
    byte_good m (class x) x xs p (λ next. lex next xs) refl u
    (λ next. lex_good next xs (p ++ x ∷ []) (subst IsUtf8 (sym (append_assoc p (x ∷ []) xs)) u))

-- the tokens that k gives are good, whatever the place
abbrev AreGoodTokens : (Place → List Token) → Type 0
AreGoodTokens k = (p : Place) → list_all utf8_token (k p) ≡ true

allowed_good : (b : Bool) (t : Token) (k : Place → List Token) (next : Place) → utf8_token t ≡ true → AreGoodTokens k
    → list_all utf8_token (if_allowed b t k next) ≡ true
allowed_good true t k next good more = and_from (utf8_token t) (list_all utf8_token (k next)) good (more next)
allowed_good false t k next good more = refl

placed_good : (p : Place) (t : Token) (b : Bool) (k : Place → List Token) → utf8_token t ≡ true → AreGoodTokens k
    → list_all utf8_token (place_token p t b k) ≡ true
placed_good p Token.begin_object b k good more = allowed_good (may_begin p) Token.begin_object k fresh refl more
placed_good p Token.end_object b k good more = allowed_good (may_close p) Token.end_object k after_value refl more
placed_good p Token.begin_array b k good more = allowed_good (may_begin p) Token.begin_array k fresh refl more
placed_good p Token.end_array b k good more = allowed_good (may_close p) Token.end_array k after_value refl more
placed_good p (Token.key s) b k good more = refl
placed_good p (Token.string s) true k good more = allowed_good (may_begin p) (Token.key s) k after_key refl more
placed_good p (Token.string s) false k good more = allowed_good (may_begin p) (Token.string s) k after_value good more
placed_good p (Token.number s) b k good more = allowed_good (may_begin p) (Token.number s) k after_value refl more
placed_good p (Token.boolean x) b k good more = allowed_good (may_begin p) (Token.boolean x) k after_value refl more
placed_good p Token.null b k good more = allowed_good (may_begin p) Token.null k after_value refl more
placed_good p Token.bad b k good more = refl

punctuated_good : (p : Place) (ls : List Lexeme) → list_all utf8_lexeme ls ≡ true → list_all utf8_token (punctuate p ls) ≡ true
unfolding punctuate
punctuated_good fresh [] good = refl
punctuated_good after_value [] good = refl
punctuated_good after_comma [] good = refl
punctuated_good after_key [] good = refl
punctuated_good fresh (token t ∷ ls) good =
    let g = and_parts (utf8_token t) (list_all utf8_lexeme ls) good in
    placed_good fresh t (begins_colon ls) (λ next. punctuate next ls) g.0 (λ next. punctuated_good next ls g.1)
punctuated_good after_value (token t ∷ ls) good =
    let g = and_parts (utf8_token t) (list_all utf8_lexeme ls) good in
    placed_good after_value t (begins_colon ls) (λ next. punctuate next ls) g.0 (λ next. punctuated_good next ls g.1)
punctuated_good after_comma (token t ∷ ls) good =
    let g = and_parts (utf8_token t) (list_all utf8_lexeme ls) good in
    placed_good after_comma t (begins_colon ls) (λ next. punctuate next ls) g.0 (λ next. punctuated_good next ls g.1)
punctuated_good after_key (token t ∷ ls) good =
    let g = and_parts (utf8_token t) (list_all utf8_lexeme ls) good in
    placed_good after_key t (begins_colon ls) (λ next. punctuate next ls) g.0 (λ next. punctuated_good next ls g.1)
punctuated_good fresh (comma ∷ ls) good = refl
punctuated_good after_value (comma ∷ ls) good = punctuated_good after_comma ls good
punctuated_good after_comma (comma ∷ ls) good = refl
punctuated_good after_key (comma ∷ ls) good = refl
punctuated_good fresh (colon ∷ ls) good = refl
punctuated_good after_value (colon ∷ ls) good = refl
punctuated_good after_comma (colon ∷ ls) good = refl
punctuated_good after_key (colon ∷ ls) good = punctuated_good fresh ls good

pub tokens_good : (text : List ℕ) → IsUtf8 text → list_all utf8_token (tokens text) ≡ true
tokens_good text u = punctuated_good fresh (lex between text) (lex_good between text [] u)
