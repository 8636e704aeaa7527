-- The line of a message is read back as that message.
use Rattle.std.proofs.Common.{◌≡◌, ℕ, ◌≤◌, ◌+◌, ◌*◌, ◌<◌, ◌==◌, ◌&&◌, List, [], ◌∷◌, ◌++◌, length, refl, arith, suc, Some, true, false, Bool, sym, ◌∙◌, ap, append-nil, zero, inr, not, nat_le, inl, option_and_then, IsTrue, All, ◌^◌, ◌/◌, ◌%◌}
use Rattle.std.proofs.lemmas.Grind.{common_steps}
use Rattle.std.proofs.lemmas.Bool.{and_parts, not-true, cases_eq, cases_lt}
use Rattle.std.proofs.lemmas.Str.{IsUtf8-append, IsUtf8-nil, IsUtf8-from_ascii, IsUtf8-from_is_utf8, utf8_valid_len-IsUtf8}
use Rattle.std.proofs.lemmas.List.Elements.{All-append, All-nil, All-cons}
use Rattle.std.specs.Str.{IsUtf8}
use Rattle.std.specs.Prelude.{codes}
use Rattle.std.specs.List.{list_all}
use Rattle.json.specs.Print.{escape, escape_byte, quoted}
use Rattle.json.specs.Json as json
use Rattle.json.specs.Tree as tree
use Rattle.json.specs.Lex.{tokens}
use Rattle.json.proofs.Printed.Tokens.{tokens-print}
use Rattle.json.proofs.Printed.Trees.{ArePrintable-json_tokens, value-json_tokens}
use Rattle.json.proofs.Printed.Strings.{escape_byte_plain}
use Rattle.json.proofs.Printed.Utf8.{IsUtf8-quoted, IsUtf8-are_ascii}
use Rattle.serde_json.specs.Read.{read, max_depth, of_json}
use Rattle.serde_json.specs.Written.{compact_text, comma_if, outline}
use Rattle.serde_json.proofs.Texts.{print-outline}
use Rattle.serde_json.proofs.OnLiterals.{serde_json_on_literals}
use Rattle.uuid.proofs.TextLemmas.{by_index_length, hyphenated_ascii}
use Rattle.uuid.specs.Text.{hyphenated_text, lower}
use Rattle.gz_model.specs.Lines.{newline}
use Rattle.gz_uuid.proofs.Reading.{is_identifier_identifier, producer_of_identifier, clock_of_identifier, flags_of_identifier}
use Rattle.uuid.proofs.RoundTrips.{parses_hyphenated}
use Rattle.std.specs.Int.{w16, w32, to_be_bytes}
use Rattle.gz_uuid.specs.Identifier.{identifier, is_identifier, AreParts}
use Rattle.gz_json.specs.Json.{json_of}
use Rattle.gz_frame.specs.Messages.{Message, is_message}
use Rattle.gz_frame.specs.Reading.{IsReadable}
use Rattle.gz_frame.specs.Line.{data_of, line_of}
use Rattle.gz_frame.specs.Text.{message_in, message_with, message_of, content_of, max_line}

-- ---- what is printed for a message's object reads as the object

outline_read : (m : Message) → read (compact_text (data_of m)) ≡ Some (data_of m)
unfolding serde_json_on_literals
outline_read m =
    let j = outline (data_of m) in
    let printed = ap (λ t. tokens t) (sym (print-outline (data_of m))) ∙ tokens-print (tree.json_tokens j) (ArePrintable-json_tokens j (tt, (tt, (tt, tt)))) in
    ap (λ o. option_and_then of_json (option_and_then (λ p. json.if_last p.0 p.1) o))
    (ap (json.value max_depth) (printed ∙ sym (append-nil _)) ∙ value-json_tokens j max_depth [] (omega arith))

-- ---- bytes without a newline, and how long a text is in quotes

abbrev pub is_clean : List ℕ → Bool
is_clean = list_all (λ b. not (b == newline))

both_true : (a b : Bool) → a ≡ true → b ≡ true → (a && b) ≡ true
both_true a b first second = rw (first, second) refl

clean_append : (xs ys : List ℕ) → is_clean xs ≡ true → is_clean ys ≡ true → is_clean (xs ++ ys) ≡ true
clean_append [] ys first second = second
clean_append (x ∷ xs) ys first second =
    let p = and_parts (not (x == newline)) (list_all (λ b. not (b == newline)) xs) first in
    both_true _ _ p.0 (clean_append xs ys p.1 second)

-- the escape of a byte is short and clean
abbrev is_short_escape : List ℕ → Bool
is_short_escape bytes = list_all (λ b. not (b == newline)) bytes && nat_le (length bytes) 6

abbrev escapes_below : ℕ → Bool
escapes_below zero = true
escapes_below (suc n) = is_short_escape (escape_byte n) && escapes_below n

escape_below : (n : ℕ) → escapes_below n ≡ true → (x : ℕ) → x < n → is_short_escape (escape_byte x) ≡ true
escape_below zero e x h = absurd (omega arith)
escape_below (suc n) e x h =
    let p = and_parts _ _ e in
    elim (cases_eq x n) [ inl same ↦ rw same p.0 | inr other ↦ escape_below n p.1 x (omega arith) ]

all_low : escapes_below 93 ≡ true
unfolding escape_byte
all_low = refl

high_byte : (x : ℕ) → 93 ≤ x → is_short_escape (x ∷ []) ≡ true
high_byte x high = grind (arith, common_steps)

short_escape : (x : ℕ) → is_short_escape (escape_byte x) ≡ true
short_escape x = elim (cases_lt x 93) [
  | inl low ↦ escape_below 93 all_low x low
  | inr high ↦ rw (escape_byte_plain x (λ e. omega arith) (λ e. omega arith) (omega arith)) (high_byte x high)
]

escape_clean : (s : List ℕ) → is_clean (escape s) ≡ true
escape_clean [] = refl
escape_clean (x ∷ xs) = clean_append (escape_byte x) (escape xs) (and_parts _ _ (short_escape x)).0 (escape_clean xs)

longer : (xs ys : List ℕ) (n : ℕ) → nat_le (length xs) 6 ≡ true → length ys ≤ 6 * n → length (xs ++ ys) ≤ 6 * suc n
longer xs ys n first second = grind (arith, common_steps)

escape_length : (s : List ℕ) → length (escape s) ≤ 6 * length s
escape_length [] = omega arith
escape_length (x ∷ xs) = longer (escape_byte x) (escape xs) (length xs) (and_parts _ _ (short_escape x)).1 (escape_length xs)

quoted_clean : (s : List ℕ) → is_clean (quoted s) ≡ true
quoted_clean s = clean_append (escape s) (34 ∷ []) (escape_clean s) refl

quoted_length : (s : List ℕ) → length (quoted s) ≤ 6 * length s + 2
quoted_length s = let short = escape_length s in grind (arith, common_steps)

-- ---- a member whose value is a text, before what follows

abbrev member_text : Bool → List ℕ → List ℕ → List ℕ → List ℕ
member_text later name text rest = comma_if later ++ (quoted name ++ 58 ∷ (quoted text ++ rest))

comma_clean : (later : Bool) → is_clean (comma_if later) ≡ true
comma_clean true = refl
comma_clean false = refl

colon_clean : (rest : List ℕ) → is_clean rest ≡ true → is_clean (58 ∷ rest) ≡ true
colon_clean rest clean = clean

member_clean : (later : Bool) (name text rest : List ℕ) → is_clean rest ≡ true → is_clean (member_text later name text rest) ≡ true
member_clean later name text rest clean =
    clean_append (comma_if later) _ (comma_clean later)
    (clean_append (quoted name) _ (quoted_clean name) (colon_clean (quoted text ++ rest) (clean_append (quoted text) rest (quoted_clean text) clean)))

comma_utf8 : (later : Bool) → IsUtf8 (comma_if later)
comma_utf8 true = IsUtf8-are_ascii (44 ∷ []) refl
comma_utf8 false = IsUtf8-nil

member_utf8 : (later : Bool) (name text rest : List ℕ) → IsUtf8 name → IsUtf8 text → IsUtf8 rest → IsUtf8 (member_text later name text rest)
member_utf8 later name text rest valid_name valid_text valid_rest =
    IsUtf8-append (comma_if later) _ (comma_utf8 later)
    (IsUtf8-append (quoted name) _ (IsUtf8-quoted name valid_name)
    (IsUtf8-append (58 ∷ []) _ (IsUtf8-are_ascii (58 ∷ []) refl) (IsUtf8-append (quoted text) rest (IsUtf8-quoted text valid_text) valid_rest)))

comma_length : (later : Bool) → length (comma_if later) ≤ 1
comma_length true = omega arith
comma_length false = omega arith

member_length : (later : Bool) (name text rest : List ℕ) → length (member_text later name text rest) ≤ 6 * length name + 6 * length text + 6 + length rest
member_length later name text rest =
    let comma = comma_length later in
    let first = quoted_length name in
    let second = quoted_length text in
    let all : length (member_text later name text rest) ≡ length (comma_if later) + (length (quoted name) + (1 + (length (quoted text) + length rest))) = grind (arith, common_steps) in
    omega arith

-- ---- the object of a message

abbrev id_text : Message → List ℕ
id_text m = hyphenated_text lower (identifier m.producer m.clock m.flags)

abbrev object_text : Message → List ℕ
object_text m = 123 ∷ member_text false (codes "key") m.key (member_text true (codes "uuid") (id_text m) (member_text true (codes "value") m.value (125 ∷ [])))

object_read : (m : Message) → read (object_text m) ≡ Some (data_of m)
object_read m = outline_read m

key_length : (m : Message) → is_message m ≡ true → length m.key ≤ 256
key_length m lawful = grind (arith, common_steps)

value_length : (m : Message) → is_message m ≡ true → length m.value ≤ 4096
value_length m lawful = grind (arith, common_steps)

key_utf8 : (m : Message) → is_message m ≡ true → IsUtf8 m.key
key_utf8 m lawful = IsUtf8-from_is_utf8 m.key (and_parts _ _ (and_parts _ _ (and_parts _ _ lawful).0).0).0

value_utf8 : (m : Message) → is_message m ≡ true → IsUtf8 m.value
value_utf8 m lawful = IsUtf8-from_is_utf8 m.value (and_parts _ _ (and_parts _ _ (and_parts _ _ lawful).0).1).0

id_length : (m : Message) → length (id_text m) ≡ 36
id_length m = by_index_length 36 _

id_utf8 : (m : Message) → IsUtf8 (id_text m)
id_utf8 m = IsUtf8-from_ascii (id_text m) (hyphenated_ascii lower (identifier m.producer m.clock m.flags) (inl refl))

object_clean : (m : Message) → is_clean (object_text m) ≡ true
object_clean m =
    member_clean false (codes "key") m.key _ (member_clean true (codes "uuid") (id_text m) _ (member_clean true (codes "value") m.value (125 ∷ []) refl))

object_utf8 : (m : Message) → is_message m ≡ true → IsUtf8 (object_text m)
object_utf8 m lawful =
    IsUtf8-append (123 ∷ []) _ (IsUtf8-are_ascii (123 ∷ []) refl)
    (member_utf8 false (codes "key") m.key _ (IsUtf8-are_ascii (codes "key") refl) (key_utf8 m lawful)
    (member_utf8 true (codes "uuid") (id_text m) _ (IsUtf8-are_ascii (codes "uuid") refl) (id_utf8 m)
    (member_utf8 true (codes "value") m.value (125 ∷ []) (IsUtf8-are_ascii (codes "value") refl) (value_utf8 m lawful) (IsUtf8-are_ascii (125 ∷ []) refl))))

object_length : (m : Message) → is_message m ≡ true → length (object_text m) + 1 ≤ max_line
object_length m lawful =
    let key = key_length m lawful in
    let id = id_length m in
    let value = value_length m lawful in
    let last = member_length true (codes "value") m.value (125 ∷ []) in
    let middle = member_length true (codes "uuid") (id_text m) (member_text true (codes "value") m.value (125 ∷ [])) in
    let first = member_length false (codes "key") m.key (member_text true (codes "uuid") (id_text m) (member_text true (codes "value") m.value (125 ∷ []))) in
    omega arith

-- ---- the line

ended_content : (bytes : List ℕ) → is_clean bytes ≡ true → content_of (bytes ++ newline ∷ []) ≡ Some bytes
ended_content [] clean = refl
ended_content (b ∷ bs) clean =
    let p = and_parts (not (b == newline)) (list_all (λ b. not (b == newline)) bs) clean in
    rw (not-true (b == newline) p.0, ended_content bs p.1) refl

same_length : (n : ℕ) → (n == n) ≡ true
same_length n = grind (arith, common_steps)

json_of_object : (m : Message) → is_message m ≡ true → json_of (object_text m) ≡ Some (data_of m)
json_of_object m lawful = rw (utf8_valid_len-IsUtf8 (object_text m) (object_utf8 m lawful), same_length (length (object_text m))) (object_read m)

message_again : (m : Message) → IsReadable m → message_with (identifier m.producer m.clock m.flags) m.key m.value ≡ Some m
message_again m readable = rw (readable.form, readable.producer, readable.clock, readable.flags, readable.lawful) refl

object_message : (m : Message) → IsReadable m → message_in (data_of m) ≡ Some m
unfolding serde_json_on_literals
object_message m readable = rw (readable.parses) (message_again m readable)

short_line : (m : Message) → is_message m ≡ true → nat_le (length (object_text m ++ newline ∷ [])) max_line ≡ true
short_line m lawful = let short = object_length m lawful in grind (arith, common_steps)

-- the line of a message is that message
pub line_reads_back : (m : Message) → IsReadable m → message_of (line_of m) ≡ Some m
unfolding message_of line_of
line_reads_back m readable =
    rw (short_line m readable.lawful, ended_content (object_text m) (object_clean m), json_of_object m readable.lawful) (object_message m readable)

-- ---- each lawful message is readable

true_of : (b : Bool) → IsTrue b → b ≡ true
true_of true holds = refl
true_of false holds = absurd (grind (arith, common_steps))

sixteen : (producer : List ℕ) (clock flags : ℕ) → length producer ≡ 6 → length (identifier producer clock flags) ≡ 16
sixteen producer clock flags six = grind (arith, common_steps)

items_fit : (a : ℕ) (xs : List ℕ) → a < 2 ^ 8 → All (λ byte. byte < 2 ^ 8) xs → All (λ byte. byte < 2 ^ 8) (a ∷ xs)
items_fit a xs first rest = All-cons (λ byte. byte < 2 ^ 8) a xs first rest

both_fit : (xs ys : List ℕ) → All (λ byte. byte < 2 ^ 8) xs → All (λ byte. byte < 2 ^ 8) ys → All (λ byte. byte < 2 ^ 8) (xs ++ ys)
both_fit xs ys first second = All-append (λ byte. byte < 2 ^ 8) xs ys first second

one_fit : (a : ℕ) → a % 2 ^ 8 < 2 ^ 8
one_fit a = omega arith

two_fit : (n : ℕ) → All (λ byte. byte < 2 ^ 8) (to_be_bytes w16 n)
two_fit n =
    items_fit (n / 256 ^ 1 % 256) (n % 256 ∷ []) (one_fit (n / 256 ^ 1)) (items_fit (n % 256) [] (one_fit n) (All-nil (λ byte. byte < 2 ^ 8)))

four_fit : (n : ℕ) → All (λ byte. byte < 2 ^ 8) (to_be_bytes w32 n)
four_fit n =
    items_fit (n / 256 ^ 3 % 256) (n / 256 ^ 2 % 256 ∷ to_be_bytes w16 n) (one_fit (n / 256 ^ 3))
    (items_fit (n / 256 ^ 2 % 256) (to_be_bytes w16 n) (one_fit (n / 256 ^ 2)) (two_fit n))

id_fits : (producer : List ℕ) (clock flags : ℕ) → All (λ octet. octet < 2 ^ 8) producer → All (λ byte. byte < 2 ^ 8) (identifier producer clock flags)
id_fits producer clock flags fit =
    let low = to_be_bytes w32 (clock / 2 ^ 4 % 2 ^ 32) in
    let middle = to_be_bytes w16 (clock / 2 ^ 36 % 2 ^ 16) in
    let high = to_be_bytes w16 (2 ^ 12 + clock / 2 ^ 52) in
    let sequence = to_be_bytes w16 (2 ^ 15 + clock % 2 ^ 4 * 2 ^ 10 + flags) in
    both_fit (low ++ middle ++ high ++ sequence) producer
    (both_fit (low ++ middle ++ high) sequence
    (both_fit (low ++ middle) high (both_fit low middle (four_fit (clock / 2 ^ 4 % 2 ^ 32)) (two_fit (clock / 2 ^ 36 % 2 ^ 16))) (two_fit (2 ^ 12 + clock / 2 ^ 52)))
    (two_fit (2 ^ 15 + clock % 2 ^ 4 * 2 ^ 10 + flags)))
    fit

pub lawful_line_reads_back : (m : Message) → is_message m ≡ true → AreParts m.producer m.clock m.flags → All (λ octet. octet < 2 ^ 8) m.producer →
    message_of (line_of m) ≡ Some m
lawful_line_reads_back m lawful parts fit =
    let id = identifier m.producer m.clock m.flags in
    line_reads_back m (record {
      lawful = lawful;
      form = true_of (is_identifier id) (is_identifier_identifier m.producer m.clock m.flags parts);
      producer = producer_of_identifier m.producer m.clock m.flags parts;
      clock = clock_of_identifier m.producer m.clock m.flags parts;
      flags = flags_of_identifier m.producer m.clock m.flags parts;
      parses = sym (parses_hyphenated lower id (inl refl) (sixteen m.producer m.clock m.flags parts.octets.six) (id_fits m.producer m.clock m.flags fit));
    })
