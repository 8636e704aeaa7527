-- A name's text is read as the name, and what is read as a name is its text.
use Rattle.std.proofs.Common.{◌≡◌, ℕ, ◌+◌, ◌*◌, ◌^◌, ◌<◌, ◌==◌, Bool, true, false, cond, ◌&&◌, List, [], ◌∷◌, ◌++◌, length, take, drop, slice_index, refl, sym, ap, ◌∙◌, arith, nat_lt, Option, Some, None, eq-eqb, append_assoc, length-append}
use Rattle.std.specs.Prelude.{codes, option_map}
use Rattle.std.specs.Str.{bytes_eq}
use Rattle.std.specs.Int.{w64, to_be_bytes, from_be_bytes}
use Rattle.std.proofs.lemmas.Nat.{from_be_bytes-to_be_bytes_8}
use Rattle.std.proofs.lemmas.Bool.{and_parts, eqb-true, lt-ltb}
use Rattle.std.proofs.lemmas.List.{take_at, drop_at, take-append-drop, length-take-le, length-drop}
use Rattle.std.proofs.lemmas.Slice.Eq.{bytes_eq-Decides}
use Rattle.std.proofs.Math.Seq.{drop-cons, get_or-append_seam}
use Rattle.std.proofs.Common.{drop-drop}
use Rattle.hex.specs.Hex.{encode_lower, lower_digits}
use Rattle.hex.proofs.HexLemmas.{length-encode_with}
use Rattle.gz_fragment.specs.Names.{FragmentName, name_text, name_in, name_with, has_form, number_in, bytes_in, digits_of, IsName}
use Rattle.gz_fragment.proofs.Spelled.{bytes_back, number_back, bytes_read, be_small}

-- ---- the parts of a text

abbrev text_with : List ℕ → List ℕ → List ℕ → List ℕ → List ℕ
text_with a b s tail = a ++ 45 ∷ (b ++ 45 ∷ (s ++ tail))

nested : (a b s tail : List ℕ) → a ++ (45 ∷ []) ++ b ++ (45 ∷ []) ++ s ++ tail ≡ text_with a b s tail
nested a b s tail = simp append_assoc

rebuilt : (text : List ℕ) → length text ≡ 78 → slice_index text 16 ≡ 45 → slice_index text 33 ≡ 45
    → text ≡ text_with (take 16 text) (take 16 (drop 17 text)) (take 40 (drop 34 text)) (drop 74 text)
rebuilt text size first second =
    let one : drop 16 text ≡ 45 ∷ drop 17 text = drop-cons text 16 0 (omega (arith, size)) ∙ ap (λ c. c ∷ drop 17 text) first in
    let two : drop 33 text ≡ 45 ∷ drop 34 text = drop-cons text 33 0 (omega (arith, size)) ∙ ap (λ c. c ∷ drop 34 text) second in
    let last : drop 34 text ≡ take 40 (drop 34 text) ++ drop 74 text = sym (take-append-drop 40 (drop 34 text)) ∙ ap (λ l. take 40 (drop 34 text) ++ l) (drop-drop 40 34 text) in
    let middle : drop 17 text ≡ take 16 (drop 17 text) ++ 45 ∷ (take 40 (drop 34 text) ++ drop 74 text) =
    sym (take-append-drop 16 (drop 17 text)) ∙ ap (λ l. take 16 (drop 17 text) ++ l) (drop-drop 16 17 text ∙ two ∙ ap (λ l. 45 ∷ l) last) in
    sym (take-append-drop 16 text) ∙ ap (λ l. take 16 text ++ l) (one ∙ ap (λ l. 45 ∷ l) middle)

record HasParts (text a b s tail : List ℕ) : Type 0 where
  size : length text ≡ 32 + 2 + length s + length tail
  first : slice_index text 16 ≡ 45
  second : slice_index text 33 ≡ 45
  begin : take 16 text ≡ a
  end : take 16 (drop 17 text) ≡ b
  sum : take 40 (drop 34 text) ≡ s
  rest : drop 74 text ≡ tail

has_parts : (a b s tail : List ℕ) → length a ≡ 16 → length b ≡ 16 → length s ≡ 40 → HasParts (text_with a b s tail) a b s tail
has_parts a b s tail la lb ls =
    let text = text_with a b s tail in
    let two : text ≡ (a ++ 45 ∷ b) ++ 45 ∷ (s ++ tail) = sym (append_assoc a (45 ∷ b) (45 ∷ (s ++ tail))) in
    let at17 : drop 17 text ≡ b ++ 45 ∷ (s ++ tail) =
    ap (drop 17) (sym (append_assoc a (45 ∷ []) (b ++ 45 ∷ (s ++ tail)))) ∙ drop_at (a ++ 45 ∷ []) (b ++ 45 ∷ (s ++ tail)) 17 (omega (arith, length-append a (45 ∷ []), la)) in
    let at34 : drop 34 text ≡ s ++ tail =
    sym (drop-drop 17 17 text) ∙ ap (drop 17) (at17 ∙ sym (append_assoc b (45 ∷ []) (s ++ tail))) ∙ drop_at (b ++ 45 ∷ []) (s ++ tail) 17 (omega (arith, length-append b (45 ∷ []), lb)) in
    let at74 : drop 74 text ≡ tail = sym (drop-drop 40 34 text) ∙ ap (drop 40) at34 ∙ drop_at s tail 40 ls in
    let lab : length (a ++ 45 ∷ b) ≡ 33 = omega (arith, length-append a (45 ∷ b), la, lb) in
    record {
      size = omega (arith, length-append a (45 ∷ (b ++ 45 ∷ (s ++ tail))), length-append b (45 ∷ (s ++ tail)), length-append s tail, la, lb);
      first = ap (slice_index text) (sym la) ∙ get_or-append_seam a 45 (b ++ 45 ∷ (s ++ tail)) 0;
      second = ap (λ t. slice_index t 33) two ∙ ap (slice_index ((a ++ 45 ∷ b) ++ 45 ∷ (s ++ tail))) (sym lab) ∙ get_or-append_seam (a ++ 45 ∷ b) 45 (s ++ tail) 0;
      begin = take_at a (45 ∷ (b ++ 45 ∷ (s ++ tail))) 16 la;
      end = ap (take 16) at17 ∙ take_at b (45 ∷ (s ++ tail)) 16 lb;
      sum = ap (take 40) at34 ∙ take_at s tail 40 ls;
      rest = at74;
    }

-- ---- a text that is read is the name's

part_sizes : (text : List ℕ) → length text ≡ 78 → (length (take 16 text) ≡ 16) × (length (take 16 (drop 17 text)) ≡ 16) × (length (take 40 (drop 34 text)) ≡ 40)
part_sizes text size = (
  length-take-le 16 text (omega (arith, size)),
  length-take-le 16 (drop 17 text) (omega (arith, size, length-drop 17 text)),
  length-take-le 40 (drop 34 text) (omega (arith, size, length-drop 34 text)),
)

named_parts : (begin end : Option ℕ) (sum : Option (List ℕ)) (n : FragmentName) → name_with begin end sum ≡ Some n
    → (begin ≡ Some n.begin) × (end ≡ Some n.end) × (sum ≡ Some n.sum)
named_parts (Some b) (Some e) (Some s) n h = step (nat_lt b e) h where
  step : (t : Bool) → cond t (Some (record { begin = b; end = e; sum = s })) None ≡ Some n → (Some b ≡ Some n.begin) × (Some e ≡ Some n.end) × (Some s ≡ Some n.sum)
  step true k = let same : record { begin = b; end = e; sum = s } ≡ n = cc in (ap (λ (m : FragmentName). Some m.begin) same, ap (λ (m : FragmentName). Some m.end) same, ap (λ (m : FragmentName). Some m.sum) same)
  step false k = cc
named_parts (Some b) (Some e) None n h = cc
named_parts (Some b) None sum n h = cc
named_parts None end sum n h = cc

pub printed_back : (text : List ℕ) (n : FragmentName) → name_in text ≡ Some n → name_text n ≡ text
printed_back text n is = step (has_form text) refl where
  step : (b : Bool) → has_form text ≡ b → name_text n ≡ text
  step false t = let no : None ≡ Some n = sym (ap (λ b. cond b (name_with (number_in (take 16 text)) (number_in (take 16 (drop 17 text))) (bytes_in (take 40 (drop 34 text)))) None) t) ∙ is in cc
  step true t =
      let some = sym (ap (λ b. cond b (name_with (number_in (take 16 text)) (number_in (take 16 (drop 17 text))) (bytes_in (take 40 (drop 34 text)))) None) t) ∙ is in
      let parts = named_parts (number_in (take 16 text)) (number_in (take 16 (drop 17 text))) (bytes_in (take 40 (drop 34 text))) n some in
      let tail = and_parts (((length text == 78) && (slice_index text 16 == 45)) && (slice_index text 33 == 45)) (bytes_eq (drop 74 text) (codes ".raw")) t in
      let second = and_parts ((length text == 78) && (slice_index text 16 == 45)) (slice_index text 33 == 45) tail.0 in
      let first = and_parts (length text == 78) (slice_index text 16 == 45) second.0 in
      let size = eqb-true (length text) 78 first.0 in
      let whole = rebuilt text size (eqb-true (slice_index text 16) 45 first.1) (eqb-true (slice_index text 33) 45 second.1) in
      let sizes = part_sizes text size in
      let a = number_back (take 16 text) n.begin sizes.0 parts.0 in
      let b = number_back (take 16 (drop 17 text)) n.end sizes.1 parts.1 in
      let s = bytes_back (take 40 (drop 34 text)) n.sum (omega (arith, sizes.2)) parts.2 in
      let raw = (bytes_eq-Decides (drop 74 text) (codes ".raw")).0 tail.1 in
      nested (digits_of n.begin) (digits_of n.end) (encode_lower n.sum) (codes ".raw")
      ∙ (λ i. text_with (a i) (b i) (s.0 i) (sym raw i)) ∙ sym whole

-- ---- a name's text is read as it

pub digits_length : (n : ℕ) → length (digits_of n) ≡ 16
digits_length n = length-encode_with lower_digits (to_be_bytes w64 n)

pub number_read : (n : ℕ) → n < 2 ^ 64 → number_in (digits_of n) ≡ Some n
number_read n fits = ap (option_map (from_be_bytes w64)) (bytes_read (to_be_bytes w64 n) (be_small n)) ∙ ap Some (from_be_bytes-to_be_bytes_8 n fits)

pub read_back : (n : FragmentName) → IsName n → name_in (name_text n) ≡ Some n
read_back n name =
    let a = digits_of n.begin in
    let b = digits_of n.end in
    let s = encode_lower n.sum in
    let ls : length s ≡ 40 = length-encode_with lower_digits n.sum ∙ ap (λ k. 2 * k) name.size in
    let has = has_parts a b s (codes ".raw") (digits_length n.begin) (digits_length n.end) ls in
    let text = text_with a b s (codes ".raw") in
    let size : length text ≡ 78 = omega (arith, has.size, ls) in
    let form : has_form text ≡ true =
    ap (λ t. t && (slice_index text 16 == 45) && (slice_index text 33 == 45) && bytes_eq (drop 74 text) (codes ".raw")) (eq-eqb (length text) 78 size)
    ∙ ap (λ t. t && (slice_index text 33 == 45) && bytes_eq (drop 74 text) (codes ".raw")) (eq-eqb (slice_index text 16) 45 has.first)
    ∙ ap (λ t. t && bytes_eq (drop 74 text) (codes ".raw")) (eq-eqb (slice_index text 33) 45 has.second)
    ∙ (bytes_eq-Decides (drop 74 text) (codes ".raw")).1 has.rest in
    let begin : number_in (take 16 text) ≡ Some n.begin = ap number_in has.begin ∙ number_read n.begin (omega (arith, name.ordered, name.fits)) in
    let end : number_in (take 16 (drop 17 text)) ≡ Some n.end = ap number_in has.end ∙ number_read n.end name.fits in
    let sum : bytes_in (take 40 (drop 34 text)) ≡ Some n.sum = ap bytes_in has.sum ∙ bytes_read n.sum name.bytes in
    ap name_in (nested a b s (codes ".raw"))
    ∙ ap (λ t. cond t (name_with (number_in (take 16 text)) (number_in (take 16 (drop 17 text))) (bytes_in (take 40 (drop 34 text)))) None) form
    ∙ (λ i. name_with (begin i) (end i) (sum i))
    ∙ ap (λ t. cond t (Some n) None) (lt-ltb n.begin n.end name.ordered)
