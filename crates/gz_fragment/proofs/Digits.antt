-- Hexadecimal digits in lower case, and the bytes that they spell.
use Rattle.std.proofs.Common.{◌≡◌, ℕ, ◌-◌, ◌*◌, ◌/◌, ◌%◌, ◌==◌, Bool, true, false, cond, ◌&&◌, List, length, take, drop, slice_index, refl, sym, ap, ◌∙◌, arith, Some, None, Result, Ok, Err, eq-eqb}
use Rattle.std.specs.Prelude.{MatchResult, codes}
use Rattle.std.specs.List.{list_all}
use Rattle.std.specs.Str.{bytes_eq}
use Rattle.std.proofs.lemmas.List.{take_rest}
use Rattle.hex.specs.Hex.{decode_of, decode_sized}
use Rattle.hex.specs.declared.error.FromHexError.{FromHexError}
use Rattle.gz_fragment.specs.Names.{is_lower_digit, value_of, bytes_in, has_form}

-- ---- what the code finds

-- a text of the right length, with the right bytes at their places
pub form_of : (text : List ℕ) → length text ≡ 78 → slice_index text 16 ≡ 45 → slice_index text 33 ≡ 45 → bytes_eq (take (length text - 74) (drop 74 text)) (codes ".raw") ≡ has_form text
form_of text size first second =
    ap (λ l. bytes_eq l (codes ".raw")) (take_rest text 74)
    ∙ sym (ap (λ b. b && (slice_index text 16 == 45) && (slice_index text 33 == 45) && bytes_eq (drop 74 text) (codes ".raw")) (eq-eqb (length text) 78 size)
    ∙ ap (λ b. b && (slice_index text 33 == 45) && bytes_eq (drop 74 text) (codes ".raw")) (eq-eqb (slice_index text 16) 45 first)
    ∙ ap (λ b. b && bytes_eq (drop 74 text) (codes ".raw")) (eq-eqb (slice_index text 33) 45 second))

-- decoding into room of the right size is decoding
pub sized : (text : List ℕ) (n : ℕ) → length text ≡ 2 * n → decode_sized text n ≡ decode_of text
sized text n size =
    let even : (length text % 2 == 1) ≡ false = grind (arith) in
    let half : (length text / 2 == n) ≡ true = grind (arith) in
    grind (arith, even, half)

-- what a decoder that answered Ok has decoded
pub decoded : (r : Result (List ℕ) FromHexError) (answer : Result Unit FromHexError) (out : List ℕ) (u : Unit)
    → MatchResult r (λ bytes. (answer ≡ Ok tt) × (out ≡ bytes)) (λ e. answer ≡ Err e) → answer ≡ Ok u → r ≡ Ok out
decoded (Ok bytes) answer out u h is = ap Ok (sym h.1)
decoded (Err e) answer out u h is = cc

pub bytes_from : (text bytes : List ℕ) → list_all is_lower_digit text ≡ true → decode_of text ≡ Ok bytes → bytes_in text ≡ Some bytes
bytes_from text bytes lower is = ap (λ b. cond b (value_of (decode_of text)) None) lower ∙ ap value_of is
