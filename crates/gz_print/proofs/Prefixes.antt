-- Labels as an object, from the last label on.
use Rattle.std.proofs.Common.{◌≡◌, ℕ, zero, suc, ◌+◌, ◌-◌, ◌<◌, List, [], ◌∷◌, length, take, drop, refl, arith, ◌∙◌}
use Rattle.std.proofs.lemmas.List.{take_rest}
use Rattle.serde_json.specs.Data.{Members}
use Rattle.gz_label.specs.declared.label.Label.{Label}
use Rattle.gz_print.specs.Printed.{with_first, label_members}

one_more : (n : ℕ) (ls : List Label) → n < length ls → with_first (drop n ls) (label_members (drop (suc n) ls)) ≡ label_members (drop n ls)
one_more n [] below = absurd (omega arith)
one_more zero (l ∷ ls) below = refl
one_more (suc n) (l ∷ ls) below = one_more n ls (omega arith)

-- one turn of the loop
pub back_turn : (ls : List Label) (i : ℕ) (ms more : Members) → i < length ls → ms ≡ label_members (drop (length ls - i) ls)
    → more ≡ with_first (take (length ls - (length ls - 1 - i)) (drop (length ls - 1 - i) ls)) ms → more ≡ label_members (drop (length ls - (i + 1)) ls)
back_turn ls i ms more below is new =
    let here : length ls - i ≡ suc (length ls - 1 - i) = omega arith in
    let same : length ls - (i + 1) ≡ length ls - 1 - i = omega arith in
    let within : length ls - 1 - i < length ls = omega arith in
    new ∙ rw (take_rest ls (length ls - 1 - i), is, here, same) (one_more (length ls - 1 - i) ls within)
