-- Labels as text.
use Rattle.std.proofs.Common.{◌≡◌, ℕ, List, [], ◌∷◌, ◌++◌, ◌≤◌, ◌-◌, length, take, drop, get_or, sym, ap, arith}
use Rattle.std.proofs.lemmas.List.{append-nil}
use Rattle.std.proofs.Math.Seq.{take-length}
use Rattle.gz_label.specs.declared.label.Label.{Label}
use Rattle.gz_label.specs.Labels.{spelling, print_of, print_more}

-- the first label, and the others behind it
pub print_first : (l : Label) (ls : List Label) → print_of (l ∷ ls) ≡ spelling l ++ print_more ls
print_first l [] = sym (append-nil (spelling l))
print_first l (m ∷ ms) = ap (λ (text : List ℕ). spelling l ++ 44 ∷ text) (print_first m ms)

pub print_from : (ls : List Label) (l : Label) → 1 ≤ length ls → l ≡ get_or ls 0 l → spelling l ++ print_more (take (length ls - 1) (drop 1 ls)) ≡ print_of ls
print_from [] l some is = absurd (omega arith)
print_from (m ∷ ms) l some is =
    let behind : length (m ∷ ms) - 1 ≡ length ms = omega arith in
    rw (is, behind, take-length ms) (sym (print_first m ms))
