-- The best report, from the last place on.
use Rattle.std.proofs.Common.{◌≡◌, ℕ, zero, suc, ◌+◌, ◌<◌, ◌≤◌, List, [], ◌∷◌, length, drop, refl, ap, sym, ◌∙◌, arith}
use Rattle.std.proofs.lemmas.List.{drop_all}
use Rattle.gz_replica.specs.Slots.{Report, Slots, value_at}
use Rattle.gz_replica.specs.Opening.{best, better}
use Rattle.gz_replica.proofs.Slotted.{value_past}

-- behind the last place there is none
pub best_none : (o : ℕ) (ps : Slots Report) → value_at ps (length ps) ≡ best o (drop (length ps) ps)
best_none o ps = value_past ps (length ps) (omega arith) ∙ ap (λ (qs : Slots Report). best o qs) (sym (drop_all (length ps) ps (omega arith)))

-- one place before
pub best_back : (o : ℕ) (ps : Slots Report) (i n : ℕ) → n ≡ i + 1 → i < length ps → best o (drop i ps) ≡ better o (value_at ps i) (best o (drop n ps))
best_back o [] i n behind within = absurd (omega arith)
best_back o (p ∷ ps) zero n behind within = ap (λ (k : ℕ). better o p.1 (best o (drop k (p ∷ ps)))) (sym behind)
best_back o (p ∷ ps) (suc i) n behind within =
    let next : suc (i + 1) ≡ n = omega arith in
    best_back o ps i (i + 1) refl (omega arith) ∙ ap (λ (k : ℕ). better o (value_at ps i) (best o (drop k (p ∷ ps)))) next
