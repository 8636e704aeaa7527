-- The choice is the greatest of (adopted, end) among the reports that count.
use Rattle.std.proofs.Common.{◌≡◌, ℕ, ◌<◌, ◌≤◌, List, [], ◌∷◌, length, refl, ap, sym, ◌∙◌, arith, true, false, Option, Some, None, subst, ◌⊎◌, inl, inr}
use Rattle.std.specs.Prelude.{Bool, nat_lt, nat_le, ◌==◌, if◌then◌else◌}
use Rattle.std.proofs.lemmas.Bool.{leb-true, leb-false, cond_both, cases_order, cases_lt, and_from, and_left, and_right, or_left, or_right, or_from, eq-eqb, ne_eqb, lt-ltb, le-ltb}
use Rattle.gz_lineage.specs.Nodes.{Report}
use Rattle.gz_lineage.specs.Rules.{beats, larger, better, best}
use Rattle.gz_lineage.specs.Safety.{IsNoBetter, IsBest}

-- The greater epoch beats, and of one epoch the longer spool.
beats_is : (q r : Report) → ((beats q r ≡ true) × IsNoBetter r q) ⊎ ((beats q r ≡ false) × IsNoBetter q r)
beats_is q r = elim (cases_order r.adopted q.adopted) [
  | inl same ↦ elim (cases_lt (length r.image.entries) (length q.image.entries)) [
    | inl less ↦ inl (or_right (nat_lt r.adopted q.adopted) _ (and_from _ _ (eq-eqb r.adopted q.adopted same) (lt-ltb (length r.image.entries) (length q.image.entries) less)), inr (same, omega arith))
    | inr more ↦ inr (or_from _ _ (le-ltb r.adopted q.adopted (omega arith)) (and_right (r.adopted == q.adopted) _ (le-ltb (length r.image.entries) (length q.image.entries) more)), inr (sym same, more))
  ]
  | inr x ↦ elim x [
    | inl less ↦ inl (or_left _ _ (lt-ltb r.adopted q.adopted less), inl less)
    | inr more ↦ inr (or_from _ _ (le-ltb r.adopted q.adopted (omega arith)) (and_left _ _ (ne_eqb r.adopted q.adopted (λ e. omega arith))), inl more)
  ]
]

no_better_trans : (r q p : Report) → IsNoBetter r q → IsNoBetter q p → IsNoBetter r p
no_better_trans r q p (inl a) (inl b) = inl (omega arith)
no_better_trans r q p (inl a) (inr b) = inl (omega (arith, b.0))
no_better_trans r q p (inr a) (inl b) = inl (omega (arith, a.0))
no_better_trans r q p (inr a) (inr b) = inr (a.0 ∙ b.0, omega (arith, a.1, b.1))

abbrev the_better : Report → Report → Bool → Option Report
the_better q r v = if v then Some q else Some r

abbrev slot : ℕ → Option Report → ℕ × Option Report
slot m v = (m, v)

same_slot : (k m : ℕ) (s r : Report) → slot k (Some s) ≡ slot m (Some r) → s ≡ r
same_slot k m s r e = let y : Some s ≡ Some r = ap (λ (t : ℕ × Option Report). t.1) e in cc

no_slot : (k m : ℕ) (s : Report) → slot k (Some s) ≡ slot m None → ⊥
no_slot k m s e = let y : Some s ≡ None = ap (λ (t : ℕ × Option Report). t.1) e in absurd (cc)

-- One more report that counts: it is chosen where the old choice doesn't beat it.
larger_is : (o m : ℕ) (r : Report) (ps : List (ℕ × Option Report)) → o ≤ r.adopted → (x : Option Report) → IsBest o ps x → IsBest o ((m, Some r) ∷ ps) (larger r x)
larger_is o m r ps l None none = (l, (m, inl refl), λ k s i c. elim i [ inl e ↦ inr (let z : s ≡ r = same_slot k m s r e in (ap (λ (t : Report). t.adopted) z, omega (arith, ap (λ (t : Report). length t.image.entries) z))) | inr j ↦ absurd (let z = none k s j in omega arith) ])
larger_is o m r ps l (Some q) a = elim (beats_is q r) [
  | inl y ↦ subst (λ v. IsBest o ((m, Some r) ∷ ps) (the_better q r v)) (sym y.0)
      (a.0, (a.1.0, inr a.1.1), λ k s i c. elim i [ inl e ↦ (let z : r ≡ s = sym (same_slot k m s r e) in subst (λ t. IsNoBetter t q) z y.1) | inr j ↦ a.2 k s j c ])
  | inr y ↦ subst (λ v. IsBest o ((m, Some r) ∷ ps) (the_better q r v)) (sym y.0)
      (l, (m, inl refl), λ k s i c. elim i [ inl e ↦ (let z : r ≡ s = sym (same_slot k m s r e) in subst (λ t. IsNoBetter t r) z (inr (refl, omega arith))) | inr j ↦ no_better_trans s q r (a.2 k s j c) y.1 ])
]

-- One more slot.
better_is : (o m : ℕ) (v : Option Report) (ps : List (ℕ × Option Report)) (x : Option Report) → IsBest o ps x → IsBest o ((m, v) ∷ ps) (better o v x)
better_is o m None ps None none = λ k s i. elim i [ inl e ↦ absurd (no_slot k m s e) | inr j ↦ none k s j ]
better_is o m None ps (Some q) a = (a.0, (a.1.0, inr a.1.1), λ k s i c. elim i [ inl e ↦ absurd (no_slot k m s e) | inr j ↦ a.2 k s j c ])
better_is o m (Some r) ps x a = cond_both (nat_le o r.adopted) (larger r x) x (IsBest o ((m, Some r) ∷ ps))
    (λ t. larger_is o m r ps (leb-true o r.adopted t) x a) (λ t. passes x a (leb-false o r.adopted t))
  where
    passes : (x : Option Report) → IsBest o ps x → r.adopted < o → IsBest o ((m, Some r) ∷ ps) x
    passes None none l = λ k s i. elim i [ inl e ↦ (let z : r ≡ s = sym (same_slot k m s r e) in subst (λ (t : Report). t.adopted < o) z l) | inr j ↦ none k s j ]
    passes (Some q) a l = (a.0, (a.1.0, inr a.1.1), λ k s i c. elim i [ inl e ↦ absurd (let z : r ≡ s = sym (same_slot k m s r e) in let y : r.adopted ≡ s.adopted = ap (λ (t : Report). t.adopted) z in omega arith) | inr j ↦ a.2 k s j c ])

pub best_is : (o : ℕ) (ps : List (ℕ × Option Report)) → IsBest o ps (best o ps)
best_is o [] = λ k s i. absurd i
best_is o (p ∷ ps) = better_is o p.0 p.1 ps (best o ps) (best_is o ps)
