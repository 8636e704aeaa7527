-- Lists in which each entry stands where a request lands it (`Lawful`): a prefix of one is one, and so is one with a mark
-- more that lands behind it. What lands isn't empty, so entries are told from resets by their bytes.
use Rattle.std.proofs.Common.{◌≡◌, ℕ, ◌<◌, List, [], ◌∷◌, ◌++◌, length, take, get_or, refl, sym, ◌∙◌, arith, subst, inl, inr, Option, Some, None, zero, suc}
use Rattle.std.specs.Prelude.{◌==◌}
use Rattle.std.proofs.lemmas.Bool.{cases_lt, cond_both, eqb-false}
use Rattle.std.proofs.lemmas.List.{length_push, take-append-le, take_all}
use Rattle.gz_label.specs.declared.entry.Entry.{Entry}
use Rattle.gz_journal.specs.declared.request.Request.{Request}
use Rattle.gz_journal.specs.declared.judgement.Landed.{Landed}
use Rattle.gz_journal.specs.declared.judgement.Landed.TheVariants.{WrongOffset, RegisterMismatch, TooLarge}
use Rattle.gz_journal.specs.declared.judgement.Landed.TheVariants as landed
use Rattle.gz_journal.specs.JournalList.{new_end_of}
use Rattle.gz_lineage.specs.Prefix.{IsPrefix}
use Rattle.gz_lineage.specs.Marks.{Mark, Reset, Added, MarkLanded, Lawful, judged_at}
use Rattle.gz_lineage.specs.Lists.{Each}
use Rattle.gz_lineage.proofs.Prefixes.{pre_len, pre_take_of, pre_read}

pub lawful_nil : Lawful []
lawful_nil k l = absurd (omega arith)

pub lawful_prefix : (xs ys : List Mark) → IsPrefix xs ys → Lawful ys → Lawful xs
lawful_prefix xs ys p a k l =
    subst (λ m. MarkLanded (take k xs) m) (pre_read k Reset p l)
    (subst (λ f. MarkLanded f (get_or ys k Reset)) (pre_take_of k p (omega arith)) (a k (omega (arith, pre_len p))))

pub lawful_push : (xs : List Mark) (x : Mark) → Lawful xs → MarkLanded xs x → Lawful (xs ++ x ∷ [])
lawful_push xs x a here k l = elim (cases_lt k (length xs)) [
  | inl m ↦ subst (λ f. MarkLanded f (get_or (xs ++ x ∷ []) k Reset)) (sym (take-append-le k xs (x ∷ []) (omega arith)))
      (subst (λ y. MarkLanded (take k xs) y) (sym (get_below xs x k m)) (a k m))
  | inr m ↦ (let z : k ≡ length xs = omega (arith, length_push xs x) in
      subst (λ f. MarkLanded f (get_or (xs ++ x ∷ []) k Reset)) (sym (take-append-le k xs (x ∷ []) (omega arith) ∙ take_all k xs (omega arith)))
      (subst (λ y. MarkLanded xs y) (sym (get_end xs x k z)) here))
]
  where
    get_below : (xs : List Mark) (x : Mark) (k : ℕ) → k < length xs → get_or (xs ++ x ∷ []) k Reset ≡ get_or xs k Reset
    get_below [] x k l = absurd (omega arith)
    get_below (y ∷ ys) x zero l = refl
    get_below (y ∷ ys) x (suc k) l = get_below ys x k (omega arith)

    get_end : (xs : List Mark) (x : Mark) (k : ℕ) → k ≡ length xs → get_or (xs ++ x ∷ []) k Reset ≡ x
    get_end [] x zero e = refl
    get_end [] x (suc k) e = absurd (omega arith)
    get_end (y ∷ ys) x zero e = absurd (omega arith)
    get_end (y ∷ ys) x (suc k) e = get_end ys x k (omega arith)

-- what lands isn't empty
pub lands_full : (r : Request) (a : Landed) (end : ℕ) → new_end_of a r ≡ Some end → 0 < length r.content
lands_full r (landed.Landed begin stop) end e =
    cond_both (length r.content == 0) None (Some stop) (λ (o : Option ℕ). o ≡ Some end → 0 < length r.content) (λ _ f. cc) (λ t _. let d = eqb-false (length r.content) 0 t in more (length r.content) d) e
  where
    more : (n : ℕ) → (n ≡ 0 → ⊥) → 0 < n
    more zero d = absurd (d refl)
    more (suc n) d = omega arith
lands_full r (WrongOffset head) end e = cc
lands_full r (RegisterMismatch registers) end e = cc
lands_full r (TooLarge limit) end e = cc
