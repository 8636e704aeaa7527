-- Sources: what stands between two offsets stays.
use Rattle.std.proofs.Common.{◌≡◌, ℕ, zero, suc, ◌<◌, ◌≤◌, List, [], ◌∷◌, ◌++◌, length, drop, refl, ap, sym, ◌∙◌, arith, Bool, true, leb, subst, inl, inr}
use Rattle.std.proofs.lemmas.Bool.{cond_both, cases_eq, and_parts, leb-true, leb-false}
use Rattle.gz_reader.specs.Reader.{Message, updated}
use Rattle.gz_reader.specs.Reader.{committed}
use Rattle.gz_once.specs.Applications.{App, prefix, part, parts, each_below, reach, upto}
use Rattle.gz_reader.specs.Lists.{Begins}
use Rattle.gz_reader.proofs.Updates.{upd_each}

pub prefix_begins : {A : Type 0} (n : ℕ) (xs : List A) → Begins (prefix n xs) xs
prefix_begins n [] = refl
prefix_begins n (x ∷ xs) = cond_both (leb (length (x ∷ xs)) n) _ _ (λ r. Begins r (x ∷ xs)) (λ _. inl refl) (λ _. inr (prefix_begins n xs))

pub prefix_all : {A : Type 0} (n : ℕ) (xs : List A) → length xs ≤ n → prefix n xs ≡ xs
prefix_all n [] l = refl
prefix_all n (x ∷ xs) l = cond_both (leb (length (x ∷ xs)) n) _ _ (λ r. r ≡ x ∷ xs) (λ _. refl) (λ e. absurd (let h = leb-false (length (x ∷ xs)) n e in omega arith))

pub each_at : (n : ℕ) (f : ℕ → Bool) → each_below n f ≡ true → (k : ℕ) → k < n → f k ≡ true
each_at zero f e k l = absurd (omega arith)
each_at (suc n) f e k l =
    let h = and_parts (f n) (each_below n f) e in
    elim (cases_eq k n) [ inl x ↦ rw x h.0 | inr x ↦ each_at n f h.1 k (omega arith) ]

pub upto_begins : (g : App) (k n : ℕ) (t : List Message) → Begins (upto g k n t) t
upto_begins g k n [] = refl
upto_begins g k n (m ∷ t) = cond_both (leb (reach g k (m ∷ t)) n) _ _ (λ r. Begins r (m ∷ t)) (λ _. inl refl) (λ _. inr (upto_begins g k n t))

pub upto_push : (g : App) (k n : ℕ) (m : Message) (t : List Message) → n ≤ reach g k t → upto g k n (m ∷ t) ≡ upto g k n t
upto_push g k n m t l = cond_both (leb (reach g k (m ∷ t)) n) _ _ (λ r. r ≡ upto g k n t) (λ e. absurd (let h = leb-true (reach g k (m ∷ t)) n e in omega arith)) (λ _. refl)

pub part_push : (g : App) (k : ℕ) (t : List Message) (m : Message) (from to : ℕ) → from ≤ to → to ≤ reach g k t → part g k (m ∷ t) from to ≡ part g k t from to
part_push g k t m from to a b = ap (λ u. drop (length (committed u)) (committed (upto g k to (m ∷ t)))) (upto_push g k from m t (omega arith)) ∙ ap (λ u. drop (length (committed (upto g k from t))) (committed u)) (upto_push g k to m t b)

pub parts_push : (g : App) (n : ℕ) (texts : ℕ → List Message) (k : ℕ) (m : Message) (from to : ℕ → ℕ) → ((i : ℕ) → i < n → (from i ≤ to i) × (to i ≤ reach g i (texts i))) →
    parts g n (updated texts k (m ∷ texts k)) from to ≡ parts g n texts from to
parts_push g zero texts k m from to w = refl
parts_push g (suc n) texts k m from to w =
    ap (λ l. l ++ part g n (updated texts k (m ∷ texts k) n) (from n) (to n)) (parts_push g n texts k m from to (λ i l. w i (omega arith)))
    ∙ ap (λ l. parts g n texts from to ++ l) (upd_each texts k (m ∷ texts k) (λ i t. i ≡ n → part g n t (from n) (to n) ≡ part g n (texts n) (from n) (to n))
    (λ e. let h = w n (omega arith) in subst (λ i. part g n (m ∷ texts i) (from n) (to n) ≡ part g n (texts n) (from n) (to n)) (sym e) (part_push g n (texts n) m (from n) (to n) h.0 h.1)) n (λ _ _. refl) refl)
