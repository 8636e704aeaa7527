-- Updates, lists and tests.
use Rattle.std.proofs.Common.{◌≡◌, ℕ, ◌<◌, ◌≤◌, List, [], ◌∷◌, ◌++◌, length, drop, refl, sym, Some, None, eqb, subst, ◌⊎◌, inl, inr}
use Rattle.std.proofs.lemmas.Bool.{eqb-true, eqb-false, cond_both, cases_lt}
use Rattle.gz_reader.specs.Reader.{updated}

pub upd_here : {A : Type 0} (f : ℕ → A) (n : ℕ) (v : A) → updated f n v n ≡ v
upd_here f n v = cond_both (eqb n n) v (f n) (λ r. r ≡ v) (λ _. refl) (λ e. absurd (eqb-false n n e refl))

pub upd_other : {A : Type 0} (f : ℕ → A) (n : ℕ) (v : A) (m : ℕ) → (m ≡ n → ⊥) → updated f n v m ≡ f m
upd_other f n v m d = cond_both (eqb m n) v (f m) (λ r. r ≡ f m) (λ e. absurd (d (eqb-true m n e))) (λ _. refl)

pub upd_each : {A : Type 0} (f : ℕ → A) (n : ℕ) (v : A) (P : ℕ → A → Type 0) → P n v → (m : ℕ) → ((m ≡ n → ⊥) → P m (f m)) → P m (updated f n v m)
upd_each f n v P here m there = cond_both (eqb m n) v (f m) (P m) (λ e. let d : m ≡ n = eqb-true m n e in subst (λ k. P k v) (sym d) here) (λ e. there (eqb-false m n e))

pub some_same : {A : Type 0} {x y : A} → Some x ≡ Some y → x ≡ y
some_same {x = x} {y = y} e = cc

pub none_some : {A : Type 0} {x : A} → None ≡ Some x → ⊥
none_some {x = x} e = cc

pub drop_append : {A : Type 0} (xs ys : List A) → drop (length xs) (xs ++ ys) ≡ ys
drop_append [] ys = refl
drop_append (x ∷ xs) ys = drop_append xs ys
