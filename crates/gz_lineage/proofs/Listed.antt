-- Laws of `In` and `Each`, and of slots: what is in a slot has P of its name, the first value stays, and where all slots
-- are full each name has its value.
use Rattle.std.proofs.Common.{◌≡◌, ℕ, List, [], ◌∷◌, ◌++◌, refl, ap, sym, true, Option, Some, None, eqb, subst, inl, inr}
use Rattle.std.proofs.lemmas.Bool.{eqb-true, cond_both, and_parts, false≢true}
use Rattle.std.specs.Prelude.{slice_get, zero, suc}
use Rattle.std.specs.Prelude.{is_some}
use Rattle.gz_lineage.specs.Lists.{In, Each, fill, first_there, full, slots_for, names, all_at}

pub each_map : {A : Type 0} {P Q : A → Type 0} → ((x : A) → P x → Q x) → (xs : List A) → Each P xs → Each Q xs
each_map f [] a = tt
each_map f (x ∷ xs) a = (f x a.0, each_map f xs a.1)

pub each_in : {A : Type 0} (P : A → Type 0) (xs : List A) (x : A) → Each P xs → In x xs → P x
each_in P [] x a i = absurd i
each_in P (y ∷ ys) x a i = elim i [ inl e ↦ subst P (sym e) a.0 | inr j ↦ each_in P ys x a.1 j ]

pub in_append_left : {A : Type 0} (xs ys : List A) (x : A) → In x xs → In x (xs ++ ys)
in_append_left [] ys x i = absurd i
in_append_left (y ∷ xs) ys x i = elim i [ inl e ↦ inl e | inr j ↦ inr (in_append_left xs ys x j) ]

pub in_last : {A : Type 0} (xs : List A) (x : A) → In x (xs ++ x ∷ [])
in_last [] x = inl refl
in_last (y ∷ xs) x = inr (in_last xs x)

pub in_at : {A : Type 0} (xs : List A) (k : ℕ) (x : A) → slice_get xs k ≡ Some x → In x xs
in_at [] k x e = cc
in_at (y ∷ xs) zero x e = inl (cc)
in_at (y ∷ xs) (suc k) x e = inr (in_at xs k x e)

pub names_fill : {A : Type 0} (m : ℕ) (v : A) (ps : List (ℕ × Option A)) → names (fill m v ps) ≡ names ps
names_fill m v [] = refl
names_fill m v (p ∷ ps) =
    cond_both (eqb m p.0) ((p.0, Some (first_there p.1 v)) ∷ ps) (p ∷ fill m v ps) (λ q. names q ≡ p.0 ∷ names ps)
    (λ _. refl) (λ _. ap (λ l. p.0 ∷ l) (names_fill m v ps))

pub names_slots : (A : Type 0) (ms : List ℕ) → names (slots_for {A = A} ms) ≡ ms
names_slots A [] = refl
names_slots A (m ∷ ms) = ap (λ l. m ∷ l) (names_slots A ms)

pub names_all : {A : Type 0} (k : A) (ms : List ℕ) → names (all_at k ms) ≡ ms
names_all k [] = refl
names_all k (m ∷ ms) = ap (λ l. m ∷ l) (names_all k ms)

-- what is in a slot has P of its name
abbrev pub Slot : {A : Type 0} → (ℕ → A → Type 0) → ℕ → Option A → Type 0
Slot P m None = Unit {0}
Slot P m (Some x) = P m x

abbrev pub Slots : {A : Type 0} → (ℕ → A → Type 0) → List (ℕ × Option A) → Type 0
Slots P [] = Unit {0}
Slots P (p ∷ ps) = Slot P p.0 p.1 × Slots P ps

slot_map : {A : Type 0} {P Q : ℕ → A → Type 0} → ((m : ℕ) (x : A) → P m x → Q m x) → (m : ℕ) (o : Option A) → Slot P m o → Slot Q m o
slot_map f m None a = tt
slot_map f m (Some x) a = f m x a

pub slots_map : {A : Type 0} {P Q : ℕ → A → Type 0} → ((m : ℕ) (x : A) → P m x → Q m x) → (ps : List (ℕ × Option A)) → Slots P ps → Slots Q ps
slots_map f [] a = tt
slots_map f (p ∷ ps) a = (slot_map f p.0 p.1 a.0, slots_map f ps a.1)

slot_first : {A : Type 0} (P : ℕ → A → Type 0) (m : ℕ) (o : Option A) (v : A) → Slot P m o → P m v → P m (first_there o v)
slot_first P m None v a h = h
slot_first P m (Some x) v a h = a

pub slots_fill : {A : Type 0} (P : ℕ → A → Type 0) (m : ℕ) (v : A) (ps : List (ℕ × Option A)) → P m v → Slots P ps → Slots P (fill m v ps)
slots_fill P m v [] h a = tt
slots_fill P m v (p ∷ ps) h a =
    cond_both (eqb m p.0) ((p.0, Some (first_there p.1 v)) ∷ ps) (p ∷ fill m v ps) (Slots P)
    (λ e. let d : m ≡ p.0 = eqb-true m p.0 e in (slot_first P p.0 p.1 v a.0 (subst (λ n. P n v) d h), a.1))
    (λ _. (a.0, slots_fill P m v ps h a.1))

pub slots_empty : {A : Type 0} (P : ℕ → A → Type 0) (ms : List ℕ) → Slots P (slots_for ms)
slots_empty P [] = tt
slots_empty P (m ∷ ms) = (tt, slots_empty P ms)

slot_some : {A : Type 0} (P : ℕ → A → Type 0) (m : ℕ) (o : Option A) → is_some o ≡ true → Slot P m o → (x : A) × (o ≡ Some x) × P m x
slot_some P m None e a = absurd (false≢true e)
slot_some P m (Some x) e a = (x, refl, a)

-- where all slots are full, each name has its value
pub full_each : {A : Type 0} (P : ℕ → A → Type 0) (ps : List (ℕ × Option A)) → full ps ≡ true → Slots P ps → Each (λ m. (x : A) × P m x) (names ps)
full_each P [] e a = tt
full_each P (p ∷ ps) e a =
    let h = and_parts (is_some p.1) (full ps) e in
    let s = slot_some P p.0 p.1 h.0 a.0 in
    ((s.0, s.2), full_each P ps h.1 a.1)

pub each_append : {A : Type 0} (P : A → Type 0) (xs ys : List A) → Each P xs → Each P ys → Each P (xs ++ ys)
each_append P [] ys a b = b
each_append P (x ∷ xs) ys a b = (a.0, each_append P xs ys a.1 b)
