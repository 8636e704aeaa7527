-- Things in the order of their names: how many there are, and what holds of each.
use Rattle.std.proofs.Common.{◌≡◌, ℕ, ◌+◌, ◌≤◌, List, [], ◌∷◌, ◌++◌, length, suc, refl, ap, arith}
use Rattle.std.specs.Prelude.{⊤}
use Rattle.std.specs.declared.cmp.Ordering.{Ordering}
use Rattle.std.specs.declared.cmp.Ordering.TheVariants.{Less, Equal, Greater}
use Rattle.std.specs.Ordering.{nat_cmp, match_ordering}
use Rattle.std.specs.Cmp.Lexicographic.{slice_cmp}
use Rattle.std.specs.Map.{values_of}
use Rattle.std.specs.BTreeMap.{insert_entry}
use Rattle.gz_registry.specs.Keys.{put_named, in_order}

-- ---- what holds of each

-- the fact holds of each of these
abbrev pub Each : {A : Type 0} → (A → Type 0) → List A → Type 0
Each P [] = ⊤
Each P (a ∷ as_) = P a × Each P as_

-- the fact holds of the thing beside each name
abbrev pub Values : {A : Type 0} → (A → Type 0) → List (List ℕ × A) → Type 0
Values P [] = ⊤
Values P (e ∷ es) = P e.1 × Values P es

inserted_by : {A : Type 0} (P : A → Type 0) (o : Ordering) (name : List ℕ) (a : A) (e : List ℕ × A) (es rest : List (List ℕ × A)) → P a → P e.1 → Values P es → Values P rest
    → Values P (match_ordering o ((name, a) ∷ e ∷ es) ((e.0, a) ∷ es) (e ∷ rest))
inserted_by P Less name a e es rest new old each others = (new, (old, each))
inserted_by P Equal name a e es rest new old each others = (new, each)
inserted_by P Greater name a e es rest new old each others = (old, others)

pub inserted : {A : Type 0} (P : A → Type 0) (name : List ℕ) (a : A) (es : List (List ℕ × A)) → P a → Values P es → Values P (insert_entry (slice_cmp nat_cmp) es name a)
inserted P name a [] new each = (new, tt)
inserted P name a (e ∷ es) new each =
    inserted_by P (slice_cmp nat_cmp name e.0) name a e es (insert_entry (slice_cmp nat_cmp) es name a) new each.0 each.1 (inserted P name a es new each.1)

put_each : {A : Type 0} (P : A → Type 0) (named sorted : List (List ℕ × A)) → Values P named → Values P sorted → Values P (put_named named sorted)
put_each P [] sorted new each = each
put_each P (e ∷ es) sorted new each = put_each P es (insert_entry (slice_cmp nat_cmp) sorted e.0 e.1) new.1 (inserted P e.0 e.1 sorted new.0 each)

pub of_values : {A : Type 0} (P : A → Type 0) (es : List (List ℕ × A)) → Values P es → Each P (values_of es)
of_values P [] each = tt
of_values P (e ∷ es) each = (each.0, of_values P es each.1)

-- what holds of each holds of each in the order of the names
pub each_in_order : {A : Type 0} (P : A → Type 0) (named : List (List ℕ × A)) → Values P named → Each P (in_order named)
each_in_order P named each = of_values P (put_named named []) (put_each P named [] each tt)

pub each_append : {A : Type 0} (P : A → Type 0) (xs ys : List A) → Each P xs → Each P ys → Each P (xs ++ ys)
each_append P [] ys prefix back = back
each_append P (x ∷ xs) ys prefix back = (prefix.0, each_append P xs ys prefix.1 back)

-- ---- how many there are

inserted_count_by : {A : Type 0} (o : Ordering) (name : List ℕ) (a : A) (e : List ℕ × A) (es rest : List (List ℕ × A)) → length rest ≤ length es + 1
    → length (match_ordering o ((name, a) ∷ e ∷ es) ((e.0, a) ∷ es) (e ∷ rest)) ≤ length (e ∷ es) + 1
inserted_count_by Less name a e es rest few = omega arith
inserted_count_by Equal name a e es rest few = omega arith
inserted_count_by Greater name a e es rest few = omega (arith, few)

inserted_count : {A : Type 0} (name : List ℕ) (a : A) (es : List (List ℕ × A)) → length (insert_entry (slice_cmp nat_cmp) es name a) ≤ length es + 1
inserted_count name a [] = omega arith
inserted_count name a (e ∷ es) =
    inserted_count_by (slice_cmp nat_cmp name e.0) name a e es (insert_entry (slice_cmp nat_cmp) es name a) (inserted_count name a es)

put_count : {A : Type 0} (named sorted : List (List ℕ × A)) → length (put_named named sorted) ≤ length named + length sorted
put_count [] sorted = omega arith
put_count (e ∷ es) sorted =
    let more = inserted_count e.0 e.1 sorted in
    let rest = put_count es (insert_entry (slice_cmp nat_cmp) sorted e.0 e.1) in
    omega (arith, more, rest)

values_count : {A : Type 0} (es : List (List ℕ × A)) → length (values_of es) ≡ length es
values_count [] = refl
values_count (e ∷ es) = ap (λ (n : ℕ). suc n) (values_count es)

pub in_order_count : {A : Type 0} (named : List (List ℕ × A)) → length (in_order named) ≤ length named
in_order_count {A} named =
    let none : List (List ℕ × A) = [] in
    let few = put_count named none in
    let same = values_count (put_named named none) in
    omega (arith, few, same)
