-- In pairs that are in ascending order those of one name stand side by side.
use Rattle.std.proofs.Common.{◌≡◌, ℕ, ◌+◌, ◌-◌, ◌<◌, ◌≤◌, List, [], ◌∷◌, length, take, drop, get_or, refl, ap, sym, ◌∙◌, subst, Bool, true, false, cond, filter, arith, true≢false, ⊎_elim, Ordering}
use Prim.Native.Nat.{zero, suc}
use Rattle.std.specs.Ordering.{nat_cmp, ordering_then, ordering_reverse, ordering_index, is_lt, is_eq, is_le}
use Rattle.std.specs.declared.cmp.Ordering.TheVariants.{Less, Equal, Greater}
use Rattle.std.specs.List.Sorted.{IsPartitionedBy, IsPartitionPoint, IsNonDecreasingBy, IsSortedBy}
use Rattle.std.specs.Cmp.Lexicographic.{slice_cmp, nat_list_cmp_total, texts_ties}
use Rattle.std.proofs.lemmas.List.{get_or_default}
use Rattle.std.proofs.lemmas.List.Sorted.{searchable_from_sorted}
use Rattle.std.proofs.lemmas.Bool.{cases_lt}
use Rattle.gz_keyspace.specs.Keys.{same_key}
use Rattle.gz_keyspace.proofs.RowLemmas.{turned}
use Rattle.gz_alloc.specs.Ascending.{pair_at, ascending}
use Rattle.gz_alloc.proofs.RiseLemmas.{ascending_facts, ascending_step}
use Rattle.gz_converge.specs.Converged.{Pairs}

abbrev Pair : Type 0
Pair = List ℕ × List ℕ

abbrev order : List ℕ → List ℕ → Ordering
order = slice_cmp nat_cmp

-- ---- what passes a test in one range alone

filter_none : {X : Type 0} (p : X → Bool) (xs : List X) → ((k : ℕ) (d : X) → k < length xs → p (get_or xs k d) ≡ false) → filter p xs ≡ []
filter_none p [] each = refl
filter_none p (x ∷ xs) each = ap (λ (b : Bool). cond b (x ∷ filter p xs) (filter p xs)) (each 0 x (omega arith)) ∙ filter_none p xs (λ k d lk. each (suc k) d (omega (arith, lk)))

filter_to : {X : Type 0} (p : X → Bool) (xs : List X) (e : ℕ) → e ≤ length xs → ((k : ℕ) (d : X) → k < e → p (get_or xs k d) ≡ true)
    → ((k : ℕ) (d : X) → e ≤ k → k < length xs → p (get_or xs k d) ≡ false) → take e xs ≡ filter p xs
filter_to p [] zero le wanted absent = refl
filter_to p [] (suc e) le wanted absent = absurd (omega (arith, le))
filter_to p (x ∷ xs) zero le wanted absent = sym (filter_none p (x ∷ xs) (λ k d lk. absent k d (omega arith) lk))
filter_to p (x ∷ xs) (suc e) le wanted absent =
    ap (λ l. x ∷ l) (filter_to p xs e (omega (arith, le)) (λ k d lk. wanted (suc k) d (omega (arith, lk))) (λ k d ge lk. absent (suc k) d (omega (arith, ge)) (omega (arith, lk))))
    ∙ sym (ap (λ (b : Bool). cond b (x ∷ filter p xs) (filter p xs)) (wanted 0 x (omega arith)))

filter_range : {X : Type 0} (p : X → Bool) (xs : List X) (s e : ℕ) → s ≤ e → e ≤ length xs → ((k : ℕ) (d : X) → k < s → p (get_or xs k d) ≡ false)
    → ((k : ℕ) (d : X) → s ≤ k → k < e → p (get_or xs k d) ≡ true) → ((k : ℕ) (d : X) → e ≤ k → k < length xs → p (get_or xs k d) ≡ false) → take (e - s) (drop s xs) ≡ filter p xs
filter_range p xs zero e se le before wanted absent = ap (λ n. take n xs) (whole e) ∙ filter_to p xs e le (λ k d lk. wanted k d (omega arith) lk) absent
  where
    whole : (n : ℕ) → n - 0 ≡ n
    whole n = omega arith
filter_range p [] (suc s) e se le before wanted absent = absurd (omega (arith, se, le))
filter_range p (x ∷ xs) (suc s) zero se le before wanted absent = absurd (omega (arith, se))
filter_range p (x ∷ xs) (suc s) (suc e) se le before wanted absent =
    ap (λ n. take n (drop s xs)) (less e s)
    ∙ filter_range p xs s e (omega (arith, se)) (omega (arith, le)) (λ k d lk. before (suc k) d (omega (arith, lk))) (λ k d ge lk. wanted (suc k) d (omega (arith, ge)) (omega (arith, lk)))
    (λ k d ge lk. absent (suc k) d (omega (arith, ge)) (omega (arith, lk)))
    ∙ sym (ap (λ (b : Bool). cond b (x ∷ filter p xs) (filter p xs)) (before 0 x (omega arith)))
  where
    less : (a b : ℕ) → suc a - suc b ≡ a - b
    less a b = omega arith

-- ---- pairs in ascending order

item_turned : (o more : Ordering) → ordering_then o more ≡ Less → is_lt (ordering_reverse o) ≡ false
item_turned Less more e = refl
item_turned Equal more e = refl
item_turned Greater more e = absurd (true≢false (sym (ap is_lt e)))

items_sorted : (ps : Pairs) → ascending ps ≡ true → IsSortedBy (λ (p q : Pair). is_lt (order p.0 q.0)) ps
items_sorted ps up k d low lt =
    let within : suc k < length ps = omega (arith, lt) in
    let first : get_or ps k d ≡ pair_at ps k = get_or_default ps k d ([], []) (omega (arith, lt)) in
    let second : get_or ps (k + 1) d ≡ pair_at ps (suc k) = get_or_default ps (k + 1) d ([], []) lt ∙ ap (λ n. pair_at ps n) (next k) in
    subst (λ (p : Pair). is_lt (order (get_or ps (k + 1) d).0 p.0) ≡ false) (sym first)
    (subst (λ (q : Pair). is_lt (order q.0 (pair_at ps k).0) ≡ false) (sym second)
    (ap is_lt (turned (pair_at ps k).0 (pair_at ps (suc k)).0 (order (pair_at ps k).0 (pair_at ps (suc k)).0) refl)
    ∙ item_turned (order (pair_at ps k).0 (pair_at ps (suc k)).0) (order (pair_at ps k).1 (pair_at ps (suc k)).1) (ascending_step ps k (ascending_facts ps up) within)))
  where
    next : (n : ℕ) → n + 1 ≡ suc n
    next n = omega arith

items_rise : (ps : Pairs) (name : List ℕ) → ascending ps ≡ true → IsNonDecreasingBy (λ (p : Pair). ordering_index (order p.0 name)) ps
items_rise ps name up = searchable_from_sorted nat_list_cmp_total (λ (p : Pair). p.0) ps name (items_sorted ps up)

lt_before : (a b : Ordering) → ordering_index a ≤ ordering_index b → is_lt b ≡ true → is_lt a ≡ true
lt_before Less b le e = refl
lt_before Equal Less le e = absurd (omega (arith, le))
lt_before Equal Equal le e = absurd (true≢false (sym e))
lt_before Equal Greater le e = absurd (true≢false (sym e))
lt_before Greater Less le e = absurd (omega (arith, le))
lt_before Greater Equal le e = absurd (true≢false (sym e))
lt_before Greater Greater le e = absurd (true≢false (sym e))

le_before : (a b : Ordering) → ordering_index a ≤ ordering_index b → is_le b ≡ true → is_le a ≡ true
le_before Less b le e = refl
le_before Equal b le e = refl
le_before Greater Less le e = absurd (omega (arith, le))
le_before Greater Equal le e = absurd (omega (arith, le))
le_before Greater Greater le e = absurd (true≢false (sym e))

-- the pairs of lesser names come first
pub below_parted : (ps : Pairs) (name : List ℕ) → ascending ps ≡ true → IsPartitionedBy (λ (p : Pair). is_lt (order p.0 name)) ps
below_parted ps name up i j d le lj e = lt_before (order (get_or ps i d).0 name) (order (get_or ps j d).0 name) (items_rise ps name up i j d le lj) e

-- and then those of the name
pub within_parted : (ps : Pairs) (name : List ℕ) → ascending ps ≡ true → IsPartitionedBy (λ (p : Pair). is_le (order p.0 name)) ps
within_parted ps name up i j d le lj e = le_before (order (get_or ps i d).0 name) (order (get_or ps j d).0 name) (items_rise ps name up i j d le lj) e

-- ---- the range of a name

is_named : (name item : List ℕ) (o : Ordering) → order item name ≡ o → same_key name item ≡ is_eq o
is_named name item o is = texts_ties name item ∙ ap is_eq (turned item name o is) ∙ same_either o
  where
    same_either : (o : Ordering) → is_eq (ordering_reverse o) ≡ is_eq o
    same_either Less = refl
    same_either Equal = refl
    same_either Greater = refl

lt_named : (name item : List ℕ) → is_lt (order item name) ≡ true → same_key name item ≡ false
lt_named name item e = at (order item name) refl e
  where
    at : (o : Ordering) → order item name ≡ o → is_lt o ≡ true → same_key name item ≡ false
    at Less is f = is_named name item Less is
    at Equal is f = absurd (true≢false (sym f))
    at Greater is f = absurd (true≢false (sym f))

gt_named : (name item : List ℕ) → is_le (order item name) ≡ false → same_key name item ≡ false
gt_named name item e = at (order item name) refl e
  where
    at : (o : Ordering) → order item name ≡ o → is_le o ≡ false → same_key name item ≡ false
    at Less is f = absurd (true≢false f)
    at Equal is f = absurd (true≢false f)
    at Greater is f = is_named name item Greater is

eq_named : (name item : List ℕ) → is_lt (order item name) ≡ false → is_le (order item name) ≡ true → same_key name item ≡ true
eq_named name item e f = at (order item name) refl e f
  where
    at : (o : Ordering) → order item name ≡ o → is_lt o ≡ false → is_le o ≡ true → same_key name item ≡ true
    at Less is e f = absurd (true≢false e)
    at Equal is e f = is_named name item Equal is
    at Greater is e f = absurd (true≢false (sym f))

lt_le : (o : Ordering) → is_lt o ≡ true → is_le o ≡ true
lt_le Less e = refl
lt_le Equal e = absurd (true≢false (sym e))
lt_le Greater e = absurd (true≢false (sym e))

-- where the lesser names end, and where the names up to this one end
abbrev pub IsStart : Pairs → List ℕ → ℕ → Type 0
IsStart ps name s = IsPartitionPoint (λ (p : Pair). is_lt (order p.0 name) ≡ true) (λ (p : Pair). is_lt (order p.0 name) ≡ false) ps s

abbrev pub IsEnd : Pairs → List ℕ → ℕ → Type 0
IsEnd ps name e = IsPartitionPoint (λ (p : Pair). is_le (order p.0 name) ≡ true) (λ (p : Pair). is_le (order p.0 name) ≡ false) ps e

pub start_before_end : (ps : Pairs) (name : List ℕ) (s e : ℕ) → s ≤ length ps → IsStart ps name s → IsEnd ps name e → s ≤ e
start_before_end ps name s e within start end = ⊎_elim
    (λ (lt : e < s).
    let item : List ℕ = (get_or ps e ([], [])).0 in
    let wanted : is_le (order item name) ≡ true = lt_le (order item name) (start.0 e ([], []) (omega arith) lt) in
    let absent : is_le (order item name) ≡ false = end.1 e ([], []) (omega arith) (omega (arith, lt, within)) in
    absurd (true≢false (sym wanted ∙ absent)))
    (λ (le : s ≤ e). le)
    (cases_lt e s)

-- the pairs of the name are those in between
pub side_by_side : (ps : Pairs) (name : List ℕ) (s e : ℕ) → s ≤ length ps → e ≤ length ps → IsStart ps name s → IsEnd ps name e
    → take (e - s) (drop s ps) ≡ filter (λ (p : Pair). same_key name p.0) ps
side_by_side ps name s e start_in end_in start end = filter_range (λ (p : Pair). same_key name p.0) ps s e (start_before_end ps name s e start_in start end) end_in
    (λ k d lk. lt_named name (get_or ps k d).0 (start.0 k d (omega arith) lk))
    (λ k d ge lk. eq_named name (get_or ps k d).0 (start.1 k d ge (omega (arith, lk, end_in))) (end.0 k d (omega arith) lk))
    (λ k d ge lk. gt_named name (get_or ps k d).0 (end.1 k d ge lk))
