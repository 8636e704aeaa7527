-- Rows in the order of their keys: where a key is, and what an edit there does.
use Rattle.std.proofs.Common.{◌≡◌, ℕ, zero, suc, ◌<◌, ◌≤◌, List, [], ◌∷◌, Bool, true, false, cond, not, refl, ap, sym, ◌∙◌, Some, None, Result, Ok, Err, IfOk, IfErr, length, filter, set, arith, subst, inl, inr}
use Rattle.std.specs.List.{insert, remove}
use Rattle.std.specs.List.Sorted.{IsSearchInRange, IsBinarySearchResult, IsNonDecreasingBy}
use Rattle.std.specs.Ordering.{nat_cmp, ordering_index, ordering_reverse, match_ordering, is_eq}
use Rattle.std.specs.declared.cmp.Ordering.{Ordering}
use Rattle.std.specs.declared.cmp.Ordering.TheVariants.{Less, Equal, Greater}
use Rattle.std.specs.Cmp.{IsTotalOrder}
use Rattle.std.specs.Cmp.Lexicographic.{slice_cmp, nat_list_cmp_total, texts_ties, bytes_decides}
use Rattle.std.proofs.lemmas.Cmp.{tied_itself}
use Rattle.std.proofs.lemmas.List.Sorted.{IsNonDecreasingBy-from_default}
use Rattle.std.proofs.lemmas.Bool.{cases_lt}
use Rattle.gz_keyspace.specs.declared.table.Held.{Held}
use Rattle.gz_keyspace.specs.Keys.{same_key, KeyMap, held_at, put, delete}
use Rattle.gz_keyspace.specs.Mirrors.{IsAbove, IsAscending}
use Rattle.gz_keyspace.specs.Rows.{row_at, IsAt, IsGap}

abbrev pub order : List ℕ → List ℕ → Ordering
order = slice_cmp nat_cmp

laws : IsTotalOrder order
laws = nat_list_cmp_total

-- ---- two keys

pub turned : (a b : List ℕ) (o : Ordering) → order a b ≡ o → order b a ≡ ordering_reverse o
turned a b o is = laws.antisymm b a ∙ ap ordering_reverse is

-- equal by the order is equal
pub same_from_order : (a b : List ℕ) → order a b ≡ Equal → a ≡ b
same_from_order a b is = (bytes_decides a b).0 (texts_ties a b ∙ ap is_eq is)

pub same_from_test : (a b : List ℕ) → same_key a b ≡ true → a ≡ b
same_from_test a b is = (bytes_decides a b).0 is

itself : (a : List ℕ) → order a a ≡ Equal
itself a = tied_itself laws a

-- keys that the order tells apart aren't equal
pub apart : (a b : List ℕ) (o : Ordering) → order a b ≡ o → same_key a b ≡ is_eq o
apart a b o is = texts_ties a b ∙ ap is_eq is

-- ---- keys above one

pub above_all : (a b : List ℕ) (rows : KeyMap) → order a b ≡ Less → IsAbove b rows → IsAbove a rows
above_all a b [] less above = tt
above_all a b (e ∷ es) less above = (laws.trans a b e.0 less above.0, above_all a b es less above.1)

above_at : (a : List ℕ) (rows : KeyMap) (i : ℕ) → IsAbove a rows → i < length rows → order a (row_at rows i).0 ≡ Less
above_at a [] i above within = absurd (omega (arith, within))
above_at a (e ∷ es) zero above within = above.0
above_at a (e ∷ es) (suc i) above within = above_at a es i above.1 (omega (arith, within))

ascending_at : (rows : KeyMap) (i j : ℕ) → IsAscending rows → i < j → j < length rows → order (row_at rows i).0 (row_at rows j).0 ≡ Less
ascending_at [] i j ascending less within = absurd (omega (arith, within))
ascending_at (e ∷ es) i zero ascending less within = absurd (omega (arith, less))
ascending_at (e ∷ es) zero (suc j) ascending less within = above_at e.0 es j ascending.0 (omega (arith, within))
ascending_at (e ∷ es) (suc i) (suc j) ascending less within = ascending_at es i j ascending.1 (omega (arith, less)) (omega (arith, within))

above_put : (a key : List ℕ) (held : Held) (rows : KeyMap) → order a key ≡ Less → IsAbove a rows → IsAbove a (put key held rows)
above_put a key held [] less above = (less, tt)
above_put a key held (e ∷ es) less above = beside (order key e.0) (above_put a key held es less above.1)
  where
    beside : (o : Ordering) → IsAbove a (put key held es) → IsAbove a (match_ordering o ((key, held) ∷ e ∷ es) ((e.0, held) ∷ es) (e ∷ put key held es))
    beside Less rest = (less, above)
    beside Equal rest = above
    beside Greater rest = (above.0, rest)

-- a put keeps the keys ascending
pub ascending_put : (key : List ℕ) (held : Held) (rows : KeyMap) → IsAscending rows → IsAscending (put key held rows)
ascending_put key held [] ascending = (tt, tt)
ascending_put key held (e ∷ es) ascending = beside (order key e.0) refl (ascending_put key held es ascending.1)
  where
    beside : (o : Ordering) → order key e.0 ≡ o → IsAscending (put key held es) → IsAscending (match_ordering o ((key, held) ∷ e ∷ es) ((e.0, held) ∷ es) (e ∷ put key held es))
    beside Less is rest = ((is, above_all key e.0 es is ascending.0), ascending)
    beside Equal is rest = ascending
    beside Greater is rest = (above_put e.0 key held es (turned key e.0 Greater is) ascending.0, rest)

above_filter : (a : List ℕ) (test : List ℕ × Held → Bool) (rows : KeyMap) → IsAbove a rows → IsAbove a (filter test rows)
above_filter a test [] above = tt
above_filter a test (e ∷ es) above = by (test e) (above_filter a test es above.1)
  where
    by : (b : Bool) → IsAbove a (filter test es) → IsAbove a (cond b (e ∷ filter test es) (filter test es))
    by true rest = (above.0, rest)
    by false rest = rest

ascending_filter : (test : List ℕ × Held → Bool) (rows : KeyMap) → IsAscending rows → IsAscending (filter test rows)
ascending_filter test [] ascending = tt
ascending_filter test (e ∷ es) ascending = by (test e) (ascending_filter test es ascending.1)
  where
    by : (b : Bool) → IsAscending (filter test es) → IsAscending (cond b (e ∷ filter test es) (filter test es))
    by true rest = (above_filter e.0 test es ascending.0, rest)
    by false rest = rest

-- so does a delete
pub ascending_delete : (key : List ℕ) (rows : KeyMap) → IsAscending rows → IsAscending (delete key rows)
ascending_delete key rows ascending = ascending_filter (λ row. not (same_key key row.0)) rows ascending

-- ---- a search

index_le : (o : Ordering) → ordering_index o ≤ 2
index_le Less = omega arith
index_le Equal = omega arith
index_le Greater = omega arith

index_rises : (a b key : List ℕ) (o : Ordering) → order b key ≡ o → order a b ≡ Less → ordering_index (order a key) ≤ ordering_index o
index_rises a b key Less is less = rw (laws.trans a b key less is) (omega arith)
index_rises a b key Equal is less =
    let at : order a key ≡ Less = subst (λ k. order a k ≡ Less) (same_from_order b key is) less in
    rw at (omega arith)
index_rises a b key Greater is less = index_le (order a key)

comparisons_rise : (key : List ℕ) (rows : KeyMap) → IsAscending rows → IsNonDecreasingBy (λ row. ordering_index (order row.0 key)) rows
comparisons_rise key rows ascending = IsNonDecreasingBy-from_default (λ row. ordering_index (order row.0 key)) rows ([], record { value = []; mod_revision = 0 }) (λ i j le within. elim (cases_lt i j) [
  | inl less ↦ index_rises (row_at rows i).0 (row_at rows j).0 key (order (row_at rows j).0 key) refl (ascending_at rows i j ascending less within)
  | inr least ↦ (let same : i ≡ j = omega (arith, le, least) in rw same (omega arith))
])

-- A binary search ends at the key's row, or at the gap for it.
pub searched : (key : List ℕ) (rows : KeyMap) → IsAscending rows → (r : Result ℕ ℕ) → IsSearchInRange r (length rows) → IsBinarySearchResult (λ row. order row.0 key) rows r
    → record { found : IfOk r (IsAt key rows); absent : IfErr r (IsGap key rows) }
searched key rows ascending (Ok at) within equal = record {
  found = record { within = within; has_key = same_from_order (row_at rows at).0 key (equal ([], record { value = []; mod_revision = 0 })) };
  absent = tt;
}
searched key rows ascending (Err at) within parted = record {
  found = tt;
  absent = record {
    within = within;
    less = λ i less. (parted (comparisons_rise key rows ascending)).0 i ([], record { value = []; mod_revision = 0 }) (omega arith) less;
    greater = λ i least below. (parted (comparisons_rise key rows ascending)).1 i ([], record { value = []; mod_revision = 0 }) least below;
  };
}

-- ---- an edit at the place that was found

below_key : (e : List ℕ × Held) (es : KeyMap) (key : List ℕ) (i : ℕ) → IsAbove e.0 es → i < length es → (row_at es i).0 ≡ key → order key e.0 ≡ Greater
below_key e es key i above within has_key =
    turned e.0 key Less (subst (λ k. order e.0 k ≡ Less) has_key (above_at e.0 es i above within))

pub put_found : (key : List ℕ) (held : Held) (rows : KeyMap) (i : ℕ) → IsAscending rows → i < length rows → (row_at rows i).0 ≡ key → set rows i (key, held) ≡ put key held rows
put_found key held [] i ascending within has_key = absurd (omega (arith, within))
put_found key held (e ∷ es) zero ascending within has_key =
    let is : order key e.0 ≡ Equal = subst (λ k. order key k ≡ Equal) (sym has_key) (itself key) in
    ap (λ k. (k, held) ∷ es) (sym has_key)
    ∙ sym (ap (λ o. match_ordering o ((key, held) ∷ e ∷ es) ((e.0, held) ∷ es) (e ∷ put key held es)) is)
put_found key held (e ∷ es) (suc i) ascending within has_key =
    let there : i < length es = omega (arith, within) in
    ap (λ rows. e ∷ rows) (put_found key held es i ascending.1 there has_key)
    ∙ sym (ap (λ o. match_ordering o ((key, held) ∷ e ∷ es) ((e.0, held) ∷ es) (e ∷ put key held es)) (below_key e es key i ascending.0 there has_key))

put_between : (key : List ℕ) (held : Held) (rows : KeyMap) (i : ℕ) → i ≤ length rows
    → ((j : ℕ) → j < i → order (row_at rows j).0 key ≡ Less) → (i < length rows → order (row_at rows i).0 key ≡ Greater)
    → insert rows i (key, held) ≡ put key held rows
put_between key held [] zero within less greater = refl
put_between key held [] (suc i) within less greater = absurd (omega (arith, within))
put_between key held (e ∷ es) zero within less greater =
    let here : 0 < length (e ∷ es) = omega arith in
    sym (ap (λ o. match_ordering o ((key, held) ∷ e ∷ es) ((e.0, held) ∷ es) (e ∷ put key held es)) (turned e.0 key Greater (greater here)))
put_between key held (e ∷ es) (suc i) within less greater =
    ap (λ rows. e ∷ rows) (put_between key held es i (omega (arith, within)) (λ j below. less (suc j) (omega (arith, below))) (λ below. greater (omega (arith, below))))
    ∙ sym (ap (λ o. match_ordering o ((key, held) ∷ e ∷ es) ((e.0, held) ∷ es) (e ∷ put key held es)) (turned e.0 key Less (less 0 (omega arith))))

pub put_in_gap : (key : List ℕ) (held : Held) (rows : KeyMap) (i : ℕ) → IsGap key rows i → insert rows i (key, held) ≡ put key held rows
put_in_gap key held rows i gap = put_between key held rows i gap.within gap.less (λ below. gap.greater i (omega arith) below)

-- ---- a key that isn't there

-- no row has the key
abbrev pub HasNone : List ℕ → KeyMap → Type 0
HasNone key rows = (i : ℕ) → i < length rows → same_key key (row_at rows i).0 ≡ false

none_after : (key : List ℕ) (e : List ℕ × Held) (es : KeyMap) → HasNone key (e ∷ es) → HasNone key es
none_after key e es none i within = none (suc i) (omega (arith, within))

pub none_above : (key : List ℕ) (rows : KeyMap) → IsAbove key rows → HasNone key rows
none_above key rows above i within = apart key (row_at rows i).0 Less (above_at key rows i above within)

none_in_gap : (key : List ℕ) (rows : KeyMap) (place : ℕ) → IsGap key rows place → HasNone key rows
none_in_gap key rows place gap i within = elim (cases_lt i place) [
  | inl below ↦ apart key (row_at rows i).0 Greater (turned (row_at rows i).0 key Less (gap.less i below))
  | inr least ↦ apart key (row_at rows i).0 Less (turned (row_at rows i).0 key Greater (gap.greater i least within))
]

pub delete_none : (key : List ℕ) (rows : KeyMap) → HasNone key rows → delete key rows ≡ rows
delete_none key [] none = refl
delete_none key (e ∷ es) none =
    ap (λ b. cond (not b) (e ∷ delete key es) (delete key es)) (none 0 (omega arith))
    ∙ ap (λ rows. e ∷ rows) (delete_none key es (none_after key e es none))

pub delete_in_gap : (key : List ℕ) (rows : KeyMap) (i : ℕ) → IsGap key rows i → delete key rows ≡ rows
delete_in_gap key rows i gap = delete_none key rows (none_in_gap key rows i gap)

pub delete_found : (key : List ℕ) (rows : KeyMap) (i : ℕ) → IsAscending rows → i < length rows → (row_at rows i).0 ≡ key → remove rows i ≡ delete key rows
delete_found key [] i ascending within has_key = absurd (omega (arith, within))
delete_found key (e ∷ es) zero ascending within has_key =
    let same : same_key key e.0 ≡ true = apart key e.0 Equal (subst (λ k. order key k ≡ Equal) (sym has_key) (itself key)) in
    let above : IsAbove key es = subst (λ k. IsAbove k es) has_key ascending.0 in
    sym (ap (λ b. cond (not b) (e ∷ delete key es) (delete key es)) same ∙ delete_none key es (none_above key es above))
delete_found key (e ∷ es) (suc i) ascending within has_key =
    let there : i < length es = omega (arith, within) in
    ap (λ rows. e ∷ rows) (delete_found key es i ascending.1 there has_key)
    ∙ sym (ap (λ b. cond (not b) (e ∷ delete key es) (delete key es)) (apart key e.0 Greater (below_key e es key i ascending.0 there has_key)))

pub held_none : (key : List ℕ) (rows : KeyMap) → HasNone key rows → held_at key rows ≡ None
held_none key [] none = refl
held_none key (e ∷ es) none =
    ap (λ b. cond b (Some e.1) (held_at key es)) (none 0 (omega arith)) ∙ held_none key es (none_after key e es none)

pub held_in_gap : (key : List ℕ) (rows : KeyMap) (i : ℕ) → IsGap key rows i → None ≡ held_at key rows
held_in_gap key rows i gap = sym (held_none key rows (none_in_gap key rows i gap))

pub held_found : (key : List ℕ) (rows : KeyMap) (i : ℕ) → IsAscending rows → i < length rows → (row_at rows i).0 ≡ key → Some (row_at rows i).1 ≡ held_at key rows
held_found key [] i ascending within has_key = absurd (omega (arith, within))
held_found key (e ∷ es) zero ascending within has_key =
    sym (ap (λ b. cond b (Some e.1) (held_at key es)) (apart key e.0 Equal (subst (λ k. order key k ≡ Equal) (sym has_key) (itself key))))
held_found key (e ∷ es) (suc i) ascending within has_key =
    let there : i < length es = omega (arith, within) in
    held_found key es i ascending.1 there has_key
    ∙ sym (ap (λ b. cond b (Some e.1) (held_at key es)) (apart key e.0 Greater (below_key e es key i ascending.0 there has_key)))
