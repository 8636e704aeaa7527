-- Entries that are sorted are the key map.
use Rattle.std.proofs.Common.{◌≡◌, ℕ, zero, suc, ◌+◌, List, [], ◌∷◌, ◌++◌, Bool, true, false, cond, refl, ap, sym, ◌∙◌, Option, Some, None, take, get_or, slice_get, arith, subst, true≢false, is_some, unwrap_or, add-one}
use Rattle.std.specs.List.{IsDistinct}
use Rattle.std.specs.List.Sorted.{IsSortedBy, IsPermutation}
use Rattle.std.specs.Ordering.{is_lt}
use Rattle.std.specs.declared.cmp.Ordering.{Ordering}
use Rattle.std.specs.declared.cmp.Ordering.TheVariants.{Less, Equal, Greater}
use Rattle.std.specs.Map.{lookup, keys_of}
use Rattle.std.proofs.lemmas.List.Sorted.{IsPermutation-map}
use Rattle.std.proofs.lemmas.Map.Keys.{IsDistinct-head, IsDistinct-tail}
use Rattle.indexmap.proofs.MapLemmas.{lookup_permutation, distinct_permutation}
use Rattle.gz_label.specs.declared.keys.KeyWrite.{KeyWrite}
use Rattle.gz_label.specs.declared.keys.Change.{Change}
use Rattle.gz_keyspace.specs.declared.table.Held.{Held}
use Rattle.gz_keyspace.specs.Keys.{same_key, KeyMap, held_at, after_value, after_writes, after_changes, keys_after}
use Rattle.gz_keyspace.specs.Mirrors.{IsAbove, IsAscending}
use Rattle.gz_keyspace.specs.Rows.{is_less}
use Rattle.gz_keyspace.proofs.KeyLemmas.{same_laws}
use Rattle.gz_keyspace.proofs.RowLemmas.{order, turned, apart, same_from_order, same_from_test, above_all, none_above, held_none, ascending_put, ascending_delete}

-- ---- the key map rises

ascending_value : (revision : ℕ) (key : List ℕ) (value : Option (List ℕ)) (keys : KeyMap) → IsAscending keys → IsAscending (after_value revision key value keys)
ascending_value revision key None keys ascending = ascending_delete key keys ascending
ascending_value revision key (Some value) keys ascending = ascending_put key (record { value = value; mod_revision = revision }) keys ascending

ascending_writes : (ws : List KeyWrite) (revision : ℕ) (keys : KeyMap) → IsAscending keys → IsAscending (after_writes revision keys ws)
ascending_writes [] revision keys ascending = ascending
ascending_writes (w ∷ ws) revision keys ascending = ascending_writes ws revision (after_value revision w.key w.value keys) (ascending_value revision w.key w.value keys ascending)

ascending_changes : (changes : List Change) (keys : KeyMap) → IsAscending keys → IsAscending (after_changes keys changes)
ascending_changes [] keys ascending = ascending
ascending_changes (c ∷ cs) keys ascending = ascending_changes cs (after_writes c.revision keys c.writes) (ascending_writes c.writes c.revision keys ascending)

pub ascending_after : (changes : List Change) → IsAscending (keys_after changes)
ascending_after changes = ascending_changes changes [] tt

-- ---- sorted rows rise

less_from_sorted : (a b : List ℕ) (o : Ordering) → order a b ≡ o → is_lt (order b a) ≡ false → same_key a b ≡ false → order a b ≡ Less
less_from_sorted a b Less is not_less other = is
less_from_sorted a b Equal is not_less other = absurd (true≢false (sym (apart a b Equal is) ∙ other))
less_from_sorted a b Greater is not_less other = absurd (true≢false (sym (ap is_lt (turned a b Greater is)) ∙ not_less))

tail_sorted : (e : List ℕ × Held) (es : KeyMap) → IsSortedBy is_less (e ∷ es) → IsSortedBy is_less es
tail_sorted e es sorted k d least within =
    let e1 : suc k + 1 ≡ suc (k + 1) = omega arith in
    let at = sorted (suc k) d (omega arith) (omega (arith, within)) in
    subst (λ n. is_less (get_or (e ∷ es) n d) (get_or es k d) ≡ false) e1 at

ascending_from_sorted : (rows : KeyMap) → IsSortedBy is_less rows → IsDistinct same_key (keys_of rows) → IsAscending rows
ascending_from_sorted [] sorted distinct = tt
ascending_from_sorted (e ∷ []) sorted distinct = (tt, tt)
ascending_from_sorted (e ∷ f ∷ es) sorted distinct =
    let rest = ascending_from_sorted (f ∷ es) (tail_sorted e (f ∷ es) sorted) (IsDistinct-tail same_key e.0 (keys_of (f ∷ es)) distinct) in
    let other : same_key e.0 f.0 ≡ false = (IsDistinct-head same_key e.0 (keys_of (f ∷ es)) distinct).0 in
    let less : order e.0 f.0 ≡ Less = less_from_sorted e.0 f.0 (order e.0 f.0) refl (sorted 0 e (omega arith) (omega arith)) other in
    ((less, above_all e.0 f.0 es less rest.0), rest)

-- ---- two maps in order that have the same of each key are one

first_held : (e : List ℕ × Held) (es : KeyMap) (k : List ℕ) (b : Bool) → same_key k e.0 ≡ b → held_at k (e ∷ es) ≡ cond b (Some e.1) (held_at k es)
first_held e es k b is = ap (λ t. cond t (Some e.1) (held_at k es)) is

own_held : (e : List ℕ × Held) (es : KeyMap) → held_at e.0 (e ∷ es) ≡ Some e.1
own_held e es = first_held e es e.0 true (same_laws.refl e.0)

none_below : (e f : List ℕ × Held) (fs : KeyMap) → order e.0 f.0 ≡ Less → IsAscending (f ∷ fs) → held_at e.0 (f ∷ fs) ≡ None
none_below e f fs less ascending = held_none e.0 (f ∷ fs) (none_above e.0 (f ∷ fs) (less, above_all e.0 f.0 fs less ascending.0))

module _ (e f : List ℕ × Held) (es fs : KeyMap) (ascending : IsAscending (e ∷ es)) (ascending' : IsAscending (f ∷ fs))
    (agree : (k : List ℕ) → held_at k (e ∷ es) ≡ held_at k (f ∷ fs)) where
  same_first : (o : Ordering) → order e.0 f.0 ≡ o → e.0 ≡ f.0
  same_first Less is = absurd (true≢false (ap is_some (sym (own_held e es) ∙ agree e.0 ∙ none_below e f fs is ascending')))
  same_first Equal is = same_from_order e.0 f.0 is
  same_first Greater is = absurd (true≢false (ap is_some (sym (own_held f fs) ∙ sym (agree f.0) ∙ none_below f e es (turned e.0 f.0 Greater is) ascending)))

  key_same : e.0 ≡ f.0
  key_same = same_first (order e.0 f.0) refl

  value_same : e.1 ≡ f.1
  value_same =
      ap (λ (o : Option Held). unwrap_or o e.1)
      (sym (own_held e es) ∙ agree e.0 ∙ ap (λ k. held_at k (f ∷ fs)) key_same ∙ own_held f fs)

  tail_at : (k : List ℕ) (b : Bool) → same_key k e.0 ≡ b → held_at k es ≡ held_at k fs
  tail_at k true is =
      let k_is : e.0 ≡ k = sym (same_from_test k e.0 is) in
      let above : IsAbove k es = subst (λ q. IsAbove q es) k_is ascending.0 in
      let above' : IsAbove k fs = subst (λ q. IsAbove q fs) (sym key_same ∙ k_is) ascending'.0 in
      held_none k es (none_above k es above) ∙ sym (held_none k fs (none_above k fs above'))
  tail_at k false is =
      sym (first_held e es k false is) ∙ agree k ∙ first_held f fs k false (ap (same_key k) (sym key_same) ∙ is)

  tail_agrees : (k : List ℕ) → held_at k es ≡ held_at k fs
  tail_agrees k = tail_at k (same_key k e.0) refl

same_map : (a b : KeyMap) → IsAscending a → IsAscending b → ((k : List ℕ) → held_at k a ≡ held_at k b) → a ≡ b
same_map [] [] ascending ascending' agree = refl
same_map [] (f ∷ fs) ascending ascending' agree = absurd (true≢false (ap is_some (sym (own_held f fs) ∙ sym (agree f.0))))
same_map (e ∷ es) [] ascending ascending' agree = absurd (true≢false (ap is_some (sym (own_held e es) ∙ agree e.0)))
same_map (e ∷ es) (f ∷ fs) ascending ascending' agree =
    let keys = key_same e f es fs ascending ascending' agree in
    let values = value_same e f es fs ascending ascending' agree in
    let rest : es ≡ fs = same_map es fs ascending.1 ascending'.1 (tail_agrees e f es fs ascending ascending' agree) in
    λ i. (keys i, values i) ∷ rest i

-- Entries in any order, sorted, are the map that has the same of each key.
pub sorted_is : (entries rows keys : KeyMap) → IsDistinct same_key (keys_of entries) → IsPermutation entries rows → IsSortedBy is_less rows
    → IsAscending keys → ((k : List ℕ) → lookup (same_key k) entries ≡ held_at k keys) → rows ≡ keys
sorted_is entries rows keys distinct moves sorted ascending agree =
    let distinct' = distinct_permutation same_laws (keys_of entries) (keys_of rows) (IsPermutation-map (λ e. e.0) entries rows moves) distinct in
    same_map rows keys (ascending_from_sorted rows sorted distinct') ascending
    (λ k. lookup_permutation same_laws entries rows moves distinct' (same_key k) (same_laws.congr k) ∙ agree k)

taken : (xs : KeyMap) (i : ℕ) (x : List ℕ × Held) → slice_get xs i ≡ Some x → take (suc i) xs ≡ take i xs ++ x ∷ []
taken [] i x here = absurd (true≢false (sym (ap is_some here)))
taken (y ∷ ys) zero x here = ap (λ (z : List ℕ × Held). z ∷ []) (ap (λ (o : Option (List ℕ × Held)). unwrap_or o y) here)
taken (y ∷ ys) (suc i) x here = ap (λ rest. y ∷ rest) (taken ys i x here)

-- One entry more.
pub take_at : (xs : KeyMap) (i : ℕ) (x : List ℕ × Held) → slice_get xs i ≡ Some x → take (i + 1) xs ≡ take i xs ++ x ∷ []
take_at xs i x here = rw (add-one i) (taken xs i x here)
