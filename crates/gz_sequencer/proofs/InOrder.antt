-- Entries that are put in their keys' order stand in this order.
use Rattle.std.proofs.Common.{◌≡◌, ℕ, List, [], ◌∷◌, ◌++◌, map, refl, ap, sym, ◌∙◌, append_assoc, subst}
use Rattle.std.specs.Ordering.{nat_cmp, ordering_reverse}
use Rattle.std.specs.declared.cmp.Ordering.{Ordering}
use Rattle.std.specs.declared.cmp.Ordering.TheVariants.{Less, Greater}
use Rattle.std.specs.Cmp.Lexicographic.{slice_cmp}
use Rattle.std.specs.List.{AllByRecursion}
use Rattle.std.specs.List.Sorted.{IsStrictlySortedBy}
use Rattle.std.specs.Map.{keys_of}
use Rattle.std.specs.BTreeMap.{insert_entry}
use Rattle.std.proofs.lemmas.Cmp.{nat_list_cmp_total}
use Rattle.std.proofs.lemmas.Map.Keys.{sorted_head, sorted_tail}
use Rattle.std.proofs.lemmas.Map.Made.{keys_of-map_values}

abbrev by_bytes : List ℕ → List ℕ → Ordering
by_bytes x y = slice_cmp nat_cmp x y

-- what holds of all keys holds of one among them
at_key : {Y : Type 0} (P : List ℕ → Type 0) (prefix back : List (List ℕ × Y)) (e : List ℕ × Y) → AllByRecursion P (keys_of (prefix ++ e ∷ back)) → P e.0
at_key P [] back e all = all.0
at_key P (f ∷ prefix) back e all = at_key P prefix back e all.1

-- an entry whose key is above all others goes behind them
put_behind : {Y : Type 0} (prefix back : List (List ℕ × Y)) (k : List ℕ) (y : Y) → IsStrictlySortedBy by_bytes (keys_of (prefix ++ (k, y) ∷ back)) → insert_entry by_bytes prefix k y ≡ prefix ++ (k, y) ∷ []
put_behind [] back k y sorted = refl
put_behind {Y} (f ∷ prefix) back k y sorted =
    let below : by_bytes f.0 k ≡ Less = at_key (λ x. by_bytes f.0 x ≡ Less) prefix back (k, y) (sorted_head by_bytes f.0 (keys_of (prefix ++ (k, y) ∷ back)) sorted) in
    let above : by_bytes k f.0 ≡ Greater = nat_list_cmp_total.antisymm k f.0 ∙ ap (λ (o : Ordering). ordering_reverse o) below in
    rw above (ap (λ (es : List (List ℕ × Y)). f ∷ es) (put_behind prefix back k y (sorted_tail by_bytes f.0 (keys_of (prefix ++ (k, y) ∷ back)) sorted)))

-- one more entry of a list in order is put behind those that were put before
pub put_next : {X Y : Type 0} (g : X → Y) (all rest more : List (List ℕ × X)) (done next : List (List ℕ × Y)) (k : List ℕ) (x : X) (y : Y)
    → IsStrictlySortedBy by_bytes (keys_of all)
    → done ++ map (λ e. (e.0, g e.1)) rest ≡ map (λ e. (e.0, g e.1)) all
    → rest ≡ (k, x) ∷ more → next ≡ insert_entry by_bytes done k y → y ≡ g x
    → next ++ map (λ e. (e.0, g e.1)) more ≡ map (λ e. (e.0, g e.1)) all
put_next {X} {Y} g all rest more done next k x y sorted so_far first put same =
    let tail : List (List ℕ × Y) = map (λ e. (e.0, g e.1)) more in
    let now : done ++ (k, y) ∷ tail ≡ map (λ e. (e.0, g e.1)) all =
    ap (λ (z : Y). done ++ (k, z) ∷ tail) same ∙ ap (λ (es : List (List ℕ × X)). done ++ map (λ e. (e.0, g e.1)) es) (sym first) ∙ so_far in
    let S : List (List ℕ) → Type 0 = λ ks. IsStrictlySortedBy by_bytes ks in
    let keys : keys_of all ≡ keys_of (done ++ (k, y) ∷ tail) = sym (keys_of-map_values g all) ∙ ap (λ (es : List (List ℕ × Y)). keys_of es) (sym now) in
    ap (λ (es : List (List ℕ × Y)). es ++ tail) (put ∙ put_behind done tail k y (subst S keys sorted))
    ∙ append_assoc done ((k, y) ∷ []) tail ∙ now
