-- Entries whose keys are in their order, as members of an object and as entries of a map.
use Rattle.std.proofs.Common.{◌≡◌, ℕ, ◌≤◌, List, [], ◌∷◌, ◌++◌, length, refl, ap, sym, ◌∙◌, append_assoc, append-nil, subst, nat_le, Some, Ordering, Less, Greater, nat_cmp, true}
use Rattle.std.specs.Ordering.{ordering_reverse}
use Rattle.std.specs.Cmp.Lexicographic.{slice_cmp}
use Rattle.std.specs.List.{AllByRecursion}
use Rattle.std.specs.List.Sorted.{IsStrictlySortedBy}
use Rattle.std.specs.Map.{keys_of}
use Rattle.std.specs.BTreeMap.{insert_entry}
use Rattle.std.proofs.lemmas.Cmp.{nat_list_cmp_total}
use Rattle.std.proofs.lemmas.Bool.{le-leb}
use Rattle.std.proofs.lemmas.Map.Keys.{sorted_head, sorted_tail}
use Rattle.serde_json.specs.Data.{Members, no_members, member, put}
use Rattle.gz_app.specs.States.{State, put_all, kept_data, AreKeys}
use Rattle.gz_app.specs.declared.state.Kept.{Kept}
use Rattle.gz_app.specs.declared.state.Kept.TheVariants.{Number, Text}
use Rattle.gz_store.specs.Stores.{map_with, entries_of, entry_of, state_of_members, max_name}

abbrev by_bytes : List ℕ → List ℕ → Ordering
by_bytes x y = slice_cmp nat_cmp x y

abbrev Sorted : List (List ℕ) → Type 0
Sorted keys = IsStrictlySortedBy by_bytes keys

-- what holds of all keys holds of one among them
at_key : {Y : Type 0} (P : List ℕ → Type 0) (front back : List (List ℕ × Y)) (e : List ℕ × Y) → AllByRecursion P (keys_of (front ++ e ∷ back)) → P e.0
at_key P [] back e all = all.0
at_key P (f ∷ front) back e all = at_key P front back e all.1

-- the key of the first entry is below one that comes later
below : {Y : Type 0} (f : List ℕ × Y) (front back : List (List ℕ × Y)) (k : List ℕ) (y : Y) → Sorted (keys_of (f ∷ front ++ (k, y) ∷ back)) → by_bytes k f.0 ≡ Greater
below f front back k y sorted =
    let less : by_bytes f.0 k ≡ Less = at_key (λ x. by_bytes f.0 x ≡ Less) front back (k, y) (sorted_head by_bytes f.0 (keys_of (front ++ (k, y) ∷ back)) sorted) in
    nat_list_cmp_total.antisymm k f.0 ∙ ap (λ (o : Ordering). ordering_reverse o) less

tail_of : {Y : Type 0} (f : List ℕ × Y) (es : List (List ℕ × Y)) → Sorted (keys_of (f ∷ es)) → Sorted (keys_of es)
tail_of f es sorted = sorted_tail by_bytes f.0 (keys_of es) sorted

-- ---- maps

-- an entry whose key is above all others goes behind them
put_behind : {Y : Type 0} (front back : List (List ℕ × Y)) (k : List ℕ) (y : Y) → Sorted (keys_of (front ++ (k, y) ∷ back)) → insert_entry by_bytes front k y ≡ front ++ (k, y) ∷ []
put_behind [] back k y sorted = refl
put_behind {Y} (f ∷ front) back k y sorted =
    rw (below f front back k y sorted) (ap (λ (es : List (List ℕ × Y)). f ∷ es) (put_behind front back k y (tail_of f (front ++ (k, y) ∷ back) sorted)))

-- entries in order are the map of themselves
pub map_behind : {Y : Type 0} (es front : List (List ℕ × Y)) → Sorted (keys_of (front ++ es)) → map_with front es ≡ front ++ es
map_behind [] front sorted = sym (append-nil front)
map_behind {Y} (e ∷ es) front sorted =
    let whole : (front ++ e ∷ []) ++ es ≡ front ++ e ∷ es = append_assoc front (e ∷ []) es in
    ap (λ (xs : List (List ℕ × Y)). map_with xs es) (put_behind front es e.0 e.1 sorted)
    ∙ map_behind es (front ++ e ∷ []) (subst (λ (xs : List (List ℕ × Y)). Sorted (keys_of xs)) (sym whole) sorted)
    ∙ whole

-- ---- members

-- a state as members, in its order
abbrev pub members_in : State → Members
members_in [] = no_members
members_in (e ∷ es) = member e.0 (kept_data e.1) (members_in es)

member_behind : (front back : State) (k : List ℕ) (kept : Kept) → Sorted (keys_of (front ++ (k, kept) ∷ back)) → put k (kept_data kept) (members_in front) ≡ members_in (front ++ (k, kept) ∷ [])
member_behind [] back k kept sorted = refl
member_behind (f ∷ front) back k kept sorted =
    rw (below f front back k kept sorted) (ap (λ (ms : Members). member f.0 (kept_data f.1) ms) (member_behind front back k kept (tail_of f (front ++ (k, kept) ∷ back) sorted)))

members_behind : (es front : State) → Sorted (keys_of (front ++ es)) → put_all es (members_in front) ≡ members_in (front ++ es)
members_behind [] front sorted = ap (λ (xs : State). members_in xs) (sym (append-nil front))
members_behind (e ∷ es) front sorted =
    let whole : (front ++ e ∷ []) ++ es ≡ front ++ e ∷ es = append_assoc front (e ∷ []) es in
    ap (λ (ms : Members). put_all es ms) (member_behind front es e.0 e.1 sorted)
    ∙ members_behind es (front ++ e ∷ []) (subst (λ (xs : State). Sorted (keys_of xs)) (sym whole) sorted)
    ∙ ap (λ (xs : State). members_in xs) whole

-- the members of a state stand in its order
pub state_members : (state : State) → AreKeys (keys_of state) → put_all state no_members ≡ members_in state
state_members state keys = members_behind state [] keys.ordered

-- ---- a state is read back

pub within : (n m : ℕ) → n ≤ m → nat_le n m ≡ true
within n m h = le-leb n m h

one_entry : (k : List ℕ) (kept : Kept) → length k ≤ max_name → entry_of k (kept_data kept) ≡ Some (k, kept)
one_entry k (Number n) short = rw (within (length k) max_name short) refl
one_entry k (Text t) short = rw (within (length k) max_name short) refl

entries_back : (state : State) → AllByRecursion (λ key. length key ≤ 1024) (keys_of state) → entries_of (members_in state) ≡ Some state
entries_back [] short = refl
entries_back (e ∷ es) short = rw (one_entry e.0 e.1 short.0, entries_back es short.1) refl

pub state_back : (state : State) → AreKeys (keys_of state) → state_of_members (put_all state no_members) ≡ Some state
state_back state keys = rw (state_members state keys, entries_back state keys.short) (ap (λ (es : State). Some es) (map_behind state [] keys.ordered))
