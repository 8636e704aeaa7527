-- Entries of a map that are written and taken away again.
use Rattle.std.proofs.Common.{◌≡◌, ℕ, List, [], ◌∷◌, refl, ap, sym, ◌∙◌, subst, Bool, true, false, cond, Option, Some, None, Result, Ok, Err}
use Rattle.std.specs.Prelude.{OnErr, is_some, ⊤}
use Rattle.std.specs.Ordering.{match_ordering, is_eq, nat_cmp}
use Rattle.std.specs.declared.cmp.Ordering.{Ordering}
use Rattle.std.specs.declared.cmp.Ordering.TheVariants.{Less, Equal, Greater}
use Rattle.std.specs.Cmp.Lexicographic.{slice_cmp}
use Rattle.std.specs.Map.{lookup, remove_entry}
use Rattle.std.specs.BTreeMap.{insert_entry, is_at}
use Rattle.std.proofs.lemmas.Map.Text.{is_eq-slice_cmp}
use Rattle.gz_recovery.specs.Files.{Files, Nodes, Paths, named, is_path}
use Rattle.std.proofs.lemmas.Slice.Eq.{bytes_eq-Decides}

pub on_err : {T E : Type 0} (r : Result T E) (P : Type 0) → P → OnErr r P
on_err (Ok x) P p = tt
on_err (Err e) P p = p

abbrev by_bytes : List ℕ → List ℕ → Ordering
by_bytes x y = slice_cmp nat_cmp x y

here : (k : List ℕ) → is_at (by_bytes k) k ≡ true
here k = is_eq-slice_cmp k k ∙ (bytes_eq-Decides k k).1 refl

some_none : {X : Type 0} (x : X) → Some x ≡ None → ⊥
some_none x e = subst IsNone (sym e) tt
  where
    IsNone : {X : Type 0} → Option X → Type 0
    IsNone None = ⊤
    IsNone (Some x) = ⊥

-- an entry at a key that wasn't there, put in and taken away
pub inserted_removed : {X : Type 0} (es : List (List ℕ × X)) (k : List ℕ) (v : X) → lookup (is_at (by_bytes k)) es ≡ None → remove_entry (is_at (by_bytes k)) (insert_entry by_bytes es k v) ≡ es
inserted_removed [] k v none = rw (here k) refl
inserted_removed {X} (e ∷ es) k v none = by_order (by_bytes k e.0) refl (λ rest. inserted_removed es k v rest)
  where
    by_order : (o : Ordering) → by_bytes k e.0 ≡ o → (lookup (is_at (by_bytes k)) es ≡ None → remove_entry (is_at (by_bytes k)) (insert_entry by_bytes es k v) ≡ es)
        → remove_entry (is_at (by_bytes k)) (match_ordering o ((k, v) ∷ e ∷ es) ((e.0, v) ∷ es) (e ∷ insert_entry by_bytes es k v)) ≡ e ∷ es
    by_order Less h ih = rw (here k) refl
    by_order Equal h ih =
        let found : is_at (by_bytes k) e.0 ≡ true = ap (λ (o : Ordering). is_eq o) h in
        absurd (some_none e.1 (ap (λ (b : Bool). cond b (Some e.1) (lookup (is_at (by_bytes k)) es)) (sym found) ∙ none))
    by_order Greater h ih =
        let apart : is_at (by_bytes k) e.0 ≡ false = ap (λ (o : Ordering). is_eq o) h in
        let rest : lookup (is_at (by_bytes k)) es ≡ None = ap (λ (b : Bool). cond b (Some e.1) (lookup (is_at (by_bytes k)) es)) (sym apart) ∙ none in
        rw apart (ap (λ (fs : List (List ℕ × X)). e ∷ fs) (ih rest))

absent : {X : Type 0} (o : Option X) → is_some o ≡ false → o ≡ None
absent None e = refl
absent (Some x) e = cc

pub absent_path : {X : Type 0} (k : List ℕ) (es : List (List ℕ × X)) → is_some (lookup (is_at (by_bytes k)) es) ≡ false → lookup (is_at (by_bytes k)) es ≡ None
absent_path k es e = absent (lookup (is_at (by_bytes k)) es) e

-- files to which a path was put and from which it was taken away again are as before
pub undone : (nodes nodes' : Nodes) (paths put gone : Paths) (properties : List (List ℕ × List ℕ)) (path key : List ℕ) (n : ℕ) {files : Files} →
    record { nodes = nodes; paths = paths; properties = properties } ≡ files → is_some (named path paths) ≡ false → key ≡ path →
    put ≡ insert_entry by_bytes paths key n → gone ≡ remove_entry (is_path path) put → nodes' ≡ nodes →
    record { nodes = nodes'; paths = gone; properties = properties } ≡ files
undone nodes nodes' paths put gone properties path key n view free same p g stays =
    let back : gone ≡ paths = rw (g, p, same) (inserted_removed paths path n (absent_path path paths free)) in
    rw (back, stays) view
