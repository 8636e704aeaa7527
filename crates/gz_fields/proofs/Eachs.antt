-- One turn of the loops that read lists.
use Rattle.std.proofs.Common.{◌≡◌, ℕ, ◌+◌, ◌<◌, List, [], ◌∷◌, ◌++◌, length, drop, map, get_or, refl, sym, append_assoc, add-one, Result, Ok, Err}
use Rattle.std.proofs.Math.Seq.{drop-cons}
use Rattle.std.proofs.lemmas.List.{map-append}
use Rattle.serde_json.specs.Data.{Data, Items, item}
use Rattle.serde_json.specs.View.{view, items_view}
use Rattle.serde_json.specs.declared.value.Value.{Value}
use Rattle.gz_model.specs.Steps.{◌>>=◌}
use Rattle.gz_fields.specs.Paths.{at_place}
use Rattle.gz_fields.specs.Behind.{behind}
use Rattle.gz_fields.specs.Lists.{each}
use Rattle.gz_fields.specs.declared.error.FieldError.{FieldError}

behind_cons : {A : Type 0} (prefix : List A) (a : A) (r : Result (List A) FieldError)
    → behind prefix (r >>= λ rest. Ok (a ∷ rest)) ≡ behind (prefix ++ a ∷ []) r
behind_cons prefix a (Ok rest) = rw append_assoc refl
behind_cons prefix a (Err e) = refl

pub drop_here : {A : Type 0} (values : List A) (i : ℕ) (v : A) → i < length values → v ≡ get_or values i v → drop i values ≡ v ∷ drop (i + 1) values
drop_here values i v below is = rw (add-one, drop-cons values i v below, ← is) refl

each_step : {A : Type 0} (read : List ℕ → List (List ℕ) → Data → Result A FieldError) (name_of : A → List ℕ) (path : List ℕ) (i : ℕ) (used : List (List ℕ)) (d : Data) (ds : Items) (prefix : List A) (a : A)
    → read (at_place path i) used d ≡ Ok a
    → behind prefix (each read name_of path i used (item d ds)) ≡ behind (prefix ++ a ∷ []) (each read name_of path (i + 1) (used ++ name_of a ∷ []) ds)
each_step read name_of path i used d ds prefix a e = rw e (behind_cons prefix a (each read name_of path (i + 1) (used ++ name_of a ∷ []) ds))

-- an item was read, noted as used, and put behind the others
pub each_turn : {A : Type 0} (read : List ℕ → List (List ℕ) → Data → Result A FieldError) (name_of : A → List ℕ) (path : List ℕ) (values : List Value) (i : ℕ) (v : Value) (p : List ℕ) (used more : List (List ℕ)) (prefix longer : List A) (a : A)
    → i < length values → v ≡ get_or values i v → p ≡ at_place path i
    → read p used (view v) ≡ Ok a → more ≡ used ++ name_of a ∷ [] → longer ≡ prefix ++ a ∷ []
    → behind longer (each read name_of path (i + 1) more (items_view (drop (i + 1) values))) ≡ behind prefix (each read name_of path i used (items_view (drop i values)))
each_turn read name_of path values i v p used more prefix longer a below is place e u f =
    rw (drop_here values i v below is, u, f)
    (sym (each_step read name_of path i used (view v) (items_view (drop (i + 1) values)) prefix a (rw place at e)))

-- the names of all that were read are behind those that were used before
pub more_names : {A : Type 0} (name_of : A → List ℕ) (before used more : List (List ℕ)) (prefix longer : List A) (a : A)
    → used ≡ before ++ map name_of prefix → more ≡ used ++ name_of a ∷ [] → longer ≡ prefix ++ a ∷ []
    → more ≡ before ++ map name_of longer
more_names name_of before used more prefix longer a e u f = rw (u, e, f, map-append, append_assoc) refl

-- an item was put through a function, behind the others
pub map_turn : {A B : Type 0} (f : A → B) (xs : List A) (i : ℕ) (x : A) (prefix longer : List B) (b : B)
    → i < length xs → x ≡ get_or xs i x → b ≡ f x → longer ≡ prefix ++ b ∷ []
    → longer ++ map f (drop (i + 1) xs) ≡ prefix ++ map f (drop i xs)
map_turn f xs i x prefix longer b below is e l = rw (drop_here xs i x below is, l, e, append_assoc) refl
