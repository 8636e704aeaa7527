-- Look-ups in entries after one was put, written or taken away.
use Rattle.std.proofs.Common.{◌≡◌, List, [], ◌∷◌, refl, ap, sym, ◌∙◌, Bool, true, false, cond, Option, Some, None, Ordering, Less, Equal, Greater}
use Rattle.std.specs.Ordering.{is_eq, match_ordering}
use Rattle.std.specs.Map.{lookup, set_value, remove_entry}
use Rattle.std.specs.BTreeMap.{insert_entry, is_at}

-- no key passes both tests
abbrev pub Apart : {K : Type 0} → (K → Bool) → (K → Bool) → Type 0
Apart {K} t u = (k : K) → t k ≡ true → u k ≡ false

-- what an order calls equal is equal, and a key is equal to itself
pub record IsOrder {K : Type 0} (R : K → K → Ordering) : Type 0 where
  pub same : (x y : K) → R x y ≡ Equal → x ≡ y
  pub itself : (x : K) → R x x ≡ Equal

-- ---- put

pub put_here : {K X : Type 0} (R : K → K → Ordering) → IsOrder R → (k : K) (v : X) (es : List (K × X)) → lookup (is_at (R k)) (insert_entry R es k v) ≡ Some v
put_here {K} {X} R laws k v [] = ap (λ (o : Ordering). cond (is_eq o) (Some v) None) (laws.itself k)
put_here {K} {X} R laws k v (e ∷ es) = by (R k e.0) refl (put_here R laws k v es)
  where
    by : (o : Ordering) → R k e.0 ≡ o → lookup (is_at (R k)) (insert_entry R es k v) ≡ Some v
        → lookup (is_at (R k)) (match_ordering o ((k, v) ∷ e ∷ es) ((e.0, v) ∷ es) (e ∷ insert_entry R es k v)) ≡ Some v
    by Less h ih = ap (λ (o : Ordering). cond (is_eq o) (Some v) (lookup (is_at (R k)) (e ∷ es))) (laws.itself k)
    by Equal h ih = ap (λ (o : Ordering). cond (is_eq o) (Some v) (lookup (is_at (R k)) es)) h
    by Greater h ih = ap (λ (o : Ordering). cond (is_eq o) (Some e.1) (lookup (is_at (R k)) (insert_entry R es k v))) h ∙ ih

pub put_there : {K X : Type 0} (R : K → K → Ordering) → IsOrder R → (q k : K) (v : X) (es : List (K × X)) → is_at (R q) k ≡ false → lookup (is_at (R q)) (insert_entry R es k v) ≡ lookup (is_at (R q)) es
put_there {K} {X} R laws q k v [] other = ap (λ (b : Bool). cond b (Some v) None) other
put_there {K} {X} R laws q k v (e ∷ es) other = by (R k e.0) refl (put_there R laws q k v es other)
  where
    by : (o : Ordering) → R k e.0 ≡ o → lookup (is_at (R q)) (insert_entry R es k v) ≡ lookup (is_at (R q)) es
        → lookup (is_at (R q)) (match_ordering o ((k, v) ∷ e ∷ es) ((e.0, v) ∷ es) (e ∷ insert_entry R es k v)) ≡ lookup (is_at (R q)) (e ∷ es)
    by Less h ih = ap (λ (b : Bool). cond b (Some v) (lookup (is_at (R q)) (e ∷ es))) other
    by Equal h ih =
        let there : is_at (R q) e.0 ≡ false = ap (λ (x : K). is_at (R q) x) (sym (laws.same k e.0 h)) ∙ other in
        ap (λ (b : Bool). cond b (Some v) (lookup (is_at (R q)) es)) there ∙ sym (ap (λ (b : Bool). cond b (Some e.1) (lookup (is_at (R q)) es)) there)
    by Greater h ih = ap (λ (o : Option X). cond (is_at (R q) e.0) (Some e.1) o) ih

-- ---- written

pub set_here : {K X : Type 0} (t : K → Bool) (es : List (K × X)) (v w : X) → lookup t es ≡ Some v → lookup t (set_value t es w) ≡ Some w
set_here t [] v w found = cc
set_here {K} {X} t (e ∷ es) v w found = by (t e.0) refl found (λ f. set_here t es v w f)
  where
    by : (b : Bool) → t e.0 ≡ b → cond b (Some e.1) (lookup t es) ≡ Some v → (lookup t es ≡ Some v → lookup t (set_value t es w) ≡ Some w)
        → lookup t (cond b ((e.0, w) ∷ es) (e ∷ set_value t es w)) ≡ Some w
    by true h f ih = ap (λ (b : Bool). cond b (Some w) (lookup t es)) h
    by false h f ih = ap (λ (b : Bool). cond b (Some e.1) (lookup t (set_value t es w))) h ∙ ih f

pub set_there : {K X : Type 0} (t u : K → Bool) → Apart t u → (es : List (K × X)) (w : X) → lookup u (set_value t es w) ≡ lookup u es
set_there t u apart [] w = refl
set_there {K} {X} t u apart (e ∷ es) w = by (t e.0) refl (set_there t u apart es w)
  where
    by : (b : Bool) → t e.0 ≡ b → lookup u (set_value t es w) ≡ lookup u es → lookup u (cond b ((e.0, w) ∷ es) (e ∷ set_value t es w)) ≡ lookup u (e ∷ es)
    by true h ih =
        ap (λ (b : Bool). cond b (Some w) (lookup u es)) (apart e.0 h) ∙ sym (ap (λ (b : Bool). cond b (Some e.1) (lookup u es)) (apart e.0 h))
    by false h ih = ap (λ (o : Option X). cond (u e.0) (Some e.1) o) ih

-- ---- taken away

pub removed_there : {K X : Type 0} (t u : K → Bool) → Apart t u → (es : List (K × X)) → lookup u (remove_entry t es) ≡ lookup u es
removed_there t u apart [] = refl
removed_there {K} {X} t u apart (e ∷ es) = by (t e.0) refl (removed_there t u apart es)
  where
    by : (b : Bool) → t e.0 ≡ b → lookup u (remove_entry t es) ≡ lookup u es → lookup u (cond b es (e ∷ remove_entry t es)) ≡ lookup u (e ∷ es)
    by true h ih = sym (ap (λ (b : Bool). cond b (Some e.1) (lookup u es)) (apart e.0 h))
    by false h ih = ap (λ (o : Option X). cond (u e.0) (Some e.1) o) ih
