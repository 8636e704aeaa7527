-- Who leaves a route.
use Rattle.std.proofs.Common.{◌≡◌, ℕ, List, [], ◌∷◌, ◌++◌, refl, ap, sym, ◌∙◌, subst, Option, Some, None, is_some, Bool, true, false, not, ◌||◌, cond, filter, true≢false, ◌⊎◌, inl, inr, ⊎_elim}
use Rattle.gz_keyspace.specs.Keys.{same_key}
use Rattle.gz_keyspace.specs.Formats.{is_in}
use Rattle.gz_keyspace.proofs.RowLemmas.{same_from_test}
use Rattle.gz_converge.specs.declared.view.Listed.{Listed}
use Rattle.gz_converge.specs.declared.view.Synced.{Synced}
use Rattle.gz_converge.specs.Cases.{within, without, are_within, is_synced, settled_route, next_route, ids_in}

-- ---- members of lists

or_more : (a b c : Bool) → (b ≡ true → c ≡ true) → (a || b) ≡ true → (a || c) ≡ true
or_more true b c more is = refl
or_more false b c more is = more is

or_second : (a b : Bool) → (a ≡ true → false ≡ true) → (a || b) ≡ true → b ≡ true
or_second true b never is = absurd (true≢false (sym (never refl)))
or_second false b never is = is

pub or_first : (a b : Bool) → a ≡ true → (a || b) ≡ true
or_first true b is = refl
or_first false b is = absurd (true≢false (sym is))

pub or_last : (a b : Bool) → b ≡ true → (a || b) ≡ true
or_last true b is = refl
or_last false b is = is

pub or_cases : (a b : Bool) → (a || b) ≡ true → (a ≡ true) ⊎ (b ≡ true)
or_cases true b is = inl refl
or_cases false b is = inr is

in_prefix : (id : List ℕ) (xs ys : List (List ℕ)) → is_in id xs ≡ true → is_in id (xs ++ ys) ≡ true
in_prefix id [] ys here = absurd (true≢false (sym here))
in_prefix id (x ∷ xs) ys here = or_more (same_key id x) (is_in id xs) (is_in id (xs ++ ys)) (in_prefix id xs ys) here

kept_next : (id x : List ℕ) (xs rest : List (List ℕ)) (test : Bool) → (same_key id x ≡ true → test ≡ true) → (is_in id xs ≡ true → is_in id rest ≡ true)
    → is_in id (x ∷ xs) ≡ true → is_in id (cond test (x ∷ rest) rest) ≡ true
kept_next id x xs rest true passes tail here = or_more (same_key id x) (is_in id xs) (is_in id rest) tail here
kept_next id x xs rest false passes tail here = tail (or_second (same_key id x) (is_in id xs) passes here)

-- who is in both lists stays
kept : (id : List ℕ) (route members : List (List ℕ)) → is_in id members ≡ true → is_in id route ≡ true → is_in id (within route members) ≡ true
kept id [] members member here = absurd (true≢false (sym here))
kept id (x ∷ xs) members member here =
    kept_next id x xs (within xs members) (is_in x members)
    (λ same. subst (λ (y : List ℕ). is_in y members ≡ true) (same_from_test id x same) member)
    (kept id xs members member) here

-- ---- routes

-- whether the id is in what comes next
abbrev next_in : List ℕ → Option (List (List ℕ)) → Bool
next_in id None = false
next_in id (Some ids) = is_in id ids

-- whoever is in the list that comes next doesn't leave
stays_in : (id : List ℕ) (ids next : List (List ℕ)) → Some ids ≡ Some next → is_in id ids ≡ true → is_in id next ≡ false → true ≡ false
stays_in id ids next is here gone = sym here ∙ ap (next_in id) is ∙ gone

none_next : (next : List (List ℕ)) (b : Bool) → None ≡ Some next → b ≡ true
none_next next b is = absurd (true≢false (sym (ap (λ (o : Option (List (List ℕ))). is_some o) is)))

leaves_changed : (members placed route next : List (List ℕ)) (id : List ℕ) (expired synced : Bool)
    → cond expired (Some (within route members ++ without placed route)) (settled_route placed route synced) ≡ Some next
    → is_in id route ≡ true → is_in id members ≡ true → is_in id next ≡ false → synced ≡ true
leaves_changed members placed route next id expired true is here member gone = refl
leaves_changed members placed route next id true false is here member gone =
    absurd (true≢false (stays_in id (within route members ++ without placed route) next is (in_prefix id (within route members) (without placed route) (kept id route members member here)) gone))
leaves_changed members placed route next id false false is here member gone = none_next next false is

-- A member that has its key leaves a route only where the sync key says the route's epoch.
pub leaves_synced : (members placed : List (List ℕ)) (route : Listed) (sync : Option Synced) (next : List (List ℕ)) (id : List ℕ)
    → next_route members placed (Some route) sync ≡ Some next
    → is_in id route.ids ≡ true → is_in id members ≡ true → is_in id next ≡ false → is_synced sync route.revision ≡ true
leaves_synced members [] route sync next id is here member gone = none_next next (is_synced sync route.revision) is
leaves_synced members (p ∷ placed) route sync next id is here member gone =
    leaves_changed members (p ∷ placed) route.ids next id (not (are_within route.ids members)) (is_synced sync route.revision) is here member gone

-- ---- towards the placement

append_cases : (id : List ℕ) (xs ys : List (List ℕ)) → is_in id (xs ++ ys) ≡ true → (is_in id xs ≡ true) ⊎ (is_in id ys ≡ true)
append_cases id [] ys here = inr here
append_cases id (x ∷ xs) ys here = ⊎_elim
    (λ (e : same_key id x ≡ true). inl (or_first (same_key id x) (is_in id xs) e))
    (λ (e : is_in id (xs ++ ys) ≡ true). ⊎_elim (λ (f : is_in id xs ≡ true). inl (or_last (same_key id x) (is_in id xs) f)) (λ (f : is_in id ys ≡ true). inr f) (append_cases id xs ys e))
    (or_cases (same_key id x) (is_in id (xs ++ ys)) here)

filtered : (id : List ℕ) (p : List ℕ → Bool) (xs : List (List ℕ)) → is_in id (filter p xs) ≡ true → is_in id xs ≡ true
filtered id p [] here = here
filtered id p (x ∷ xs) here = at (filtered id p xs) (p x) here
  where
    at : (is_in id (filter p xs) ≡ true → is_in id xs ≡ true) → (b : Bool) → is_in id (cond b (x ∷ filter p xs) (filter p xs)) ≡ true → is_in id (x ∷ xs) ≡ true
    at rest true e = or_more (same_key id x) (is_in id (filter p xs)) (is_in id xs) rest e
    at rest false e = or_last (same_key id x) (is_in id xs) (rest e)

settled_comes : (placed route : List (List ℕ)) (id : List ℕ) (waits new old : Bool)
    → next_in id (cond waits None (cond new (Some (route ++ without placed route)) (cond old (Some (within route placed)) None))) ≡ true
    → (is_in id route ≡ true) ⊎ (is_in id placed ≡ true)
settled_comes placed route id true new old here = absurd (true≢false (sym here))
settled_comes placed route id false true old here =
    ⊎_elim (λ (e : is_in id route ≡ true). inl e) (λ (e : is_in id (without placed route) ≡ true). inr (filtered id _ placed e)) (append_cases id route (without placed route) here)
settled_comes placed route id false false true here = inl (filtered id _ route here)
settled_comes placed route id false false false here = absurd (true≢false (sym here))

changed_comes : (members placed route : List (List ℕ)) (id : List ℕ) (expired synced : Bool)
    → next_in id (cond expired (Some (within route members ++ without placed route)) (settled_route placed route synced)) ≡ true
    → (is_in id route ≡ true) ⊎ (is_in id placed ≡ true)
changed_comes members placed route id true synced here = ⊎_elim
    (λ (e : is_in id (within route members) ≡ true). inl (filtered id _ route e))
    (λ (e : is_in id (without placed route) ≡ true). inr (filtered id _ placed e)) (append_cases id (within route members) (without placed route) here)
changed_comes members placed route id false synced here = settled_comes placed route id (not synced) (not (are_within placed route)) (not (are_within route placed)) here

-- whoever is in the next route was in the one before, or is placed
pub comes_placed : (members placed : List (List ℕ)) (route : Option Listed) (sync : Option Synced) (next : List (List ℕ)) (id : List ℕ)
    → next_route members placed route sync ≡ Some next → is_in id next ≡ true → (is_in id (ids_in route) ≡ true) ⊎ (is_in id placed ≡ true)
comes_placed members placed route sync next id is here = at members placed route (sym (ap (next_in id) (sym is)) ∙ here)
  where
    at : (members placed : List (List ℕ)) (route : Option Listed) → next_in id (next_route members placed route sync) ≡ true → (is_in id (ids_in route) ≡ true) ⊎ (is_in id placed ≡ true)
    at members [] route e = absurd (true≢false (sym e))
    at members (p ∷ placed) None e = inr e
    at members (p ∷ placed) (Some route) e = changed_comes members (p ∷ placed) route.ids id (not (are_within route.ids members)) (is_synced sync route.revision) e

settled_keeps : (placed route next : List (List ℕ)) (id : List ℕ) (waits new old : Bool)
    → cond waits None (cond new (Some (route ++ without placed route)) (cond old (Some (within route placed)) None)) ≡ Some next
    → is_in id route ≡ true → is_in id placed ≡ true → is_in id next ≡ true
settled_keeps placed route next id true new old is here wanted = none_next next (is_in id next) is
settled_keeps placed route next id false true old is here wanted = sym (ap (next_in id) is) ∙ in_prefix id route (without placed route) here
settled_keeps placed route next id false false true is here wanted = sym (ap (next_in id) is) ∙ kept id route placed wanted here
settled_keeps placed route next id false false false is here wanted = none_next next (is_in id next) is

-- whoever is placed, and has the key, stays
pub placed_stays : (members placed : List (List ℕ)) (route : Listed) (sync : Option Synced) (next : List (List ℕ)) (id : List ℕ)
    → next_route members placed (Some route) sync ≡ Some next → is_in id route.ids ≡ true → is_in id members ≡ true → is_in id placed ≡ true → is_in id next ≡ true
placed_stays members [] route sync next id is here member wanted = none_next next (is_in id next) is
placed_stays members (p ∷ placed) route sync next id is here member wanted = at (not (are_within route.ids members)) is
  where
    at : (b : Bool) → cond b (Some (within route.ids members ++ without (p ∷ placed) route.ids)) (settled_route (p ∷ placed) route.ids (is_synced sync route.revision)) ≡ Some next → is_in id next ≡ true
    at true e = sym (ap (next_in id) e) ∙ in_prefix id (within route.ids members) (without (p ∷ placed) route.ids) (kept id route.ids members member here)
    at false e = settled_keeps (p ∷ placed) route.ids next id (not (is_synced sync route.revision)) (not (are_within (p ∷ placed) route.ids)) (not (are_within route.ids (p ∷ placed))) e here wanted
