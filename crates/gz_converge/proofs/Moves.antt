-- Where journals are moves towards where they are placed.
use Rattle.std.proofs.Common.{◌≡◌, ℕ, List, [], ◌∷◌, ◌++◌, refl, ap, sym, ◌∙◌, subst, Option, Some, None, Bool, true, false, ◌&&◌, cond, filter, map, true≢false, ◌⊎◌, inl, inr, ⊎_elim}
use Rattle.std.specs.Prelude.{flat_map}
use Rattle.std.proofs.lemmas.Bool.{and_parts, and_from}
use Rattle.std.proofs.lemmas.List.Folds.{list_any-append}
use Rattle.gz_spec.specs.Records.{JournalSpec}
use Rattle.gz_keyspace.specs.Keys.{same_key}
use Rattle.gz_keyspace.specs.Formats.{is_in}
use Rattle.gz_alloc.specs.Names.{same, has}
use Rattle.gz_alloc.proofs.NameLemmas.{same_equal, same_itself}
use Rattle.gz_converge.specs.declared.view.Listed.{Listed}
use Rattle.gz_converge.specs.declared.view.Synced.{Synced}
use Rattle.gz_converge.specs.declared.view.JournalView.{JournalView}
use Rattle.gz_converge.specs.Cases.{next_route, ids_in}
use Rattle.gz_converge.specs.Converged.{Pairs, pairs_of, placed_on}
use Rattle.gz_converge.specs.Steps.{EachFollows}
use Rattle.gz_converge.proofs.Leaving.{or_first, or_last, or_cases, comes_placed, placed_stays}

abbrev Ids : Type 0
Ids = List (List ℕ)

abbrev Pair : Type 0
Pair = List ℕ × List ℕ

-- Where things are moves towards what is placed: whatever comes is placed, and whatever is placed stays.
pub record Moves (now placed next : Pairs) : Type 0 where
  pub came : (name member : List ℕ) → has next name member ≡ true → (has now name member ≡ true) ⊎ (has placed name member ≡ true)
  pub stays : (name member : List ℕ) → has now name member ≡ true → has placed name member ≡ true → has next name member ≡ true

turn : (a b : List ℕ) → same a b ≡ true → same b a ≡ true
turn a b e = subst (λ (k : List ℕ). same b k ≡ true) (sym (same_equal a b e)) (same_itself b)

-- ---- pairs of lists

has_append : (xs ys : Pairs) (a b : List ℕ) → has (xs ++ ys) a b ≡ true → (has xs a b ≡ true) ⊎ (has ys a b ≡ true)
has_append xs ys a b h = or_cases (has xs a b) (has ys a b) (sym (list_any-append (λ (p : Pair). same p.0 a && same p.1 b) xs ys) ∙ h)

has_left : (xs ys : Pairs) (a b : List ℕ) → has xs a b ≡ true → has (xs ++ ys) a b ≡ true
has_left xs ys a b h = list_any-append (λ (p : Pair). same p.0 a && same p.1 b) xs ys ∙ or_first (has xs a b) (has ys a b) h

has_right : (xs ys : Pairs) (a b : List ℕ) → has ys a b ≡ true → has (xs ++ ys) a b ≡ true
has_right xs ys a b h = list_any-append (λ (p : Pair). same p.0 a && same p.1 b) xs ys ∙ or_last (has xs a b) (has ys a b) h

-- ---- the pairs of one name

abbrev row : List ℕ → (List ℕ → Bool) → Ids → Pairs
row name p ms = map (λ (m : List ℕ). (name, m)) (filter p ms)

record InRow (name : List ℕ) (p : List ℕ → Bool) (ms : Ids) (a b : List ℕ) : Type 0 where
  named : same name a ≡ true
  passes : p b ≡ true
  among : is_in b ms ≡ true

row_has : (name : List ℕ) (p : List ℕ → Bool) (ms : Ids) (a b : List ℕ) → has (row name p ms) a b ≡ true → InRow name p ms a b
row_has name p [] a b h = absurd (true≢false (sym h))
row_has name p (m ∷ ms) a b h = at (row_has name p ms a b) (p m) refl h
  where
    more : InRow name p ms a b → InRow name p (m ∷ ms) a b
    more r = record { named = r.named; passes = r.passes; among = or_last (same_key b m) (is_in b ms) r.among }

    here : p m ≡ true → (same name a && same m b) ≡ true → InRow name p (m ∷ ms) a b
    here e f =
        let two = and_parts (same name a) (same m b) f in
        let is : m ≡ b = same_equal m b two.1 in
        record {
          named = two.0;
          passes = subst (λ (k : List ℕ). p k ≡ true) is e;
          among = or_first (same_key b m) (is_in b ms) (turn m b two.1);
        }

    at : (has (row name p ms) a b ≡ true → InRow name p ms a b) → (c : Bool) → p m ≡ c
        → has (map (λ (k : List ℕ). (name, k)) (cond c (m ∷ filter p ms) (filter p ms))) a b ≡ true → InRow name p (m ∷ ms) a b
    at rest true e g = ⊎_elim
        (λ (f : (same name a && same m b) ≡ true). here e f)
        (λ (f : has (row name p ms) a b ≡ true). more (rest f))
        (or_cases (same name a && same m b) (has (row name p ms) a b) g)
    at rest false e g = more (rest g)

has_row : (name : List ℕ) (p : List ℕ → Bool) (ms : Ids) (a b : List ℕ) → same name a ≡ true → p b ≡ true → is_in b ms ≡ true → has (row name p ms) a b ≡ true
has_row name p [] a b named passes h = absurd (true≢false (sym h))
has_row name p (m ∷ ms) a b named passes h = at (has_row name p ms a b named passes) (p m) refl
  where
    first : Bool
    first = same name a && same m b

    at : (is_in b ms ≡ true → has (row name p ms) a b ≡ true) → (c : Bool) → p m ≡ c
        → has (map (λ (k : List ℕ). (name, k)) (cond c (m ∷ filter p ms) (filter p ms))) a b ≡ true
    at rest true e = ⊎_elim
        (λ (f : same_key b m ≡ true). or_first first (has (row name p ms) a b) (and_from (same name a) (same m b) named (turn b m f)))
        (λ (f : is_in b ms ≡ true). or_last first (has (row name p ms) a b) (rest f))
        (or_cases (same_key b m) (is_in b ms) h)
    at rest false e = ⊎_elim
        (λ (f : same_key b m ≡ true). absurd (true≢false (sym passes ∙ ap p (same_equal b m f) ∙ e)))
        (λ (f : is_in b ms ≡ true). rest f)
        (or_cases (same_key b m) (is_in b ms) h)

-- ---- what is placed

placed_in : (ps : Pairs) (name id : List ℕ) → is_in id (placed_on ps name) ≡ true → has ps name id ≡ true
placed_in [] name id h = absurd (true≢false (sym h))
placed_in (q ∷ qs) name id h = at (placed_in qs name id) (same_key name q.0) refl h
  where
    first : Bool
    first = same q.0 name && same q.1 id

    at : (is_in id (placed_on qs name) ≡ true → has qs name id ≡ true) → (c : Bool) → same_key name q.0 ≡ c → is_in id (map (λ (p : Pair). p.1) (cond c (q ∷ filter (λ (p : Pair). same_key name p.0) qs) (filter (λ (p : Pair). same_key name p.0) qs))) ≡ true → has (q ∷ qs) name id ≡ true
    at rest true e g = ⊎_elim
        (λ (f : same_key id q.1 ≡ true). or_first first (has qs name id) (and_from (same q.0 name) (same q.1 id) (turn name q.0 e) (turn id q.1 f)))
        (λ (f : is_in id (placed_on qs name) ≡ true). or_last first (has qs name id) (rest f))
        (or_cases (same_key id q.1) (is_in id (placed_on qs name)) g)
    at rest false e g = or_last first (has qs name id) (rest g)

in_placed : (ps : Pairs) (name id : List ℕ) → has ps name id ≡ true → is_in id (placed_on ps name) ≡ true
in_placed [] name id h = absurd (true≢false (sym h))
in_placed (q ∷ qs) name id h = at (in_placed qs name id) (same_key name q.0) refl
  where
    first : Bool
    first = same q.0 name && same q.1 id

    at : (has qs name id ≡ true → is_in id (placed_on qs name) ≡ true) → (c : Bool) → same_key name q.0 ≡ c
        → is_in id (map (λ (p : Pair). p.1) (cond c (q ∷ filter (λ (p : Pair). same_key name p.0) qs) (filter (λ (p : Pair). same_key name p.0) qs))) ≡ true
    at rest true e = ⊎_elim
        (λ (f : first ≡ true). or_first (same_key id q.1) (is_in id (placed_on qs name)) (turn q.1 id ((and_parts (same q.0 name) (same q.1 id) f).1)))
        (λ (f : has qs name id ≡ true). or_last (same_key id q.1) (is_in id (placed_on qs name)) (rest f))
        (or_cases first (has qs name id) h)
    at rest false e = ⊎_elim
        (λ (f : first ≡ true). absurd (true≢false (sym (turn q.0 name ((and_parts (same q.0 name) (same q.1 id) f).0)) ∙ e)))
        (λ (f : has qs name id ≡ true). rest f)
        (or_cases first (has qs name id) h)

-- ---- journals

abbrev rows : Ids → List JournalView → Pairs
rows brokers js = flat_map (λ (j : JournalView). pairs_of brokers j.spec.name j.route) js

come_placed : (brokers all : Ids) (placed : Pairs) (olds news : List JournalView) → EachFollows all placed olds news → (a b : List ℕ) → has (rows brokers news) a b ≡ true → (has (rows brokers olds) a b ≡ true) ⊎ (has placed a b ≡ true)
come_placed brokers all placed [] [] each a b h = absurd (true≢false (sym h))
come_placed brokers all placed [] (n ∷ ns) each a b h = absurd each
come_placed brokers all placed (o ∷ os) [] each a b h = absurd each
come_placed brokers all placed (o ∷ os) (n ∷ ns) each a b h = ⊎_elim head (tail (come_placed brokers all placed os ns each.1 a b)) (has_append (pairs_of brokers n.spec.name n.route) (rows brokers ns) a b h)
  where
    left : same o.spec.name a ≡ true → is_in b (ids_in o.route) ≡ true → is_in b brokers ≡ true → has (rows brokers (o ∷ os)) a b ≡ true
    left named listed among = has_left (pairs_of brokers o.spec.name o.route) (rows brokers os) a b (has_row o.spec.name (λ (id : List ℕ). is_in id (ids_in o.route)) brokers a b named listed among)

    in_next : same o.spec.name a ≡ true → is_in b (ids_in n.route) ≡ true → is_in b brokers ≡ true → (has (rows brokers (o ∷ os)) a b ≡ true) ⊎ (has placed a b ≡ true)
    in_next named listed among = ⊎_elim
        (λ (g : n.route ≡ o.route). inl (left named (subst (λ (l : Option Listed). is_in b (ids_in l) ≡ true) g listed) among))
        (λ (g : next_route all (placed_on placed o.spec.name) o.route o.sync ≡ Some (ids_in n.route)). ⊎_elim
        (λ (k : is_in b (ids_in o.route) ≡ true). inl (left named k among))
        (λ (k : is_in b (placed_on placed o.spec.name) ≡ true). inr (subst (λ (m : List ℕ). has placed m b ≡ true) (same_equal o.spec.name a named) (placed_in placed o.spec.name b k)))
        (comes_placed all (placed_on placed o.spec.name) o.route o.sync (ids_in n.route) b g listed))
        each.0.route

    head : has (pairs_of brokers n.spec.name n.route) a b ≡ true → (has (rows brokers (o ∷ os)) a b ≡ true) ⊎ (has placed a b ≡ true)
    head e =
        let r = row_has n.spec.name (λ (id : List ℕ). is_in id (ids_in n.route)) brokers a b e in
        in_next (subst (λ (s : JournalSpec). same s.name a ≡ true) each.0.spec r.named) r.passes r.among

    tail : (has (rows brokers ns) a b ≡ true → (has (rows brokers os) a b ≡ true) ⊎ (has placed a b ≡ true))
        → has (rows brokers ns) a b ≡ true → (has (rows brokers (o ∷ os)) a b ≡ true) ⊎ (has placed a b ≡ true)
    tail rest e = ⊎_elim
        (λ (g : has (rows brokers os) a b ≡ true). inl (has_right (pairs_of brokers o.spec.name o.route) (rows brokers os) a b g))
        (λ (g : has placed a b ≡ true). inr g)
        (rest e)

-- whoever is placed, and has the key, stays where the route changes
listed_stays : (all placed : Ids) (route : Option Listed) (sync : Option Synced) (next : Ids) (id : List ℕ)
    → next_route all placed route sync ≡ Some next → is_in id (ids_in route) ≡ true → is_in id all ≡ true → is_in id placed ≡ true → is_in id next ≡ true
listed_stays all placed None sync next id is here member wanted = absurd (true≢false (sym here))
listed_stays all placed (Some route) sync next id is here member wanted = placed_stays all placed route sync next id is here member wanted

stay_placed : (brokers all : Ids) (placed : Pairs) (olds news : List JournalView) → ((id : List ℕ) → is_in id brokers ≡ true → is_in id all ≡ true) → EachFollows all placed olds news
    → (a b : List ℕ) → has (rows brokers olds) a b ≡ true → has placed a b ≡ true → has (rows brokers news) a b ≡ true
stay_placed brokers all placed [] [] joined each a b h wanted = absurd (true≢false (sym h))
stay_placed brokers all placed [] (n ∷ ns) joined each a b h wanted = absurd each
stay_placed brokers all placed (o ∷ os) [] joined each a b h wanted = absurd each
stay_placed brokers all placed (o ∷ os) (n ∷ ns) joined each a b h wanted = ⊎_elim head
    (λ (e : has (rows brokers os) a b ≡ true). has_right (pairs_of brokers n.spec.name n.route) (rows brokers ns) a b (stay_placed brokers all placed os ns joined each.1 a b e wanted))
    (has_append (pairs_of brokers o.spec.name o.route) (rows brokers os) a b h)
  where
    listed_next : same o.spec.name a ≡ true → is_in b (ids_in o.route) ≡ true → is_in b brokers ≡ true → is_in b (ids_in n.route) ≡ true
    listed_next named listed among = ⊎_elim
        (λ (g : n.route ≡ o.route). subst (λ (l : Option Listed). is_in b (ids_in l) ≡ true) (sym g) listed)
        (λ (g : next_route all (placed_on placed o.spec.name) o.route o.sync ≡ Some (ids_in n.route)).
        listed_stays all (placed_on placed o.spec.name) o.route o.sync (ids_in n.route) b g listed (joined b among)
        (in_placed placed o.spec.name b (subst (λ (m : List ℕ). has placed m b ≡ true) (sym (same_equal o.spec.name a named)) wanted)))
        each.0.route

    head : has (pairs_of brokers o.spec.name o.route) a b ≡ true → has (rows brokers (n ∷ ns)) a b ≡ true
    head e =
        let r = row_has o.spec.name (λ (id : List ℕ). is_in id (ids_in o.route)) brokers a b e in
        has_left (pairs_of brokers n.spec.name n.route) (rows brokers ns) a b
        (has_row n.spec.name (λ (id : List ℕ). is_in id (ids_in n.route)) brokers a b
        (subst (λ (s : JournalSpec). same s.name a ≡ true) (sym each.0.spec) r.named)
        (listed_next r.named r.passes r.among) r.among)

-- where journals are moves towards where they are placed
pub follows_move : (brokers all : Ids) (placed : Pairs) (olds news : List JournalView) → ((id : List ℕ) → is_in id brokers ≡ true → is_in id all ≡ true) → EachFollows all placed olds news
    → Moves (rows brokers olds) placed (rows brokers news)
follows_move brokers all placed olds news joined each = record {
  came = come_placed brokers all placed olds news each;
  stays = stay_placed brokers all placed olds news joined each;
}
