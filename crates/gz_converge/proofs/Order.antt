-- The pairs of a view are in ascending order, as names and members are.
use Rattle.std.proofs.Common.{◌≡◌, ℕ, ◌+◌, ◌-◌, ◌<◌, List, [], ◌∷◌, length, refl, ap, sym, ◌∙◌, subst, Option, Bool, true, false, cond, filter, map, arith}
use Prim.Native.Nat.{suc}
use Rattle.std.specs.Prelude.{⊤, flat_map}
use Rattle.std.specs.Ordering.{nat_cmp, ordering_then}
use Rattle.std.specs.declared.cmp.Ordering.{Ordering}
use Rattle.std.specs.declared.cmp.Ordering.TheVariants.{Less}
use Rattle.std.specs.Cmp.Lexicographic.{slice_cmp, nat_list_cmp_total}
use Rattle.std.proofs.lemmas.Cmp.{tied_itself}
use Rattle.gz_keyspace.specs.Formats.{is_in}
use Rattle.gz_alloc.specs.declared.problem.Item.{Item}
use Rattle.gz_alloc.specs.declared.problem.Member.{Member}
use Rattle.gz_alloc.specs.Ascending.{pair_order, ascending}
use Rattle.gz_alloc.specs.Names.{is_problem, item_names, member_names, name_at, rises}
use Rattle.gz_alloc.proofs.NameLemmas.{asked_facts, rise_apart}
use Rattle.gz_alloc.proofs.RiseLemmas.{IsAbove, IsAscending, EachBelow, above_append, ascending_append, ascending_test}
use Rattle.gz_converge.specs.declared.view.Listed.{Listed}
use Rattle.gz_converge.specs.declared.view.JournalView.{JournalView}
use Rattle.gz_converge.specs.declared.view.ShardView.{ShardView}
use Rattle.gz_converge.specs.declared.view.MemberView.{MemberView}
use Rattle.gz_converge.specs.Views.{View}
use Rattle.gz_converge.specs.Cases.{within, ids_in}
use Rattle.gz_converge.specs.Converged.{Pairs, holder, holders, ids, journal_item, shard_item, enabled, journals_asked, shards_asked, pairs_of, routes_now, lists_now}

abbrev Ids : Type 0
Ids = List (List ℕ)

abbrev order : List ℕ → List ℕ → Ordering
order = slice_cmp nat_cmp

-- ---- names

-- every name is above this one
abbrev AreAbove : List ℕ → Ids → Type 0
AreAbove n [] = ⊤
AreAbove n (m ∷ ms) = (order n m ≡ Less) × AreAbove n ms

-- each name is above those before it
abbrev AreAscending : Ids → Type 0
AreAscending [] = ⊤
AreAscending (n ∷ ns) = AreAbove n ns × AreAscending ns

above_by : (n : List ℕ) (ns : Ids) → ((j : ℕ) → j < length ns → order n (name_at ns j) ≡ Less) → AreAbove n ns
above_by n [] each = tt
above_by n (m ∷ ms) each = (each 0 (omega arith), above_by n ms (λ j lj. each (suc j) (omega (arith, lj))))

ascending_by : (ns : Ids) → ((i j : ℕ) → i < j → j < length ns → order (name_at ns i) (name_at ns j) ≡ Less) → AreAscending ns
ascending_by [] each = tt
ascending_by (n ∷ ns) each = (
  above_by n ns (λ j lj. each 0 (suc j) (omega arith) (omega (arith, lj))),
  ascending_by ns (λ i j lt lj. each (suc i) (suc j) (omega (arith, lt)) (omega (arith, lj))),
)

reach : (a b : ℕ) → a < b → a + suc (b - suc a) ≡ b
reach a b lt = omega arith

names_ascend : (ns : Ids) → rises ns ≡ true → AreAscending ns
names_ascend ns up = ascending_by ns (λ i j lt lj. subst (λ (k : ℕ). order (name_at ns i) (name_at ns k) ≡ Less) (reach i j lt)
    (rise_apart ns up i (j - suc i) (subst (λ (k : ℕ). k < length ns) (sym (reach i j lt)) lj)))

-- ---- the pairs of one name

abbrev row : List ℕ → (List ℕ → Bool) → Ids → Pairs
row name p ms = map (λ (m : List ℕ). (name, m)) (filter p ms)

same_name : (name n m : List ℕ) → order n m ≡ Less → pair_order (name, n) (name, m) ≡ Less
same_name name n m less = ap (λ (o : Ordering). ordering_then o (order n m)) (tied_itself nat_list_cmp_total name) ∙ less

row_above : (name n : List ℕ) (p : List ℕ → Bool) (ms : Ids) → AreAbove n ms → IsAbove (name, n) (row name p ms)
row_above name n p [] above = tt
row_above name n p (m ∷ ms) above = at (row_above name n p ms above.1) (p m)
  where
    at : IsAbove (name, n) (row name p ms) → (c : Bool) → IsAbove (name, n) (map (λ (k : List ℕ). (name, k)) (cond c (m ∷ filter p ms) (filter p ms)))
    at rest true = (same_name name n m above.0, rest)
    at rest false = rest

row_ascends : (name : List ℕ) (p : List ℕ → Bool) (ms : Ids) → AreAscending ms → IsAscending (row name p ms)
row_ascends name p [] up = tt
row_ascends name p (m ∷ ms) up = at (row_ascends name p ms up.1) (p m)
  where
    at : IsAscending (row name p ms) → (c : Bool) → IsAscending (map (λ (k : List ℕ). (name, k)) (cond c (m ∷ filter p ms) (filter p ms)))
    at rest true = (row_above name m p ms up.0, rest)
    at rest false = rest

-- ---- the pairs of names, one after another

other_name : (a b n m : List ℕ) → order a b ≡ Less → pair_order (a, n) (b, m) ≡ Less
other_name a b n m less = ap (λ (o : Ordering). ordering_then o (order n m)) less

pair_above : (a b n : List ℕ) (ms : Ids) → order a b ≡ Less → IsAbove (a, n) (map (λ (m : List ℕ). (b, m)) ms)
pair_above a b n [] less = tt
pair_above a b n (m ∷ ms) less = (other_name a b n m less, pair_above a b n ms less)

abbrev rows : {A : Type 0} → (A → List ℕ) → (A → Option Listed) → Ids → List A → Pairs
rows name list ms xs = flat_map (λ x. pairs_of ms (name x) (list x)) xs

rows_above : {A : Type 0} (name : A → List ℕ) (list : A → Option Listed) (ms : Ids) (a n : List ℕ) (xs : List A) → AreAbove a (map name xs) → IsAbove (a, n) (rows name list ms xs)
rows_above name list ms a n [] above = tt
rows_above name list ms a n (x ∷ xs) above =
    above_append (a, n) (pairs_of ms (name x) (list x)) (rows name list ms xs) (pair_above a (name x) n (within ms (ids_in (list x))) above.0) (rows_above name list ms a n xs above.1)

row_below : {A : Type 0} (name : A → List ℕ) (list : A → Option Listed) (ms : Ids) (a : List ℕ) (ns : Ids) (xs : List A) → AreAbove a (map name xs) → EachBelow (map (λ (n : List ℕ). (a, n)) ns) (rows name list ms xs)
row_below name list ms a [] xs above = tt
row_below name list ms a (n ∷ ns) xs above = (rows_above name list ms a n xs above, row_below name list ms a ns xs above)

rows_ascend : {A : Type 0} (name : A → List ℕ) (list : A → Option Listed) (ms : Ids) → AreAscending ms → (xs : List A) → AreAscending (map name xs) → IsAscending (rows name list ms xs)
rows_ascend name list ms up [] names = tt
rows_ascend name list ms up (x ∷ xs) names =
    ascending_append (pairs_of ms (name x) (list x)) (rows name list ms xs)
    (row_ascends (name x) (λ (id : List ℕ). is_in id (ids_in (list x))) ms up)
    (rows_ascend name list ms up xs names.1)
    (row_below name list ms (name x) (within ms (ids_in (list x))) xs names.0)

-- ---- the pairs of a view

holder_names : (ms : List MemberView) → map (λ (m : Member). m.name) (map holder ms) ≡ ids ms
holder_names [] = refl
holder_names (m ∷ ms) = ap (λ (ns : Ids). m.joined.spec.id ∷ ns) (holder_names ms)

journal_names : (js : List JournalView) → map (λ (i : Item). i.name) (map journal_item js) ≡ map (λ (j : JournalView). j.spec.name) js
journal_names [] = refl
journal_names (j ∷ js) = ap (λ (ns : Ids). j.spec.name ∷ ns) (journal_names js)

shard_names : (ss : List ShardView) → map (λ (i : Item). i.name) (map shard_item ss) ≡ map (λ (s : ShardView). s.spec.id) ss
shard_names [] = refl
shard_names (s ∷ ss) = ap (λ (ns : Ids). s.spec.id ∷ ns) (shard_names ss)

-- where the journals are a problem, the pairs of their routes are in ascending order
pub routes_ascend : (view : View) → is_problem (journals_asked view) ≡ true → ascending (routes_now view) ≡ true
routes_ascend view ok =
    let facts = asked_facts (journals_asked view) ok in
    ascending_test (routes_now view) (rows_ascend (λ (j : JournalView). j.spec.name) (λ (j : JournalView). j.route) (ids (holders false view.members))
    (subst AreAscending (holder_names (holders false view.members)) (names_ascend (member_names (journals_asked view)) facts.members_rise)) view.journals
    (subst AreAscending (journal_names view.journals) (names_ascend (item_names (journals_asked view)) facts.items_rise)))

-- where the shards are a problem, the pairs of their lists are in ascending order
pub lists_ascend : (view : View) → is_problem (shards_asked view) ≡ true → ascending (lists_now view) ≡ true
lists_ascend view ok =
    let facts = asked_facts (shards_asked view) ok in
    ascending_test (lists_now view) (rows_ascend (λ (s : ShardView). s.spec.id) (λ (s : ShardView). s.list) (ids (holders true view.members))
    (subst AreAscending (holder_names (holders true view.members)) (names_ascend (member_names (shards_asked view)) facts.members_rise)) (enabled view)
    (subst AreAscending (shard_names (enabled view)) (names_ascend (item_names (shards_asked view)) facts.items_rise)))
