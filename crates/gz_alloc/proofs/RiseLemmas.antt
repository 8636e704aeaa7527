-- Pairs that rise: how many they are, and that those of a table rise.
use Rattle.std.proofs.Common.{◌≡◌, ℕ, ◌+◌, ◌-◌, ◌*◌, ◌<◌, Bool, true, false, ◌||◌, nat_lt, List, [], ◌∷◌, ◌++◌, length, replicate, refl, ap, ◌∙◌, sym, subst, arith, Ordering, cond}
use Prim.Native.Nat.{zero, suc}
use Rattle.std.specs.Prelude.{if◌then◌else◌, ⊤}
use Rattle.std.specs.List.{list_all}
use Rattle.std.specs.Ordering.{nat_cmp, ordering_then, is_lt}
use Rattle.std.specs.declared.cmp.Ordering.TheVariants.{Less, Equal}
use Rattle.std.specs.Cmp.{IsTotalOrder}
use Rattle.std.specs.Cmp.Lexicographic.{slice_cmp, nat_list_cmp_total}
use Rattle.std.proofs.lemmas.Cmp.{tied_itself, then_total}
use Rattle.std.proofs.lemmas.List.{length-replicate}
use Rattle.std.proofs.lemmas.Bool.{and_parts, and_from, ltb-true, lt-ltb}
use Rattle.gz_alloc.specs.Sums.{when, all_to}
use Rattle.gz_alloc.specs.Flow.{IsTable, Cells, items, members, row, total, cells_of, set_cell}
use Rattle.gz_alloc.specs.Names.{Asked, net_of, is_problem, is_known, item_names, member_names, place_of, name_at, same, rises, paired, size, mark_pair, mark_pairs, picks, gather, pairs_of}
use Rattle.gz_alloc.specs.Ascending.{pair_order, pair_at, below_next, ascending}
use Rattle.gz_alloc.proofs.SumLemmas.{sum_to_zero}
use Rattle.gz_alloc.proofs.Counts.{total_at, differs_set}
use Rattle.gz_alloc.proofs.NameLemmas.{less_from, all_to_at, asked_facts, net_ok, rise_apart, place_same, same_equal}
use Rattle.gz_alloc.proofs.TableLemmas.{hit, mark_cell, mark_table, marks_agree, no_cells, agree_total}
use Rattle.gz_alloc.proofs.PickLemmas.{item_below, member_below}

abbrev Pair : Type 0
Pair = List ℕ × List ℕ

abbrev order : List ℕ → List ℕ → Ordering
order = slice_cmp nat_cmp

-- every pair is above this one
abbrev pub IsAbove : Pair → List Pair → Type 0
IsAbove p [] = ⊤
IsAbove p (q ∷ qs) = (pair_order p q ≡ Less) × IsAbove p qs

-- each pair is above those before it
abbrev pub IsAscending : List Pair → Type 0
IsAscending [] = ⊤
IsAscending (p ∷ ps) = IsAbove p ps × IsAscending ps

-- ---- the order of pairs

by_item : IsTotalOrder (λ (p q : Pair). order p.0 q.0)
by_item = record { antisymm = λ p q. nat_list_cmp_total.antisymm p.0 q.0; trans = λ p q r. nat_list_cmp_total.trans p.0 q.0 r.0; congr = λ p q r. nat_list_cmp_total.congr p.0 q.0 r.0 }

by_member : IsTotalOrder (λ (p q : Pair). order p.1 q.1)
by_member = record { antisymm = λ p q. nat_list_cmp_total.antisymm p.1 q.1; trans = λ p q r. nat_list_cmp_total.trans p.1 q.1 r.1; congr = λ p q r. nat_list_cmp_total.congr p.1 q.1 r.1 }

pairs_total : IsTotalOrder pair_order
pairs_total = then_total by_item by_member

above_all : (p q : Pair) (qs : List Pair) → pair_order p q ≡ Less → IsAbove q qs → IsAbove p qs
above_all p q [] less above = tt
above_all p q (r ∷ rs) less above = (pairs_total.trans p q r less above.0, above_all p q rs less above.1)

next : (k : ℕ) → k + 1 ≡ suc k
next k = omega arith

-- pairs rise where each is below the next
ascending_by_steps : (ps : List Pair) → ((k : ℕ) → suc k < length ps → pair_order (pair_at ps k) (pair_at ps (suc k)) ≡ Less) → IsAscending ps
ascending_by_steps [] each = tt
ascending_by_steps (p ∷ []) each = (tt, tt)
ascending_by_steps (p ∷ q ∷ qs) each =
    let rest = ascending_by_steps (q ∷ qs) (λ k lt. each (suc k) (omega (arith, lt))) in
    let here : pair_order p q ≡ Less = each 0 (omega arith) in ((here, above_all p q qs here rest.0), rest)

above_at : (p : Pair) (ps : List Pair) (k : ℕ) → IsAbove p ps → k < length ps → pair_order p (pair_at ps k) ≡ Less
above_at p [] k above lt = absurd (omega (arith, lt))
above_at p (q ∷ qs) zero above lt = above.0
above_at p (q ∷ qs) (suc k) above lt = above_at p qs k above.1 (omega (arith, lt))

pub ascending_step : (ps : List Pair) (k : ℕ) → IsAscending ps → suc k < length ps → pair_order (pair_at ps k) (pair_at ps (suc k)) ≡ Less
ascending_step [] k up lt = absurd (omega (arith, lt))
ascending_step (p ∷ ps) zero up lt = above_at p ps 0 up.0 (omega (arith, lt))
ascending_step (p ∷ ps) (suc k) up lt = ascending_step ps k up.1 (omega (arith, lt))

-- the test says that pairs rise
pub ascending_facts : (ps : List Pair) → ascending ps ≡ true → IsAscending ps
ascending_facts ps h = ascending_by_steps ps (λ k lt. subst (λ j. pair_order (pair_at ps k) (pair_at ps j) ≡ Less) (next k) (less_from (pair_order (pair_at ps k) (pair_at ps (k + 1)))
    (on (nat_lt (k + 1) (length ps)) (is_lt (pair_order (pair_at ps k) (pair_at ps (k + 1)))) (lt-ltb (k + 1) (length ps) (omega (arith, lt))) (all_to_at (length ps) (below_next ps) h k (omega (arith, lt))))))
  where
    on : (a b : Bool) → a ≡ true → cond a b true ≡ true → b ≡ true
    on true b p q = q
    on false b p q = let bad : false ≡ true = p in cc

all_to_each : (n : ℕ) (p : ℕ → Bool) → ((k : ℕ) → k < n → p k ≡ true) → all_to n p ≡ true
all_to_each zero p h = refl
all_to_each (suc n) p h = and_from (all_to n p) (p n) (all_to_each n p (λ k lt. h k (omega arith))) (h n (omega arith))

rises_next : (ps : List Pair) → IsAscending ps → (k : ℕ) (b : Bool) → nat_lt (k + 1) (length ps) ≡ b → cond b (is_lt (pair_order (pair_at ps k) (pair_at ps (k + 1)))) true ≡ true
rises_next ps h k true e =
    let within : k + 1 < length ps = ltb-true (k + 1) (length ps) e in
    ap is_lt (subst (λ j. pair_order (pair_at ps k) (pair_at ps j) ≡ Less) (sym (next k)) (ascending_step ps k h (omega (arith, within))))
rises_next ps h k false e = refl

pub ascending_test : (ps : List Pair) → IsAscending ps → ascending ps ≡ true
ascending_test ps h = all_to_each (length ps) (below_next ps) (λ k lk. rises_next ps h k (nat_lt (k + 1) (length ps)) refl)

-- ---- how many pairs there are

-- none of the pairs is in the table
abbrev EachMissing : Asked → List Bool → List Pair → Type 0
EachMissing asked flags [] = ⊤
EachMissing asked flags (q ∷ qs) = (cells_of flags (place_of q.0 (item_names asked)) (place_of q.1 (member_names asked)) ≡ false) × EachMissing asked flags qs

none_missing : (asked : Asked) (n : ℕ) (qs : List Pair) → EachMissing asked (replicate n false) qs
none_missing asked n [] = tt
none_missing asked n (q ∷ qs) = (no_cells n (place_of q.0 (item_names asked)) (place_of q.1 (member_names asked)), none_missing asked n qs)

-- the places of a pair of the problem
record IsPlaced (asked : Asked) (p : Pair) : Type 0 where
  item : place_of p.0 (item_names asked) < items (net_of asked)
  member : place_of p.1 (member_names asked) < members (net_of asked)

placed : (asked : Asked) (p : Pair) → is_known asked p ≡ true → IsPlaced asked p
placed asked p h =
    let both = and_parts (nat_lt (place_of p.0 (item_names asked)) (items (net_of asked))) (nat_lt (place_of p.1 (member_names asked)) (members (net_of asked))) h in
    record { item = ltb-true (place_of p.0 (item_names asked)) (items (net_of asked)) both.0; member = ltb-true (place_of p.1 (member_names asked)) (members (net_of asked)) both.1 }

-- a pair that hits the places of another is that pair
hit_same : (asked : Asked) (p q : Pair) → IsPlaced asked q → hit asked p (place_of q.0 (item_names asked)) (place_of q.1 (member_names asked)) ≡ true → pair_order p q ≡ Equal
hit_same asked p q at h =
    let i = place_of q.0 (item_names asked) in
    let m = place_of q.1 (member_names asked) in
    let both = and_parts (same p.0 (name_at (item_names asked) i)) (same p.1 (name_at (member_names asked) m)) h in
    let e : p.0 ≡ q.0 = same_equal p.0 (name_at (item_names asked) i) both.0 ∙ same_equal (name_at (item_names asked) i) q.0 (place_same q.0 (item_names asked) (item_below asked i at.item)) in
    let f : p.1 ≡ q.1 = same_equal p.1 (name_at (member_names asked) m) both.1 ∙ same_equal (name_at (member_names asked) m) q.1 (place_same q.1 (member_names asked) (member_below asked m at.member)) in
    ap (λ n. ordering_then (order n q.0) (order p.1 q.1)) e ∙ ap (λ n. ordering_then (order q.0 q.0) (order n q.1)) f ∙ tied_itself pairs_total q

no_hit : (b : Bool) (o : Ordering) → (b ≡ true → o ≡ Equal) → o ≡ Less → b ≡ false
no_hit true o h less = let bad : Less ≡ Equal = sym less ∙ h refl in cc
no_hit false o h less = refl

missing_after : (asked : Asked) → is_problem asked ≡ true → (flags : List Bool) (p : Pair) (qs : List Pair) → IsTable (net_of asked) flags → list_all (is_known asked) qs ≡ true → IsAbove p qs → EachMissing asked flags qs → EachMissing asked (mark_pair asked flags p) qs
missing_after asked ok flags p [] table known above missing = tt
missing_after asked ok flags p (q ∷ qs) table known above missing =
    let both = and_parts (is_known asked q) (list_all (is_known asked) qs) known in
    let at = placed asked q both.0 in
    let i = place_of q.0 (item_names asked) in
    let m = place_of q.1 (member_names asked) in (
      mark_cell asked ok flags (net_ok asked ok) table p i m at.item at.member ∙ ap (λ b. b || hit asked p i m) missing.0 ∙ no_hit (hit asked p i m) (pair_order p q) (hit_same asked p q at) above.0,
      missing_after asked ok flags p qs table both.1 above.1 missing.1,
    )

-- pairs that rise, and aren't in the table, make it as much greater as they are many
count_marks : (asked : Asked) → is_problem asked ≡ true → (ps : List Pair) (flags : List Bool) → IsTable (net_of asked) flags → list_all (is_known asked) ps ≡ true → IsAscending ps → EachMissing asked flags ps →
    total (net_of asked) (cells_of (mark_pairs asked ps flags)) ≡ total (net_of asked) (cells_of flags) + length ps
count_marks asked ok [] flags table known up missing = plain (total (net_of asked) (cells_of flags))
  where
    plain : (a : ℕ) → a ≡ a + 0
    plain a = omega arith
count_marks asked ok (p ∷ ps) flags table known up missing =
    let both = and_parts (is_known asked p) (list_all (is_known asked) ps) known in
    let at = placed asked p both.0 in
    let i = place_of p.0 (item_names asked) in
    let m = place_of p.1 (member_names asked) in
    let marked : mark_pair asked flags p ≡ set_cell flags i m true = ap (λ b. cond b (set_cell flags i m true) flags) both.0 in
    let more = total_at (net_of asked) (cells_of flags) (cells_of (set_cell flags i m true)) i m false true (differs_set (net_of asked) flags (net_ok asked ok) table i m false true at.item at.member missing.0) in
    let rest = count_marks asked ok ps (mark_pair asked flags p) (mark_table asked flags p ∙ table) both.1 up.1 (missing_after asked ok flags p ps table both.1 up.0 missing.1) in
    join (total (net_of asked) (cells_of (mark_pairs asked ps (mark_pair asked flags p)))) (total (net_of asked) (cells_of (mark_pair asked flags p))) (total (net_of asked) (cells_of (set_cell flags i m true))) (total (net_of asked) (cells_of flags)) (length ps)
    rest (ap (λ f. total (net_of asked) (cells_of f)) marked) more
  where
    join : (a b c d l : ℕ) → a ≡ b + l → b ≡ c → c + 0 ≡ d + 1 → a ≡ d + suc l
    join a b c d l p q r = omega arith

-- ascending pairs of the problem are as many as it counts
pub size_is_length : (asked : Asked) → is_problem asked ≡ true → (ps : List Pair) → list_all (is_known asked) ps ≡ true → ascending ps ≡ true → size asked ps ≡ length ps
size_is_length asked ok ps known up =
    let empty = replicate (64 * items (net_of asked)) false in
    let none : total (net_of asked) (cells_of empty) ≡ 0 = sum_to_zero (items (net_of asked)) (λ i. row (net_of asked) (cells_of empty) i) (λ i li. sum_to_zero (members (net_of asked)) (λ m. when (cells_of empty i m) 1) (λ m lm. ap (λ b. when b 1) (no_cells (64 * items (net_of asked)) i m))) in
    sym (agree_total (net_of asked) (cells_of (mark_pairs asked ps empty)) (paired asked ps) (marks_agree asked ok (net_ok asked ok) ps))
    ∙ from_none (total (net_of asked) (cells_of (mark_pairs asked ps empty))) (total (net_of asked) (cells_of empty)) (length ps)
    (count_marks asked ok ps empty (length-replicate (64 * items (net_of asked)) false) known (ascending_facts ps up) (none_missing asked (64 * items (net_of asked)) ps)) none
  where
    from_none : (a b l : ℕ) → a ≡ b + l → b ≡ 0 → a ≡ l
    from_none a b l p q = omega arith

-- ---- the pairs of a table

pub above_append : (p : Pair) (xs ys : List Pair) → IsAbove p xs → IsAbove p ys → IsAbove p (xs ++ ys)
above_append p [] ys a b = b
above_append p (x ∷ xs) ys a b = (a.0, above_append p xs ys a.1 b)

-- each of the first pairs is below all of the others
abbrev pub EachBelow : List Pair → List Pair → Type 0
EachBelow [] ys = ⊤
EachBelow (x ∷ xs) ys = IsAbove x ys × EachBelow xs ys

below_append : (xs ys zs : List Pair) → EachBelow xs zs → EachBelow ys zs → EachBelow (xs ++ ys) zs
below_append [] ys zs a b = b
below_append (x ∷ xs) ys zs a b = (a.0, below_append xs ys zs a.1 b)

pub ascending_append : (xs ys : List Pair) → IsAscending xs → IsAscending ys → EachBelow xs ys → IsAscending (xs ++ ys)
ascending_append [] ys a b below = b
ascending_append (x ∷ xs) ys a b below = (above_append x xs ys a.0 below.0, ascending_append xs ys a.1 b below.1)

above_picks : (a : Pair) (n : ℕ) (p : ℕ → Bool) (f : ℕ → Pair) → ((k : ℕ) → k < n → pair_order a (f k) ≡ Less) → IsAbove a (picks n p f)
above_picks a zero p f less = tt
above_picks a (suc n) p f less = above_append a (picks n p f) (if p n then f n ∷ [] else []) (above_picks a n p f (λ k lt. less k (omega arith))) (last (p n))
  where
    last : (b : Bool) → IsAbove a (if b then f n ∷ [] else [])
    last true = (less n (omega arith), tt)
    last false = tt

picks_below : (n : ℕ) (p : ℕ → Bool) (f : ℕ → Pair) (ys : List Pair) → ((k : ℕ) → k < n → IsAbove (f k) ys) → EachBelow (picks n p f) ys
picks_below zero p f ys each = tt
picks_below (suc n) p f ys each = below_append (picks n p f) (if p n then f n ∷ [] else []) ys (picks_below n p f ys (λ k lt. each k (omega arith))) (last (p n))
  where
    last : (b : Bool) → EachBelow (if b then f n ∷ [] else []) ys
    last true = (each n (omega arith), tt)
    last false = tt

picks_rise : (n : ℕ) (p : ℕ → Bool) (f : ℕ → Pair) → ((j k : ℕ) → j < k → k < n → pair_order (f j) (f k) ≡ Less) → IsAscending (picks n p f)
picks_rise zero p f less = tt
picks_rise (suc n) p f less = ascending_append (picks n p f) (if p n then f n ∷ [] else []) (picks_rise n p f (λ j k lt lk. less j k lt (omega arith))) (alone (p n)) (picks_below n p f (if p n then f n ∷ [] else []) (λ k lt. last (p n) k lt))
  where
    alone : (b : Bool) → IsAscending (if b then f n ∷ [] else [])
    alone true = (tt, tt)
    alone false = tt

    last : (b : Bool) (k : ℕ) → k < n → IsAbove (f k) (if b then f n ∷ [] else [])
    last true k lt = (less k n lt (omega arith), tt)
    last false k lt = tt

gather_below : (n : ℕ) (f : ℕ → List Pair) (ys : List Pair) → ((i : ℕ) → i < n → EachBelow (f i) ys) → EachBelow (gather n f) ys
gather_below zero f ys each = tt
gather_below (suc n) f ys each = below_append (gather n f) (f n) ys (gather_below n f ys (λ i lt. each i (omega arith))) (each n (omega arith))

gather_rise : (n : ℕ) (f : ℕ → List Pair) → ((i : ℕ) → i < n → IsAscending (f i)) → ((i j : ℕ) → i < j → j < n → EachBelow (f i) (f j)) → IsAscending (gather n f)
gather_rise zero f each cross = tt
gather_rise (suc n) f each cross = ascending_append (gather n f) (f n) (gather_rise n f (λ i lt. each i (omega arith)) (λ i j lt lj. cross i j lt (omega arith))) (each n (omega arith)) (gather_below n f (f n) (λ i lt. cross i n lt (omega arith)))

between : (names : List (List ℕ)) → rises names ≡ true → (i j : ℕ) → i < j → j < length names → order (name_at names i) (name_at names j) ≡ Less
between names h i j lt lj = subst (λ k. order (name_at names i) (name_at names k) ≡ Less) (reach i j lt) (rise_apart names h i (j - suc i) (subst (λ k. k < length names) (sym (reach i j lt)) lj))
  where
    reach : (a b : ℕ) → a < b → a + suc (b - suc a) ≡ b
    reach a b lt = omega arith

-- the pairs of a table rise
pub pairs_rise : (asked : Asked) → is_problem asked ≡ true → (x : Cells) → IsAscending (pairs_of asked x)
pairs_rise asked ok x = gather_rise (items (net_of asked)) (λ i. picks (members (net_of asked)) (x i) (pair i)) (λ i li. picks_rise (members (net_of asked)) (x i) (pair i) (λ j k lt lk. in_row i j k lt lk))
    (λ i j lt lj. picks_below (members (net_of asked)) (x i) (pair i) (picks (members (net_of asked)) (x j) (pair j)) (λ k lk. above_picks (pair i k) (members (net_of asked)) (x j) (pair j) (λ l ll. in_rows i j k l lt lj)))
  where
    pair : ℕ → ℕ → Pair
    pair i m = (name_at (item_names asked) i, name_at (member_names asked) m)

    in_row : (i j k : ℕ) → j < k → k < members (net_of asked) → pair_order (pair i j) (pair i k) ≡ Less
    in_row i j k lt lk = ap (λ o. ordering_then o (order (name_at (member_names asked) j) (name_at (member_names asked) k))) (tied_itself nat_list_cmp_total (name_at (item_names asked) i))
        ∙ between (member_names asked) ((asked_facts asked ok).members_rise) j k lt (member_below asked k lk)

    in_rows : (i j k l : ℕ) → i < j → j < items (net_of asked) → pair_order (pair i k) (pair j l) ≡ Less
    in_rows i j k l lt lj = ap (λ o. ordering_then o (order (name_at (member_names asked) k) (name_at (member_names asked) l))) (between (item_names asked) ((asked_facts asked ok).items_rise) i j lt (item_below asked j lj))

pub table_rises : (asked : Asked) → is_problem asked ≡ true → (x : Cells) → ascending (pairs_of asked x) ≡ true
table_rises asked ok x = ascending_test (pairs_of asked x) (pairs_rise asked ok x)
