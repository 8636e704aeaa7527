-- The greedy placement stays the same while what is placed moves towards it.
use Rattle.std.proofs.Common.{◌≡◌, ℕ, ◌+◌, ◌-◌, ◌*◌, ◌<◌, ◌≤◌, ◌≢◌, Bool, true, false, ◌==◌, List, [], ◌∷◌, ◌++◌, length, replicate, refl, ap, ◌∙◌, sym, subst, arith, inl, inr, ⊎_elim, cond, true≢false, Ordering}
use Prim.Native.Nat.{zero, suc}
use Rattle.std.specs.Prelude.{⊤}
use Rattle.std.specs.Ordering.{nat_cmp, ordering_then, is_lt}
use Rattle.std.specs.declared.cmp.Ordering.TheVariants.{Less, Equal, Greater}
use Rattle.std.specs.Cmp.Lexicographic.{slice_cmp, nat_list_cmp_total}
use Rattle.std.proofs.lemmas.List.{length-replicate}
use Rattle.std.proofs.lemmas.Bool.{and_parts, and_from, ltb-true, lt-ltb, eqb-true, eq-eqb, cases_eq, cases_lt}
use Rattle.std.proofs.lemmas.Cmp.{tied_itself}
use Rattle.gz_alloc.specs.Flow.{Net, IsNet, Cells, Keeps, items, members, cells_of}
use Rattle.gz_alloc.specs.Names.{Asked, net_of, is_problem, is_known, item_names, member_names, place_of, name_at, paired, fill_row, fill, keep_pair, keep_pairs, greedy, greedy_pairs, pairs_of, picks, gather, rises}
use Rattle.gz_alloc.specs.Ascending.{pair_order, ascending}
use Rattle.gz_alloc.proofs.NameLemmas.{asked_facts, net_ok, rise_apart, place_same, same_equal}
use Rattle.gz_alloc.proofs.TableLemmas.{hit, hit_at, no_cells, good_greedy}
use Rattle.gz_alloc.proofs.PickLemmas.{pairs_agree, item_below, member_below, same_bools}
use Rattle.gz_alloc.proofs.RiseLemmas.{IsAscending, ascending_facts}
use Rattle.gz_keyspace.proofs.RowLemmas.{same_from_order}
use Rattle.gz_converge.proofs.Leaving.{or_first, or_last, or_cases}
use Rattle.gz_converge.proofs.Moves.{Moves}
use Rattle.gz_converge.proofs.Tables.{Cell, run, IsIn, place, IsAbove, Ascend, two_passes}

abbrev pub Pair : Type 0
Pair = List ℕ × List ℕ

-- ---- passes

run_append : (net : Net) (cs ds : List Cell) (x : List Bool) → run net (cs ++ ds) x ≡ run net ds (run net cs x)
run_append net [] ds x = refl
run_append net (c ∷ cs) ds x = run_append net cs ds _

abbrev row_cells : ℕ → ℕ → List Cell
row_cells i zero = []
row_cells i (suc m) = row_cells i m ++ (i, m) ∷ []

abbrev all_cells : ℕ → ℕ → List Cell
all_cells k zero = []
all_cells k (suc i) = all_cells k i ++ row_cells i k

fill_row_runs : (net : Net) (i m : ℕ) (x : List Bool) → fill_row net i m x ≡ run net (row_cells i m) x
fill_row_runs net i zero x = refl
fill_row_runs net i (suc m) x = ap (λ f. run net ((i, m) ∷ []) f) (fill_row_runs net i m x) ∙ sym (run_append net (row_cells i m) ((i, m) ∷ []) x)

fill_runs : (net : Net) (i : ℕ) (x : List Bool) → fill net i x ≡ run net (all_cells (members net) i) x
fill_runs net zero x = refl
fill_runs net (suc i) x =
    fill_row_runs net i (members net) (fill net i x)
    ∙ ap (λ f. run net (row_cells i (members net)) f) (fill_runs net i x)
    ∙ sym (run_append net (all_cells (members net) i) (row_cells i (members net)) x)

abbrev cell_of : Asked → Pair → Cell
cell_of asked p = (place_of p.0 (item_names asked), place_of p.1 (member_names asked))

-- the cells of the pairs that are known
abbrev pub known_cells : Asked → List Pair → List Cell
known_cells asked [] = []
known_cells asked (p ∷ ps) = cond (is_known asked p) (cell_of asked p ∷ known_cells asked ps) (known_cells asked ps)

keep_pairs_run : (asked : Asked) (ps : List Pair) (x : List Bool) → keep_pairs asked ps x ≡ run (net_of asked) (known_cells asked ps) x
keep_pairs_run asked [] x = refl
keep_pairs_run asked (p ∷ ps) x = at (is_known asked p) refl (keep_pairs_run asked ps (keep_pair asked x p))
  where
    net : Net
    net = net_of asked

    at : (b : Bool) → is_known asked p ≡ b → keep_pairs asked ps (keep_pair asked x p) ≡ run net (known_cells asked ps) (keep_pair asked x p) → keep_pairs asked (p ∷ ps) x ≡ run net (known_cells asked (p ∷ ps)) x
    at true e rest =
        rest
        ∙ ap (λ f. run net (known_cells asked ps) f) (ap (λ b. cond b (run net (cell_of asked p ∷ []) x) x) e)
        ∙ sym (ap (λ b. run net (cond b (cell_of asked p ∷ known_cells asked ps) (known_cells asked ps)) x) e)
    at false e rest =
        rest
        ∙ ap (λ f. run net (known_cells asked ps) f) (ap (λ b. cond b (run net (cell_of asked p ∷ []) x) x) e)
        ∙ sym (ap (λ b. run net (cond b (cell_of asked p ∷ known_cells asked ps) (known_cells asked ps)) x) e)

abbrev pub empty : Asked → List Bool
empty asked = replicate (64 * items (net_of asked)) false

abbrev pub every : Asked → List Cell
every asked = all_cells (members (net_of asked)) (items (net_of asked))

pub greedy_runs : (asked : Asked) (now : List Pair) → greedy asked now ≡ run (net_of asked) (every asked) (run (net_of asked) (known_cells asked now) (empty asked))
greedy_runs asked now =
    fill_runs (net_of asked) (items (net_of asked)) (keep_pairs asked now (empty asked))
    ∙ ap (λ f. run (net_of asked) (every asked) f) (keep_pairs_run asked now (empty asked))

-- ---- all cells

in_left : (i m : ℕ) (cs ds : List Cell) → IsIn i m cs → IsIn i m (cs ++ ds)
in_left i m [] ds here = absurd here
in_left i m (c ∷ cs) ds (inl e) = inl e
in_left i m (c ∷ cs) ds (inr there) = inr (in_left i m cs ds there)

in_right : (i m : ℕ) (cs ds : List Cell) → IsIn i m ds → IsIn i m (cs ++ ds)
in_right i m [] ds here = here
in_right i m (c ∷ cs) ds here = inr (in_right i m cs ds here)

in_row : (i m k : ℕ) → m < k → IsIn i m (row_cells i k)
in_row i m zero lm = absurd (omega (arith, lm))
in_row i m (suc k) lm = ⊎_elim
    (λ (e : m ≡ k). in_right i m (row_cells i k) ((i, k) ∷ []) (inl (refl, e)))
    (λ (ne : m ≢ k). in_left i m (row_cells i k) ((i, k) ∷ []) (in_row i m k (omega (arith, lm, ne)))) (cases_eq m k)

in_all : (k n i m : ℕ) → i < n → m < k → IsIn i m (all_cells k n)
in_all k zero i m li lm = absurd (omega (arith, li))
in_all k (suc n) i m li lm = ⊎_elim
    (λ (e : i ≡ n). in_right i m (all_cells k n) (row_cells n k) (subst (λ j. IsIn i m (row_cells j k)) e (in_row i m k lm)))
    (λ (ne : i ≢ n). in_left i m (all_cells k n) (row_cells n k) (in_all k n i m (omega (arith, li, ne)) lm)) (cases_eq i n)

-- every cell has its place below this one
abbrev IsBelow : ℕ → List Cell → Type 0
IsBelow n [] = ⊤
IsBelow n (c ∷ cs) = (place c < n) × IsBelow n cs

-- every cell has its place at this one or above
abbrev IsFrom : ℕ → List Cell → Type 0
IsFrom n [] = ⊤
IsFrom n (c ∷ cs) = (n ≤ place c) × IsFrom n cs

below_append : (n : ℕ) (cs ds : List Cell) → IsBelow n cs → IsBelow n ds → IsBelow n (cs ++ ds)
below_append n [] ds f g = g
below_append n (c ∷ cs) ds f g = (f.0, below_append n cs ds f.1 g)

below_more : (n k : ℕ) (cs : List Cell) → n ≤ k → IsBelow n cs → IsBelow k cs
below_more n k [] le f = tt
below_more n k (c ∷ cs) le f = let less : place c < n = f.0 in (omega (arith, less, le), below_more n k cs le f.1)

from_append : (n : ℕ) (cs ds : List Cell) → IsFrom n cs → IsFrom n ds → IsFrom n (cs ++ ds)
from_append n [] ds f g = g
from_append n (c ∷ cs) ds f g = (f.0, from_append n cs ds f.1 g)

above_from : (a n : ℕ) (ds : List Cell) → a < n → IsFrom n ds → IsAbove a ds
above_from a n [] lt f = tt
above_from a n (d ∷ ds) lt f = let le : n ≤ place d = f.0 in (omega (arith, lt, le), above_from a n ds lt f.1)

above_append : (a : ℕ) (cs ds : List Cell) → IsAbove a cs → IsAbove a ds → IsAbove a (cs ++ ds)
above_append a [] ds f g = g
above_append a (c ∷ cs) ds f g = (f.0, above_append a cs ds f.1 g)

ascend_append : (net : Net) (n : ℕ) (cs ds : List Cell) → IsBelow n cs → IsFrom n ds → Ascend net cs → Ascend net ds → Ascend net (cs ++ ds)
ascend_append net n [] ds low high up more = more
ascend_append net n (c ∷ cs) ds low high up more =
    (up.0, up.1, above_append (place c) cs ds up.2 (above_from (place c) n ds low.0 high), ascend_append net n cs ds low.1 high up.3 more)

row_below : (i k : ℕ) → IsBelow (64 * i + k) (row_cells i k)
row_below i zero = tt
row_below i (suc k) = below_append (64 * i + suc k) (row_cells i k) ((i, k) ∷ []) (below_more (64 * i + k) (64 * i + suc k) (row_cells i k) (omega arith) (row_below i k)) (omega arith, tt)

row_from : (i k : ℕ) → IsFrom (64 * i) (row_cells i k)
row_from i zero = tt
row_from i (suc k) = from_append (64 * i) (row_cells i k) ((i, k) ∷ []) (row_from i k) (omega arith, tt)

row_ascends : (net : Net) (i k : ℕ) → i < items net → k ≤ members net → Ascend net (row_cells i k)
row_ascends net i zero li lk = tt
row_ascends net i (suc k) li lk =
    ascend_append net (64 * i + k) (row_cells i k) ((i, k) ∷ []) (row_below i k) (omega arith, tt) (row_ascends net i k li (omega (arith, lk))) (li, omega (arith, lk), tt, tt)

all_below : (k n : ℕ) → k ≤ 64 → IsBelow (64 * n) (all_cells k n)
all_below k zero le = tt
all_below k (suc n) le = below_append (64 * suc n) (all_cells k n) (row_cells n k)
    (below_more (64 * n) (64 * suc n) (all_cells k n) (omega arith) (all_below k n le))
    (below_more (64 * n + k) (64 * suc n) (row_cells n k) (omega (arith, le)) (row_below n k))

all_ascend : (net : Net) (n : ℕ) → IsNet net → n ≤ items net → Ascend net (all_cells (members net) n)
all_ascend net zero ok ln = tt
all_ascend net (suc n) ok ln =
    ascend_append net (64 * n) (all_cells (members net) n) (row_cells n (members net)) (all_below (members net) n ok.few_members) (row_from n (members net))
    (all_ascend net n ok (omega (arith, ln))) (row_ascends net n (members net) (omega (arith, ln)) (omega arith))

-- ---- the cells of pairs

pub known_bounds : (asked : Asked) (p : Pair) → is_known asked p ≡ true → (place_of p.0 (item_names asked) < items (net_of asked)) × (place_of p.1 (member_names asked) < members (net_of asked))
known_bounds asked p e =
    let two = and_parts _ _ e in
    (ltb-true (place_of p.0 (item_names asked)) (items (net_of asked)) two.0, ltb-true (place_of p.1 (member_names asked)) (members (net_of asked)) two.1)

-- a cell is among those of the pairs where the pairs have it
pub in_paired : (asked : Asked) → is_problem asked ≡ true → (ps : List Pair) (i m : ℕ) → i < items (net_of asked) → m < members (net_of asked) → IsIn i m (known_cells asked ps) → paired asked ps i m ≡ true
in_paired asked ok [] i m li lm here = absurd here
in_paired asked ok (p ∷ ps) i m li lm here = at (λ there. or_last (hit asked p i m) (paired asked ps i m) (in_paired asked ok ps i m li lm there)) (is_known asked p) refl
  where
    head : (i ≡ place_of p.0 (item_names asked)) × (m ≡ place_of p.1 (member_names asked)) → paired asked (p ∷ ps) i m ≡ true
    head e = or_first (hit asked p i m) (paired asked ps i m)
        (hit_at asked ok p i m li lm ∙ and_from (place_of p.0 (item_names asked) == i) (place_of p.1 (member_names asked) == m) (eq-eqb (place_of p.0 (item_names asked)) i (sym e.0)) (eq-eqb (place_of p.1 (member_names asked)) m (sym e.1)))

    at : (IsIn i m (known_cells asked ps) → paired asked (p ∷ ps) i m ≡ true) → (b : Bool) → is_known asked p ≡ b → paired asked (p ∷ ps) i m ≡ true
    at rest true e = ⊎_elim head rest (subst (λ b. IsIn i m (cond b (cell_of asked p ∷ known_cells asked ps) (known_cells asked ps))) e here)
    at rest false e = rest (subst (λ b. IsIn i m (cond b (cell_of asked p ∷ known_cells asked ps) (known_cells asked ps))) e here)

pub paired_in : (asked : Asked) → is_problem asked ≡ true → (ps : List Pair) (i m : ℕ) → i < items (net_of asked) → m < members (net_of asked) → paired asked ps i m ≡ true → IsIn i m (known_cells asked ps)
paired_in asked ok [] i m li lm h = absurd (true≢false (sym h))
paired_in asked ok (p ∷ ps) i m li lm h = ⊎_elim head (λ (e : paired asked ps i m ≡ true). rest (is_known asked p) (paired_in asked ok ps i m li lm e)) (or_cases (hit asked p i m) (paired asked ps i m) h)
  where
    rest : (b : Bool) → IsIn i m (known_cells asked ps) → IsIn i m (cond b (cell_of asked p ∷ known_cells asked ps) (known_cells asked ps))
    rest true there = inr there
    rest false there = there

    head : hit asked p i m ≡ true → IsIn i m (known_cells asked (p ∷ ps))
    head e =
        let two = and_parts (place_of p.0 (item_names asked) == i) (place_of p.1 (member_names asked) == m) (sym (hit_at asked ok p i m li lm) ∙ e) in
        let a : place_of p.0 (item_names asked) ≡ i = eqb-true (place_of p.0 (item_names asked)) i two.0 in
        let b : place_of p.1 (member_names asked) ≡ m = eqb-true (place_of p.1 (member_names asked)) m two.1 in
        let known : is_known asked p ≡ true = and_from _ _ (lt-ltb (place_of p.0 (item_names asked)) (items (net_of asked)) (subst (λ k. k < items (net_of asked)) (sym a) li)) (lt-ltb (place_of p.1 (member_names asked)) (members (net_of asked)) (subst (λ k. k < members (net_of asked)) (sym b) lm)) in
        subst (λ b. IsIn i m (cond b (cell_of asked p ∷ known_cells asked ps) (known_cells asked ps))) (sym known) (inl (sym a, sym b))

-- ---- pairs that rise have cells that do

abbrev pub order : List ℕ → List ℕ → Ordering
order = slice_cmp nat_cmp

not_below_itself : (a : List ℕ) → order a a ≡ Less → ⊥
not_below_itself a less = true≢false (sym (ap is_lt less) ∙ ap is_lt (tied_itself nat_list_cmp_total a))

difference : (a b : ℕ) → b < a → a ≡ b + suc (a - b - 1)
difference a b less = omega arith

-- names that rise have places that do
places_rise : (names : List (List ℕ)) → rises names ≡ true → (a b : List ℕ) → order a b ≡ Less → place_of a names < length names → place_of b names < length names → place_of a names < place_of b names
places_rise names up a b less la lb = ⊎_elim (λ (e : place_of a names < place_of b names). e) (λ (le : place_of b names ≤ place_of a names). absurd (not_less le)) (cases_lt (place_of a names) (place_of b names))
  where
    at_a : name_at names (place_of a names) ≡ a
    at_a = same_equal (name_at names (place_of a names)) a (place_same a names la)

    at_b : name_at names (place_of b names) ≡ b
    at_b = same_equal (name_at names (place_of b names)) b (place_same b names lb)

    greater : place_of b names < place_of a names → order b a ≡ Less
    greater lt =
        let e : place_of a names ≡ place_of b names + suc (place_of a names - place_of b names - 1) = difference (place_of a names) (place_of b names) lt in
        let f : order (name_at names (place_of b names)) (name_at names (place_of b names + suc (place_of a names - place_of b names - 1))) ≡ Less =
        rise_apart names up (place_of b names) (place_of a names - place_of b names - 1) (subst (λ k. k < length names) e la) in
        subst (λ n. order n a ≡ Less) at_b (subst (λ n. order (name_at names (place_of b names)) n ≡ Less) at_a (subst (λ k. order (name_at names (place_of b names)) (name_at names k) ≡ Less) (sym e) f))

    not_less : place_of b names ≤ place_of a names → ⊥
    not_less le = ⊎_elim
        (λ (e : place_of a names ≡ place_of b names). not_below_itself a (subst (λ n. order a n ≡ Less) (sym at_b ∙ ap (name_at names) (sym e) ∙ at_a) less))
        (λ (ne : place_of a names ≢ place_of b names). not_below_itself a (nat_list_cmp_total.trans a b a less (greater (omega (arith, le, ne)))))
        (cases_eq (place_of a names) (place_of b names))

cell_less : (a b c d k : ℕ) → a < c → b < k → k ≤ 64 → 64 * a + b < 64 * c + d
cell_less a b c d k p q r = omega arith

cell_next : (a b c d : ℕ) → a ≡ c → b < d → 64 * a + b < 64 * c + d
cell_next a b c d p q = omega arith

cells_rise : (asked : Asked) → is_problem asked ≡ true → (p q : Pair) → is_known asked p ≡ true → is_known asked q ≡ true → pair_order p q ≡ Less → place (cell_of asked p) < place (cell_of asked q)
cells_rise asked ok p q kp kq less = at (order p.0 q.0) refl
  where
    bp : (place_of p.0 (item_names asked) < items (net_of asked)) × (place_of p.1 (member_names asked) < members (net_of asked))
    bp = known_bounds asked p kp

    bq : (place_of q.0 (item_names asked) < items (net_of asked)) × (place_of q.1 (member_names asked) < members (net_of asked))
    bq = known_bounds asked q kq

    at : (o : Ordering) → order p.0 q.0 ≡ o → place (cell_of asked p) < place (cell_of asked q)
    at Less e = cell_less (place_of p.0 (item_names asked)) (place_of p.1 (member_names asked)) (place_of q.0 (item_names asked)) (place_of q.1 (member_names asked)) (members (net_of asked))
        (places_rise (item_names asked) ((asked_facts asked ok).items_rise) p.0 q.0 e (item_below asked (place_of p.0 (item_names asked)) bp.0) (item_below asked (place_of q.0 (item_names asked)) bq.0))
        bp.1 ((net_ok asked ok).few_members)
    at Equal e = cell_next (place_of p.0 (item_names asked)) (place_of p.1 (member_names asked)) (place_of q.0 (item_names asked)) (place_of q.1 (member_names asked))
        (ap (λ n. place_of n (item_names asked)) (same_from_order p.0 q.0 e))
        (places_rise (member_names asked) ((asked_facts asked ok).members_rise) p.1 q.1 (sym (ap (λ o. ordering_then o (order p.1 q.1)) e) ∙ less) (member_below asked (place_of p.1 (member_names asked)) bp.1) (member_below asked (place_of q.1 (member_names asked)) bq.1))
    at Greater e = absurd (true≢false (sym (ap is_lt less) ∙ ap (λ o. is_lt (ordering_then o (order p.1 q.1))) e))

known_above : (asked : Asked) → is_problem asked ≡ true → (p : Pair) → is_known asked p ≡ true → (ps : List Pair) → IsAscending (p ∷ ps) → IsAbove (place (cell_of asked p)) (known_cells asked ps)
known_above asked ok p kp [] up = tt
known_above asked ok p kp (q ∷ qs) up = at (known_above asked ok p kp qs (up.0.1, up.1.1)) (is_known asked q) refl
  where
    at : IsAbove (place (cell_of asked p)) (known_cells asked qs) → (b : Bool) → is_known asked q ≡ b → IsAbove (place (cell_of asked p)) (known_cells asked (q ∷ qs))
    at rest true e = subst (λ b. IsAbove (place (cell_of asked p)) (cond b (cell_of asked q ∷ known_cells asked qs) (known_cells asked qs))) (sym e) (cells_rise asked ok p q kp e up.0.0, rest)
    at rest false e = subst (λ b. IsAbove (place (cell_of asked p)) (cond b (cell_of asked q ∷ known_cells asked qs) (known_cells asked qs))) (sym e) rest

pub known_ascend : (asked : Asked) → is_problem asked ≡ true → (ps : List Pair) → IsAscending ps → Ascend (net_of asked) (known_cells asked ps)
known_ascend asked ok [] up = tt
known_ascend asked ok (p ∷ ps) up = at (known_ascend asked ok ps up.1) (is_known asked p) refl
  where
    at : Ascend (net_of asked) (known_cells asked ps) → (b : Bool) → is_known asked p ≡ b → Ascend (net_of asked) (known_cells asked (p ∷ ps))
    at rest true e =
        let both = known_bounds asked p e in
        subst (λ b. Ascend (net_of asked) (cond b (cell_of asked p ∷ known_cells asked ps) (known_cells asked ps))) (sym e) (both.0, both.1, known_above asked ok p e ps up, rest)
    at rest false e = subst (λ b. Ascend (net_of asked) (cond b (cell_of asked p ∷ known_cells asked ps) (known_cells asked ps))) (sym e) rest

-- ---- the greedy placement

pub in_bounds : (net : Net) (cs : List Cell) (i m : ℕ) → Ascend net cs → IsIn i m cs → (i < items net) × (m < members net)
in_bounds net [] i m up here = absurd here
in_bounds net (c ∷ cs) i m up (inl e) = (subst (λ k. k < items net) (sym e.0) up.0, subst (λ k. k < members net) (sym e.1) up.1)
in_bounds net (c ∷ cs) i m up (inr there) = in_bounds net cs i m up.3 there

pub every_ascends : (asked : Asked) → is_problem asked ≡ true → Ascend (net_of asked) (every asked)
every_ascends asked ok = all_ascend (net_of asked) (items (net_of asked)) (net_ok asked ok) (omega arith)

picks_same : {A : Type 0} (n : ℕ) (p q : ℕ → Bool) (f : ℕ → A) → ((k : ℕ) → k < n → p k ≡ q k) → picks n p f ≡ picks n q f
picks_same zero p q f h = refl
picks_same (suc n) p q f h =
    ap (λ xs. xs ++ cond (p n) (f n ∷ []) []) (picks_same n p q f (λ k lk. h k (omega (arith, lk))))
    ∙ ap (λ b. picks n q f ++ cond b (f n ∷ []) []) (h n (omega arith))

gather_same : {A : Type 0} (n : ℕ) (f g : ℕ → List A) → ((i : ℕ) → i < n → f i ≡ g i) → gather n f ≡ gather n g
gather_same zero f g h = refl
gather_same (suc n) f g h =
    ap (λ xs. xs ++ f n) (gather_same n f g (λ k lk. h k (omega (arith, lk))))
    ∙ ap (λ xs. gather n g ++ xs) (h n (omega arith))

pairs_same : (asked : Asked) (x y : Cells) → ((i m : ℕ) → i < items (net_of asked) → m < members (net_of asked) → x i m ≡ y i m) → pairs_of asked x ≡ pairs_of asked y
pairs_same asked x y h = gather_same (items (net_of asked)) _ _ (λ i li. picks_same (members (net_of asked)) (x i) (y i) _ (λ m lm. h i m li lm))

-- Where pairs come that are placed, and placed ones stay, the greedy placement is the same again.
pub greedy_stays : (asked : Asked) → is_problem asked ≡ true → (now next : List Pair) → ascending now ≡ true → ascending next ≡ true → Moves now (greedy_pairs asked now) next → greedy_pairs asked next ≡ greedy_pairs asked now
greedy_stays asked ok now next now_up next_up moves = pairs_same asked (cells_of (greedy asked next)) (cells_of (greedy asked now)) agree
  where
    net : Net
    net = net_of asked

    t : List Bool
    t = run net (every asked) (run net (known_cells asked now) (empty asked))

    same_table : greedy asked now ≡ t
    same_table = greedy_runs asked now

    now_ascends : Ascend net (known_cells asked now)
    now_ascends = known_ascend asked ok now (ascending_facts now now_up)

    next_ascends : Ascend net (known_cells asked next)
    next_ascends = known_ascend asked ok next (ascending_facts next next_up)

    -- the greedy placement has what its table has
    has_table : (i m : ℕ) → i < items net → m < members net → cells_of t i m ≡ paired asked (greedy_pairs asked now) i m
    has_table i m li lm = ap (λ f. cells_of f i m) (sym same_table) ∙ pairs_agree asked ok (cells_of (greedy asked now)) i m li lm

    came : (i m : ℕ) → IsIn i m (known_cells asked next) → cells_of t i m ≡ false → IsIn i m (known_cells asked now)
    came i m here absent =
        let lim = in_bounds net (known_cells asked next) i m next_ascends here in
        ⊎_elim (λ (e : paired asked now i m ≡ true). paired_in asked ok now i m lim.0 lim.1 e)
        (λ (e : paired asked (greedy_pairs asked now) i m ≡ true). absurd (true≢false (sym (has_table i m lim.0 lim.1 ∙ e) ∙ absent)))
        (moves.came (name_at (item_names asked) i) (name_at (member_names asked) m) (in_paired asked ok next i m lim.0 lim.1 here))

    stays : (i m : ℕ) → IsIn i m (known_cells asked now) → cells_of t i m ≡ true → IsIn i m (known_cells asked next)
    stays i m here wanted =
        let lim = in_bounds net (known_cells asked now) i m now_ascends here in
        paired_in asked ok next i m lim.0 lim.1 (moves.stays (name_at (item_names asked) i) (name_at (member_names asked) m)
        (in_paired asked ok now i m lim.0 lim.1 here) (sym (has_table i m lim.0 lim.1) ∙ wanted))

    both : (i m : ℕ) → i < items net → m < members net → (cells_of t i m ≡ true → cells_of (run net (every asked) (run net (known_cells asked next) (empty asked))) i m ≡ true)
        × (cells_of (run net (every asked) (run net (known_cells asked next) (empty asked))) i m ≡ true → cells_of t i m ≡ true)
    both = two_passes net (net_ok asked ok) (empty asked) (length-replicate (64 * items net) false) (no_cells (64 * items net)) (known_cells asked now) (known_cells asked next) (every asked)
        now_ascends next_ascends (every_ascends asked ok) (λ i m li lm. in_all (members net) (items net) i m li lm)
        (subst (λ f. Keeps net (cells_of f)) same_table ((good_greedy asked now (net_ok asked ok)).keeps)) came stays

    agree : (i m : ℕ) → i < items net → m < members net → cells_of (greedy asked next) i m ≡ cells_of (greedy asked now) i m
    agree i m li lm =
        ap (λ f. cells_of f i m) (greedy_runs asked next)
        ∙ same_bools _ _ ((both i m li lm).1) ((both i m li lm).0)
        ∙ ap (λ f. cells_of f i m) (sym same_table)
