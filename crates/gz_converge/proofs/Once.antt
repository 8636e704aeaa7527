-- The answer changes at most once.
use Rattle.std.proofs.Common.{◌≡◌, ℕ, ◌+◌, ◌*◌, ◌<◌, ◌≤◌, ◌≢◌, Bool, true, false, ◌&&◌, ◌||◌, List, [], ◌∷◌, refl, ap, ◌∙◌, sym, subst, arith, inr, ⊎_elim, true≢false, Ordering}
use Prim.Native.Nat.{zero, suc}
use Rattle.std.specs.List.{list_all}
use Rattle.std.specs.Ordering.{ordering_then, is_lt}
use Rattle.std.specs.declared.cmp.Ordering.TheVariants.{Less, Equal, Greater}
use Rattle.std.specs.Cmp.Lexicographic.{pointwise}
use Rattle.std.proofs.lemmas.List.{length-replicate}
use Rattle.std.proofs.lemmas.Bool.{and_parts, and_from, cases_eq}
use Rattle.gz_alloc.specs.Sums.{sum_to}
use Rattle.gz_alloc.specs.Flow.{Net, Cells, items, members, row, total, cells_of}
use Rattle.gz_alloc.specs.Names.{Asked, net_of, is_problem, is_known, item_names, member_names, place_of, name_at, same, has, paired, size, IsFeasible, IsFeasibleOf, greedy, greedy_pairs}
use Rattle.gz_alloc.specs.Ascending.{pair_order, ascending}
use Rattle.gz_alloc.proofs.SumLemmas.{sum_to_le}
use Rattle.gz_alloc.proofs.NameLemmas.{net_ok, place_same, same_equal, same_itself}
use Rattle.gz_alloc.proofs.TableLemmas.{no_cells, good_greedy}
use Rattle.gz_alloc.proofs.PickLemmas.{pairs_agree, pairs_known, pairs_feasible, size_of_pairs, item_below, member_below, same_bools}
use Rattle.gz_alloc.proofs.RiseLemmas.{IsAscending, ascending_facts, pairs_rise}
use Rattle.gz_keyspace.proofs.RowLemmas.{turned}
use Rattle.gz_converge.specs.Converged.{Pairs, IsGreatest}
use Rattle.gz_converge.specs.Steps.{same_pair}
use Rattle.gz_converge.proofs.Leaving.{or_first, or_cases}
use Rattle.gz_converge.proofs.Moves.{Moves}
use Rattle.gz_converge.proofs.Tables.{IsPart, run, Ascend, ran, Reached, reached, count_part, count_less}
use Rattle.gz_converge.proofs.Steady.{Pair, order, empty, every, known_cells, greedy_runs, in_bounds, in_paired, paired_in, known_ascend, known_bounds, every_ascends, greedy_stays}

-- ---- lists of pairs

equal_pair : (x y : Pair) → x.0 ≡ y.0 → x.1 ≡ y.1 → x ≡ y
equal_pair x y e f = λ i. (e i, f i)

pub list_equal : (xs ys : Pairs) → pointwise same_pair xs ys ≡ true → xs ≡ ys
list_equal [] [] e = refl
list_equal [] (y ∷ ys) e = absurd (true≢false (sym e))
list_equal (x ∷ xs) [] e = absurd (true≢false (sym e))
list_equal (x ∷ xs) (y ∷ ys) e =
    let two = and_parts (same_pair x y) (pointwise same_pair xs ys) e in
    let one = and_parts (same x.0 y.0) (same x.1 y.1) two.0 in
    let head : x ≡ y = equal_pair x y (same_equal x.0 y.0 one.0) (same_equal x.1 y.1 one.1) in
    let tail : xs ≡ ys = list_equal xs ys two.1 in
    λ i. head i ∷ tail i

pub list_itself : (xs : Pairs) → pointwise same_pair xs xs ≡ true
list_itself [] = refl
list_itself (x ∷ xs) = and_from (same_pair x x) (pointwise same_pair xs xs) (and_from (same x.0 x.0) (same x.1 x.1) (same_itself x.0) (same_itself x.1)) (list_itself xs)

-- lists that can't differ are equal
not_apart : (xs ys : Pairs) → ((xs ≡ ys → ⊥) → ⊥) → xs ≡ ys
not_apart xs ys h = at (pointwise same_pair xs ys) refl
  where
    at : (b : Bool) → pointwise same_pair xs ys ≡ b → xs ≡ ys
    at true e = list_equal xs ys e
    at false e = absurd (h (λ same. true≢false (sym (subst (λ (zs : Pairs). pointwise same_pair xs zs ≡ true) same (list_itself xs)) ∙ e)))

-- ---- increasing lists that have the same pairs

no_two_ways : (p q : Pair) → pair_order p q ≡ Less → pair_order q p ≡ Less → ⊥
no_two_ways p q less more = at (order p.0 q.0) refl
  where
    at : (o : Ordering) → order p.0 q.0 ≡ o → ⊥
    at Less e = true≢false (sym (ap is_lt more) ∙ ap (λ o. is_lt (ordering_then o (order q.1 p.1))) (turned p.0 q.0 Less e))
    at Greater e = true≢false (sym (ap is_lt less) ∙ ap (λ o. is_lt (ordering_then o (order p.1 q.1))) e)
    at Equal e =
        let second : order p.1 q.1 ≡ Less = sym (ap (λ o. ordering_then o (order p.1 q.1)) e) ∙ less in
        let back : order q.1 p.1 ≡ Less = sym (ap (λ o. ordering_then o (order q.1 p.1)) (turned p.0 q.0 Equal e)) ∙ more in
        true≢false (sym (ap is_lt back) ∙ ap is_lt (turned p.1 q.1 Less second))

-- the first pair is below each that the others have
below_others : (p : Pair) (ps : Pairs) → IsAscending (p ∷ ps) → (a b : List ℕ) → has ps a b ≡ true → pair_order p (a, b) ≡ Less
below_others p [] up a b h = absurd (true≢false (sym h))
below_others p (q ∷ qs) up a b h = ⊎_elim here (λ (e : has qs a b ≡ true). below_others p qs (up.0.1, up.1.1) a b e) (or_cases (same q.0 a && same q.1 b) (has qs a b) h)
  where
    here : (same q.0 a && same q.1 b) ≡ true → pair_order p (a, b) ≡ Less
    here e =
        let two = and_parts (same q.0 a) (same q.1 b) e in
        subst (λ k. ordering_then (order p.0 k) (order p.1 b) ≡ Less) (same_equal q.0 a two.0)
        (subst (λ k. ordering_then (order p.0 q.0) (order p.1 k) ≡ Less) (same_equal q.1 b two.1) up.0.0)

has_first : (p : Pair) (ps : Pairs) → has (p ∷ ps) p.0 p.1 ≡ true
has_first p ps = or_first (same p.0 p.0 && same p.1 p.1) (has ps p.0 p.1) (and_from (same p.0 p.0) (same p.1 p.1) (same_itself p.0) (same_itself p.1))

pub same_pairs : (xs ys : Pairs) → IsAscending xs → IsAscending ys → ((a b : List ℕ) → has xs a b ≡ has ys a b) → xs ≡ ys
same_pairs [] [] xu yu h = refl
same_pairs [] (y ∷ ys) xu yu h = absurd (true≢false (sym (h y.0 y.1 ∙ has_first y ys)))
same_pairs (x ∷ xs) [] xu yu h = absurd (true≢false (sym (has_first x xs) ∙ h x.0 x.1))
same_pairs (x ∷ xs) (y ∷ ys) xu yu h =
    let tail : xs ≡ ys = same_pairs xs ys xu.1 yu.1 (λ a b. rest a b (same x.0 a && same x.1 b) refl) in
    λ i. head i ∷ tail i
  where
    equal : (p q : Pair) → (same p.0 q.0 && same p.1 q.1) ≡ true → p ≡ q
    equal p q e = let two = and_parts (same p.0 q.0) (same p.1 q.1) e in equal_pair p q (same_equal p.0 q.0 two.0) (same_equal p.1 q.1 two.1)

    head : x ≡ y
    head = ⊎_elim
        (λ (e : (same y.0 x.0 && same y.1 x.1) ≡ true). sym (equal y x e))
        (λ (e : has ys x.0 x.1 ≡ true). ⊎_elim
        (λ (f : (same x.0 y.0 && same x.1 y.1) ≡ true). equal x y f)
        (λ (f : has xs y.0 y.1 ≡ true). absurd (no_two_ways x y (below_others x xs xu y.0 y.1 f) (below_others y ys yu x.0 x.1 e)))
        (or_cases (same x.0 y.0 && same x.1 y.1) (has xs y.0 y.1) (h y.0 y.1 ∙ has_first y ys)))
        (or_cases (same y.0 x.0 && same y.1 x.1) (has ys x.0 x.1) (sym (h x.0 x.1) ∙ has_first x xs))

    none : (p : Pair) (ps : Pairs) → IsAscending (p ∷ ps) → (b : Bool) → has ps p.0 p.1 ≡ b → has ps p.0 p.1 ≡ false
    none p ps up true e = let less = below_others p ps up p.0 p.1 e in absurd (no_two_ways p p less less)
    none p ps up false e = e

    rest : (a b : List ℕ) (c : Bool) → (same x.0 a && same x.1 b) ≡ c → has xs a b ≡ has ys a b
    rest a b true e =
        let two = and_parts (same x.0 a) (same x.1 b) e in
        let ea : x.0 ≡ a = same_equal x.0 a two.0 in
        let eb : x.1 ≡ b = same_equal x.1 b two.1 in
        let left : has xs a b ≡ false = subst (λ k. has xs k b ≡ false) ea (subst (λ k. has xs x.0 k ≡ false) eb (none x xs xu (has xs x.0 x.1) refl)) in
        let ys_none : has ys y.0 y.1 ≡ false = none y ys yu (has ys y.0 y.1) refl in
        let right : has ys a b ≡ false = subst (λ k. has ys k b ≡ false) (sym (ap (λ (p : Pair). p.0) head) ∙ ea) (subst (λ k. has ys y.0 k ≡ false) (sym (ap (λ (p : Pair). p.1) head) ∙ eb) ys_none) in
        left ∙ sym right
    rest a b false e =
        ap (λ c. c || has xs a b) (sym e) ∙ h a b
        ∙ ap (λ c. c || has ys a b) (sym (ap (λ (p : Pair). same p.0 a && same p.1 b) head) ∙ e)

-- ---- known pairs

known_has : (asked : Asked) (ps : Pairs) (a b : List ℕ) → list_all (is_known asked) ps ≡ true → has ps a b ≡ true → is_known asked (a, b) ≡ true
known_has asked [] a b all h = absurd (true≢false (sym h))
known_has asked (p ∷ ps) a b all h =
    let two = and_parts (is_known asked p) (list_all (is_known asked) ps) all in
    ⊎_elim (λ (e : (same p.0 a && same p.1 b) ≡ true). let one = and_parts (same p.0 a) (same p.1 b) e in
    subst (λ q. is_known asked q ≡ true) (equal_pair p (a, b) (same_equal p.0 a one.0) (same_equal p.1 b one.1)) two.0)
    (λ (e : has ps a b ≡ true). known_has asked ps a b two.1 e) (or_cases (same p.0 a && same p.1 b) (has ps a b) h)

has_more : (asked : Asked) (ps qs : Pairs) → list_all (is_known asked) ps ≡ true → ((i m : ℕ) → i < items (net_of asked) → m < members (net_of asked) → paired asked ps i m ≡ paired asked qs i m)
    → (a b : List ℕ) → has ps a b ≡ true → has qs a b ≡ true
has_more asked ps qs all agree a b h =
    let lim = known_bounds asked (a, b) (known_has asked ps a b all h) in
    let ea : name_at (item_names asked) (place_of a (item_names asked)) ≡ a = same_equal (name_at (item_names asked) (place_of a (item_names asked))) a (place_same a (item_names asked) (item_below asked (place_of a (item_names asked)) lim.0)) in
    let eb : name_at (member_names asked) (place_of b (member_names asked)) ≡ b = same_equal (name_at (member_names asked) (place_of b (member_names asked))) b (place_same b (member_names asked) (member_below asked (place_of b (member_names asked)) lim.1)) in
    let here : has ps (name_at (item_names asked) (place_of a (item_names asked))) (name_at (member_names asked) (place_of b (member_names asked))) ≡ true =
    subst (λ k. has ps k (name_at (member_names asked) (place_of b (member_names asked))) ≡ true) (sym ea) (subst (λ k. has ps a k ≡ true) (sym eb) h) in
    subst (λ k. has qs a k ≡ true) eb (subst (λ k. has qs k (name_at (member_names asked) (place_of b (member_names asked))) ≡ true) ea
    (sym (agree (place_of a (item_names asked)) (place_of b (member_names asked)) lim.0 lim.1) ∙ here))

-- ---- a full part is the whole

sum_less : (n : ℕ) (f g : ℕ → ℕ) (j : ℕ) → ((k : ℕ) → k < n → f k ≤ g k) → j < n → f j + 1 ≤ g j → sum_to n f + 1 ≤ sum_to n g
sum_less zero f g j h lj less = absurd (omega (arith, lj))
sum_less (suc n) f g j h lj less = ⊎_elim
    (λ (e : j ≡ n). let front : sum_to n f ≤ sum_to n g = sum_to_le n f g (λ k lk. h k (omega (arith, lk))) in let last : f n + 1 ≤ g n = subst (λ k. f k + 1 ≤ g k) e less in omega (arith, front, last))
    (λ (ne : j ≢ n). let front : sum_to n f + 1 ≤ sum_to n g = sum_less n f g j (λ k lk. h k (omega (arith, lk))) (omega (arith, lj, ne)) less in let last : f n ≤ g n = h n (omega arith) in omega (arith, front, last))
    (cases_eq j n)

full_part : (net : Net) (x y : Cells) → IsPart net x y → total net y ≤ total net x → (i m : ℕ) → i < items net → m < members net → y i m ≡ true → x i m ≡ true
full_part net x y part full i m li lm wanted = at (x i m) refl
  where
    at : (b : Bool) → x i m ≡ b → x i m ≡ true
    at true e = e
    at false e =
        let more : total net x + 1 ≤ total net y = sum_less (items net) (λ j. row net x j) (λ j. row net y j) i (λ j lj. count_part (members net) (x j) (y j) (λ n ln. part j n lj ln)) li
        (count_less (members net) (x i) (y i) m (λ n ln. part i n li ln) lm e wanted) in
        absurd (omega (arith, more, full))

-- ---- a greatest placement is its own greedy one

pub own_greedy : (asked : Asked) → is_problem asked ≡ true → (now : Pairs) → ascending now ≡ true → IsFeasible asked now → ((others : Pairs) → IsFeasible asked others → size asked others ≤ size asked now) → greedy_pairs asked now ≡ now
own_greedy asked ok now up feasible most = same_pairs (greedy_pairs asked now) now (pairs_rise asked ok (cells_of (greedy asked now))) (ascending_facts now up)
    (λ a b. same_bools (has (greedy_pairs asked now) a b) (has now a b)
    (has_more asked (greedy_pairs asked now) now (pairs_known asked ok (cells_of (greedy asked now))) (λ i m li lm. sym (agree i m li lm)) a b)
    (has_more asked now (greedy_pairs asked now) feasible.known agree a b))
  where
    net : Net
    net = net_of asked

    g : Cells
    g = cells_of (greedy asked now)

    s : List Bool
    s = run net (known_cells asked now) (empty asked)

    ascends : Ascend net (known_cells asked now)
    ascends = known_ascend asked ok now (ascending_facts now up)

    first : Reached net (paired asked now) (empty asked) s (known_cells asked now)
    first = reached net (net_ok asked ok) (paired asked now) feasible.keeps (known_cells asked now) ascends (empty asked) (length-replicate (64 * items net) false)
        (λ i m li lm e. absurd (true≢false (sym e ∙ no_cells (64 * items net) i m)))
        (λ i m here absent z within had. let lim = in_bounds net (known_cells asked now) i m ascends here in absurd (true≢false (sym (in_paired asked ok now i m lim.0 lim.1 here) ∙ absent)))

    part : IsPart net (paired asked now) g
    part i m li lm wanted = subst (λ f. cells_of f i m ≡ true) (sym (greedy_runs asked now))
        ((ran net (net_ok asked ok) (every asked) (every_ascends asked ok) s first.table).grows i m li lm (first.has i m li lm wanted (inr (paired_in asked ok now i m li lm wanted))))

    full : total net g ≤ total net (paired asked now)
    full = subst (λ k. k ≤ size asked now) (size_of_pairs asked ok g) (most (greedy_pairs asked now) ((pairs_feasible asked ok g ((good_greedy asked now (net_ok asked ok)).keeps)).0))

    agree : (i m : ℕ) → i < items net → m < members net → paired asked now i m ≡ paired asked (greedy_pairs asked now) i m
    agree i m li lm = same_bools (paired asked now i m) (g i m) (part i m li lm) (full_part net (paired asked now) g part full i m li lm) ∙ pairs_agree asked ok g i m li lm

-- ---- one converge

both_le : (a b : ℕ) → a ≤ b → b ≤ a → a ≡ b
both_le a b p q = omega arith

-- of one problem all greatest placements have one size
same_size : (asked : Asked) (now goal pairs now2 goal2 pairs2 : Pairs) → IsGreatest asked now goal pairs → IsGreatest asked now2 goal2 pairs2 → size asked pairs ≡ size asked pairs2
same_size asked now goal pairs now2 goal2 pairs2 a b = both_le (size asked pairs) (size asked pairs2) (b.most pairs a.feasible) (a.most pairs2 b.feasible)

now_is_greedy : (asked : Asked) → is_problem asked ≡ true → (now goal pairs : Pairs) → ascending now ≡ true → IsGreatest asked now goal pairs → IsFeasibleOf asked now (size asked pairs) → greedy_pairs asked now ≡ now
now_is_greedy asked ok now goal pairs up great here = own_greedy asked ok now up here.0 (λ others feasible. subst (λ n. size asked others ≤ n) (sym here.1) (great.most others feasible))

-- the greedy placement is the answer where it has the size
greedy_chosen : (asked : Asked) → is_problem asked ≡ true → (now goal pairs : Pairs) → ascending now ≡ true → IsGreatest asked now goal pairs → size asked (greedy_pairs asked now) ≡ size asked pairs → pairs ≡ greedy_pairs asked now
greedy_chosen asked ok now goal pairs up great sized = not_apart pairs (greedy_pairs asked now) (λ apart.
    let never : IsFeasibleOf asked now (size asked pairs) → ⊥ = λ here. apart (great.choice.stays here ∙ sym (now_is_greedy asked ok now goal pairs up great here)) in
    apart (great.choice.greedy never sized))

-- else it is the goal
goal_chosen : (asked : Asked) → is_problem asked ≡ true → (now goal pairs : Pairs) → ascending now ≡ true → IsGreatest asked now goal pairs → IsFeasibleOf asked goal (size asked pairs) → (size asked (greedy_pairs asked now) ≡ size asked pairs → ⊥) → pairs ≡ goal
goal_chosen asked ok now goal pairs up great aim other = great.choice.aims
    (λ here. other (ap (size asked) (now_is_greedy asked ok now goal pairs up great here) ∙ here.1)) other aim

-- where the answer is the greedy one it stays
pub settled_next : (asked : Asked) → is_problem asked ≡ true → (now goal answer next again : Pairs) → ascending now ≡ true → ascending next ≡ true
    → IsGreatest asked now goal answer → IsGreatest asked next answer again → Moves now answer next → answer ≡ greedy_pairs asked now
    → (again ≡ greedy_pairs asked next) × (again ≡ answer)
settled_next asked ok now goal answer next again now_up next_up first second moves settled =
    let moved : Moves now (greedy_pairs asked now) next = subst (λ (p : Pairs). Moves now p next) settled moves in
    let stays : greedy_pairs asked next ≡ answer = greedy_stays asked ok now next now_up next_up moved ∙ sym settled in
    let here : again ≡ greedy_pairs asked next = greedy_chosen asked ok next answer again next_up second (ap (size asked) stays ∙ same_size asked now goal answer next answer again first second) in
    (here, here ∙ stays)

-- where the answer changes it is the greedy one
pub changed_settles : (asked : Asked) → is_problem asked ≡ true → (now goal answer next again : Pairs) → ascending next ≡ true
    → IsGreatest asked now goal answer → IsGreatest asked next answer again → (again ≡ answer → ⊥) → again ≡ greedy_pairs asked next
changed_settles asked ok now goal answer next again next_up first second changed = ⊎_elim
    (λ (sized : size asked (greedy_pairs asked next) ≡ size asked again). greedy_chosen asked ok next answer again next_up second sized)
    (λ (other : size asked (greedy_pairs asked next) ≢ size asked again).
    absurd (changed (goal_chosen asked ok next answer again next_up second (first.feasible, same_size asked now goal answer next answer again first second) other)))
    (cases_eq (size asked (greedy_pairs asked next)) (size asked again))
