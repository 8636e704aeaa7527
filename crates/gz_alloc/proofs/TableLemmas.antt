-- Tables that grow pair by pair.
use Rattle.std.proofs.Common.{◌≡◌, ℕ, ◌+◌, ◌*◌, ◌<◌, ◌≤◌, ◌≢◌, ◌⊎◌, Bool, true, false, not, ◌&&◌, ◌||◌, ◌==◌, List, [], ◌∷◌, length, replicate, get_or, nat_lt, refl, ap, ◌∙◌, sym, subst, arith, inl, inr, ⊎_elim, cond, length-set, get_or-set_same, get_or-set_other}
use Prim.Native.Nat.{zero, suc}
use Rattle.std.proofs.lemmas.List.{length-replicate, length-map}
use Rattle.std.proofs.lemmas.Bool.{cases_eq, cases_Bool, and_parts, ltb-true, lt-ltb, eqb-true, eq-eqb}
use Rattle.gz_alloc.specs.Sums.{when}
use Rattle.gz_alloc.specs.Flow.{Net, IsNet, IsTable, Cells, Keeps, items, members, replicas, limit, zone, row, load, in_zone, zone_bound, total, Differs, cells_of, set_cell}
use Rattle.gz_alloc.specs.Names.{Asked, net_of, item_names, member_names, is_known, place_of, name_at, same, paired, is_problem, fits, add_where_fits, keep_pair, keep_pairs, fill_row, fill, greedy, mark_pair, mark_pairs, Agree}
use Rattle.gz_alloc.proofs.SumLemmas.{sum_to_zero, sum_to_eq, count_to_found}
use Rattle.gz_alloc.proofs.Counts.{row_other, row_at, load_other, load_at, in_zone_other, in_zone_at, differs_set}
use Rattle.gz_alloc.proofs.NameLemmas.{asked_facts, same_place}

pub record IsGood (net : Net) (flags : List Bool) : Type 0 where
  pub table : IsTable net flags
  pub keeps : Keeps net (cells_of flags)

-- a pair that fits is added
good_set : (net : Net) (flags : List Bool) → IsNet net → IsGood net flags → (i m : ℕ) → i < items net → m < members net → fits net (cells_of flags) i m ≡ true → IsGood net (set_cell flags i m true)
good_set net flags ok good i m li lm h = record {
  table = length-set flags (64 * i + m) true ∙ good.table;
  keeps = record {
    rows = λ j lj. ⊎_elim (λ (e : j ≡ i). subst (λ k. row net y k ≤ replicas net k) (sym e) (one_more (row net y i) (row net x i) (replicas net i) (row_at net x y i m false true d) in_row))
        (λ (ne : j ≢ i). same_le (row net y j) (row net x j) (replicas net j) (row_other net x y i m false true d j ne) (good.keeps.rows j lj)) (cases_eq j i);
    loads = λ n ln. ⊎_elim (λ (e : n ≡ m). subst (λ k. load net y k ≤ limit net k) (sym e) (one_more (load net y m) (load net x m) (limit net m) (load_at net x y i m false true d) in_load))
        (λ (ne : n ≢ m). same_le (load net y n) (load net x n) (limit net n) (load_other net x y i m false true d n ln ne) (good.keeps.loads n ln)) (cases_eq n m);
    zones = λ j n lj ln. ⊎_elim (λ (e : j ≡ i). subst (λ k. in_zone net y k (zone net n) ≤ zone_bound (replicas net k)) (sym e) (zoned n ln (cases_Bool (zone net m == zone net n))))
        (λ (ne : j ≢ i). same_le (in_zone net y j (zone net n)) (in_zone net x j (zone net n)) (zone_bound (replicas net j)) (in_zone_other net x y i m false true d j (zone net n) ne) (good.keeps.zones j n lj ln)) (cases_eq j i);
  };
}
  where
    x : Cells
    x = cells_of flags

    y : Cells
    y = cells_of (set_cell flags i m true)

    is_less : Bool
    is_less = nat_lt (load net x m) (limit net m) && nat_lt (in_zone net x i (zone net m)) (zone_bound (replicas net i))

    not_false : (b : Bool) → not b ≡ true → b ≡ false
    not_false true h = sym h
    not_false false h = refl

    missing : x i m ≡ false
    missing = not_false (x i m) ((and_parts (not (x i m)) (nat_lt (row net x i) (replicas net i) && is_less) h).0)

    later : (nat_lt (row net x i) (replicas net i) && is_less) ≡ true
    later = (and_parts (not (x i m)) (nat_lt (row net x i) (replicas net i) && is_less) h).1

    in_row : row net x i < replicas net i
    in_row = ltb-true (row net x i) (replicas net i) ((and_parts (nat_lt (row net x i) (replicas net i)) is_less later).0)

    last : is_less ≡ true
    last = (and_parts (nat_lt (row net x i) (replicas net i)) is_less later).1

    in_load : load net x m < limit net m
    in_load = ltb-true (load net x m) (limit net m) ((and_parts (nat_lt (load net x m) (limit net m)) (nat_lt (in_zone net x i (zone net m)) (zone_bound (replicas net i))) last).0)

    room : in_zone net x i (zone net m) < zone_bound (replicas net i)
    room = ltb-true (in_zone net x i (zone net m)) (zone_bound (replicas net i)) ((and_parts (nat_lt (load net x m) (limit net m)) (nat_lt (in_zone net x i (zone net m)) (zone_bound (replicas net i))) last).1)

    d : Differs net x y i m false true
    d = differs_set net flags ok good.table i m false true li lm missing

    one_more : (a b c : ℕ) → a + 0 ≡ b + 1 → b < c → a ≤ c
    one_more a b c p q = omega arith

    same_le : (a b c : ℕ) → a ≡ b → b ≤ c → a ≤ c
    same_le a b c p q = omega arith

    with_room : (a b c v : ℕ) → a + 0 ≡ b + v → v ≡ 1 → b < c → a ≤ c
    with_room a b c v p q r = omega arith

    without : (a b c v : ℕ) → a + 0 ≡ b + v → v ≡ 0 → b ≤ c → a ≤ c
    without a b c v p q r = omega arith

    zoned : (n : ℕ) → n < members net → ((zone net m == zone net n) ≡ true) ⊎ ((zone net m == zone net n) ≡ false) → in_zone net y i (zone net n) ≤ zone_bound (replicas net i)
    zoned n ln (inl e) = with_room (in_zone net y i (zone net n)) (in_zone net x i (zone net n)) (zone_bound (replicas net i)) (when (zone net m == zone net n) 1) (in_zone_at net x y i m false true d (zone net n)) (ap (λ v. when v 1) e)
        (subst (λ z. in_zone net x i z < zone_bound (replicas net i)) (eqb-true (zone net m) (zone net n) e) room)
    zoned n ln (inr e) = without (in_zone net y i (zone net n)) (in_zone net x i (zone net n)) (zone_bound (replicas net i)) (when (zone net m == zone net n) 1) (in_zone_at net x y i m false true d (zone net n)) (ap (λ v. when v 1) e) (good.keeps.zones i n li ln)

pub good_add : (net : Net) (flags : List Bool) → IsNet net → IsGood net flags → (i m : ℕ) → i < items net → m < members net → IsGood net (add_where_fits net flags i m)
good_add net flags ok good i m li lm = at (fits net (cells_of flags) i m) refl
  where
    at : (b : Bool) → fits net (cells_of flags) i m ≡ b → IsGood net (add_where_fits net flags i m)
    at true h = subst (λ f. IsGood net f) (sym (ap (λ b. cond b (set_cell flags i m true) flags) h)) (good_set net flags ok good i m li lm h)
    at false h = subst (λ f. IsGood net f) (sym (ap (λ b. cond b (set_cell flags i m true) flags) h)) good

pub good_keep_pair : (asked : Asked) (flags : List Bool) → IsNet (net_of asked) → IsGood (net_of asked) flags → (p : List ℕ × List ℕ) → IsGood (net_of asked) (keep_pair asked flags p)
good_keep_pair asked flags ok good p = at (is_known asked p) refl
  where
    added : List Bool
    added = add_where_fits (net_of asked) flags (place_of p.0 (item_names asked)) (place_of p.1 (member_names asked))

    at : (b : Bool) → is_known asked p ≡ b → IsGood (net_of asked) (keep_pair asked flags p)
    at true h =
        let both = and_parts (nat_lt (place_of p.0 (item_names asked)) (items (net_of asked))) (nat_lt (place_of p.1 (member_names asked)) (members (net_of asked))) h in
        subst (λ f. IsGood (net_of asked) f) (sym (ap (λ b. cond b added flags) h))
        (good_add (net_of asked) flags ok good (place_of p.0 (item_names asked)) (place_of p.1 (member_names asked)) (ltb-true (place_of p.0 (item_names asked)) (items (net_of asked)) both.0) (ltb-true (place_of p.1 (member_names asked)) (members (net_of asked)) both.1))
    at false h = subst (λ f. IsGood (net_of asked) f) (sym (ap (λ b. cond b added flags) h)) good

pub good_keep_pairs : (asked : Asked) (ps : List (List ℕ × List ℕ)) (flags : List Bool) → IsNet (net_of asked) → IsGood (net_of asked) flags → IsGood (net_of asked) (keep_pairs asked ps flags)
good_keep_pairs asked [] flags ok good = good
good_keep_pairs asked (p ∷ ps) flags ok good = good_keep_pairs asked ps (keep_pair asked flags p) ok (good_keep_pair asked flags ok good p)

pub good_fill_row : (net : Net) (i n : ℕ) (flags : List Bool) → IsNet net → i < items net → n ≤ members net → IsGood net flags → IsGood net (fill_row net i n flags)
good_fill_row net i zero flags ok li ln good = good
good_fill_row net i (suc n) flags ok li ln good = good_add net (fill_row net i n flags) ok (good_fill_row net i n flags ok li (omega arith) good) i n li (omega arith)

pub good_fill : (net : Net) (n : ℕ) (flags : List Bool) → IsNet net → n ≤ items net → IsGood net flags → IsGood net (fill net n flags)
good_fill net zero flags ok ln good = good
good_fill net (suc n) flags ok ln good = good_fill_row net n (members net) (fill net n flags) ok (omega arith) (omega arith) (good_fill net n flags ok (omega arith) good)

-- the empty table
pub no_cells : (n i m : ℕ) → cells_of (replicate n false) i m ≡ false
no_cells n i m = any_place n (64 * i + m)
  where
    any_place : (n j : ℕ) → get_or (replicate n false) j false ≡ false
    any_place zero j = refl
    any_place (suc n) zero = refl
    any_place (suc n) (suc j) = any_place n j

pub good_none : (net : Net) → IsGood net (replicate (64 * items net) false)
good_none net = record {
  table = length-replicate (64 * items net) false;
  keeps = record {
    rows = λ i li. zero_le (row net x i) (replicas net i) (sum_to_zero (members net) _ (λ m lm. ap (λ b. when b 1) (no_cells (64 * items net) i m)));
    loads = λ m lm. zero_le (load net x m) (limit net m) (sum_to_zero (items net) _ (λ i li. ap (λ b. when b 1) (no_cells (64 * items net) i m)));
    zones = λ i m li lm. zero_le (in_zone net x i (zone net m)) (zone_bound (replicas net i)) (sum_to_zero (members net) _ (λ n ln. ap (λ b. when (b && (zone net n == zone net m)) 1) (no_cells (64 * items net) i n)));
  };
}
  where
    x : Cells
    x = cells_of (replicate (64 * items net) false)

    zero_le : (a b : ℕ) → a ≡ 0 → a ≤ b
    zero_le a b e = omega arith

-- the greedy table keeps the bounds
pub good_greedy : (asked : Asked) (now : List (List ℕ × List ℕ)) → IsNet (net_of asked) → IsGood (net_of asked) (greedy asked now)
good_greedy asked now ok = good_fill (net_of asked) (items (net_of asked)) _ ok (omega arith) (good_keep_pairs asked now (replicate (64 * items (net_of asked)) false) ok (good_none (net_of asked)))

-- what the pair says of an item and a member
abbrev pub hit : Asked → List ℕ × List ℕ → ℕ → ℕ → Bool
hit asked p i m = same p.0 (name_at (item_names asked) i) && same p.1 (name_at (member_names asked) m)

or_true : (b : Bool) → (b || true) ≡ true
or_true true = refl
or_true false = refl

or_false : (b : Bool) → (b || false) ≡ b
or_false true = refl
or_false false = refl

-- a hit is at the pair's places
pub hit_at : (asked : Asked) → is_problem asked ≡ true → (p : List ℕ × List ℕ) (i m : ℕ) → i < items (net_of asked) → m < members (net_of asked) →
    hit asked p i m ≡ ((place_of p.0 (item_names asked) == i) && (place_of p.1 (member_names asked) == m))
hit_at asked problem p i m li lm =
    ap (λ b. b && same p.1 (name_at (member_names asked) m)) (same_place (item_names asked) ((asked_facts asked problem).items_rise) p.0 i (below i (items (net_of asked)) (length (item_names asked)) (length-map asked.items (λ i. i.replicas) ∙ sym (length-map asked.items (λ i. i.name))) li))
    ∙ ap (λ b. (place_of p.0 (item_names asked) == i) && b) (same_place (member_names asked) ((asked_facts asked problem).members_rise) p.1 m (below m (members (net_of asked)) (length (member_names asked)) (length-map asked.members (λ m. m.limit) ∙ sym (length-map asked.members (λ m. m.name))) lm))
  where
    below : (i a b : ℕ) → a ≡ b → i < a → i < b
    below i a b p q = omega arith

-- a pair in a table
pub mark_cell : (asked : Asked) → is_problem asked ≡ true → (flags : List Bool) → IsNet (net_of asked) → IsTable (net_of asked) flags → (p : List ℕ × List ℕ) (i m : ℕ) → i < items (net_of asked) → m < members (net_of asked) →
    cells_of (mark_pair asked flags p) i m ≡ (cells_of flags i m || hit asked p i m)
mark_cell asked problem flags ok table p i m li lm = at (is_known asked p) refl
  where
    i0 : ℕ
    i0 = place_of p.0 (item_names asked)

    m0 : ℕ
    m0 = place_of p.1 (member_names asked)

    marked : List Bool
    marked = set_cell flags i0 m0 true

    hit_is : hit asked p i m ≡ ((i0 == i) && (m0 == m))
    hit_is = hit_at asked problem p i m li lm

    both : (b c : Bool) → b ≡ true → c ≡ true → (b && c) ≡ true
    both true c p q = q
    both false c p q = p

    neither : (b c : Bool) → (b ≡ true → c ≡ true → ⊥) → (b && c) ≡ false
    neither true true h = absurd (h refl refl)
    neither true false h = refl
    neither false c h = refl

    clash : (b : Bool) → b ≡ true → b ≡ false → ⊥
    clash b p q = let bad : true ≡ false = sym p ∙ q in cc

    small : (j a : ℕ) → j ≡ a → (n : ℕ) → a < n → j < n
    small j a e n lt = omega arith

    within : (a n l b k : ℕ) → a < n → l ≡ 64 * n → b < k → k ≤ 64 → 64 * a + b < l
    within a n l b k p q r s = omega arith

    apart : (a b c e k : ℕ) → (a ≡ c → b ≡ e → ⊥) → b < k → e < k → k ≤ 64 → 64 * c + e ≢ 64 * a + b
    apart a b c e k h p q r eq = h (the_row a b c e k p q r eq) (the_column a b c e k p q r eq)
      where
        the_row : (a b c e k : ℕ) → b < k → e < k → k ≤ 64 → 64 * c + e ≡ 64 * a + b → a ≡ c
        the_row a b c e k p q r eq = omega arith

        the_column : (a b c e k : ℕ) → b < k → e < k → k ≤ 64 → 64 * c + e ≡ 64 * a + b → b ≡ e
        the_column a b c e k p q r eq = omega arith

    miss : i0 < items (net_of asked) → m0 < members (net_of asked) → (i0 ≡ i → m0 ≡ m → ⊥) → cells_of marked i m ≡ (cells_of flags i m || hit asked p i m)
    miss l0 n0 h = get_or-set_other flags (64 * i0 + m0) (64 * i + m) true false (apart i0 m0 i m (members (net_of asked)) h n0 lm ok.few_members)
        ∙ sym (or_false (cells_of flags i m)) ∙ sym (ap (λ b. cells_of flags i m || b) (hit_is ∙ neither (i0 == i) (m0 == m) (λ a b. h (eqb-true i0 i a) (eqb-true m0 m b))))

    known_at : i0 < items (net_of asked) → m0 < members (net_of asked) → (i0 ≡ i) ⊎ (i0 ≢ i) → (m0 ≡ m) ⊎ (m0 ≢ m) → cells_of marked i m ≡ (cells_of flags i m || hit asked p i m)
    known_at l0 n0 (inl e) (inl f) =
        subst (λ k. get_or marked (64 * k + m) false ≡ true) e (subst (λ k. get_or marked (64 * i0 + k) false ≡ true) f (get_or-set_same flags (64 * i0 + m0) true false (within i0 (items (net_of asked)) (length flags) m0 (members (net_of asked)) l0 table n0 ok.few_members)))
        ∙ sym (or_true (cells_of flags i m)) ∙ sym (ap (λ b. cells_of flags i m || b) (hit_is ∙ both (i0 == i) (m0 == m) (eq-eqb i0 i e) (eq-eqb m0 m f)))
    known_at l0 n0 (inr ne) f = miss l0 n0 (λ a b. ne a)
    known_at l0 n0 (inl e) (inr ne) = miss l0 n0 (λ a b. ne b)

    at : (b : Bool) → is_known asked p ≡ b → cells_of (mark_pair asked flags p) i m ≡ (cells_of flags i m || hit asked p i m)
    at true h =
        let two = and_parts (nat_lt i0 (items (net_of asked))) (nat_lt m0 (members (net_of asked))) h in
        ap (λ b. cells_of (cond b marked flags) i m) h ∙ known_at (ltb-true i0 (items (net_of asked)) two.0) (ltb-true m0 (members (net_of asked)) two.1) (cases_eq i0 i) (cases_eq m0 m)
    at false h = ap (λ b. cells_of (cond b marked flags) i m) h ∙ sym (or_false (cells_of flags i m))
        ∙ sym (ap (λ b. cells_of flags i m || b) (hit_is ∙ neither (i0 == i) (m0 == m) (λ a b. clash (is_known asked p)
        (both (nat_lt i0 (items (net_of asked))) (nat_lt m0 (members (net_of asked))) (lt-ltb i0 (items (net_of asked)) (small i0 i (eqb-true i0 i a) (items (net_of asked)) li)) (lt-ltb m0 (members (net_of asked)) (small m0 m (eqb-true m0 m b) (members (net_of asked)) lm))) h)))

pub mark_table : (asked : Asked) (flags : List Bool) (p : List ℕ × List ℕ) → length (mark_pair asked flags p) ≡ length flags
mark_table asked flags p = at (is_known asked p) refl
  where
    marked : List Bool
    marked = set_cell flags (place_of p.0 (item_names asked)) (place_of p.1 (member_names asked)) true

    at : (b : Bool) → is_known asked p ≡ b → length (mark_pair asked flags p) ≡ length flags
    at true h = ap (λ b. length (cond b marked flags)) h ∙ length-set flags (64 * place_of p.0 (item_names asked) + place_of p.1 (member_names asked)) true
    at false h = ap (λ b. length (cond b marked flags)) h

-- the pairs in a table
pub mark_cells : (asked : Asked) → is_problem asked ≡ true → (ps : List (List ℕ × List ℕ)) (flags : List Bool) → IsNet (net_of asked) → IsTable (net_of asked) flags → (i m : ℕ) → i < items (net_of asked) → m < members (net_of asked) →
    cells_of (mark_pairs asked ps flags) i m ≡ (cells_of flags i m || paired asked ps i m)
mark_cells asked problem [] flags ok table i m li lm = sym (or_false (cells_of flags i m))
mark_cells asked problem (p ∷ ps) flags ok table i m li lm =
    mark_cells asked problem ps (mark_pair asked flags p) ok (mark_table asked flags p ∙ table) i m li lm
    ∙ ap (λ b. b || paired asked ps i m) (mark_cell asked problem flags ok table p i m li lm)
    ∙ or_assoc (cells_of flags i m) (hit asked p i m) (paired asked ps i m)
  where
    or_assoc : (a b c : Bool) → ((a || b) || c) ≡ (a || (b || c))
    or_assoc true b c = refl
    or_assoc false b c = refl

pub marks_agree : (asked : Asked) → is_problem asked ≡ true → IsNet (net_of asked) → (ps : List (List ℕ × List ℕ)) → Agree (net_of asked) (cells_of (mark_pairs asked ps (replicate (64 * items (net_of asked)) false))) (paired asked ps)
marks_agree asked problem ok ps i m li lm =
    mark_cells asked problem ps (replicate (64 * items (net_of asked)) false) ok (length-replicate (64 * items (net_of asked)) false) i m li lm
    ∙ ap (λ b. b || paired asked ps i m) (no_cells (64 * items (net_of asked)) i m)

-- tables that agree keep the same bounds and have as many pairs
pub agree_keeps : (net : Net) (x y : Cells) → Agree net x y → Keeps net x → Keeps net y
agree_keeps net x y same keeps = record {
  rows = λ i li. subst (λ n. n ≤ replicas net i) (sum_to_eq (members net) (λ m. when (x i m) 1) (λ m. when (y i m) 1) (λ m lm. ap (λ b. when b 1) (same i m li lm))) (keeps.rows i li);
  loads = λ m lm. subst (λ n. n ≤ limit net m) (sum_to_eq (items net) (λ i. when (x i m) 1) (λ i. when (y i m) 1) (λ i li. ap (λ b. when b 1) (same i m li lm))) (keeps.loads m lm);
  zones = λ i m li lm. subst (λ n. n ≤ zone_bound (replicas net i)) (sum_to_eq (members net) (λ n. when (x i n && (zone net n == zone net m)) 1) (λ n. when (y i n && (zone net n == zone net m)) 1) (λ n ln. ap (λ b. when (b && (zone net n == zone net m)) 1) (same i n li ln))) (keeps.zones i m li lm);
}

pub agree_total : (net : Net) (x y : Cells) → Agree net x y → total net x ≡ total net y
agree_total net x y same = sum_to_eq (items net) (λ i. row net x i) (λ i. row net y i) (λ i li. sum_to_eq (members net) (λ m. when (x i m) 1) (λ m. when (y i m) 1) (λ m lm. ap (λ b. when b 1) (same i m li lm)))

pub agree_back : (net : Net) (x y : Cells) → Agree net x y → Agree net y x
agree_back net x y same i m li lm = sym (same i m li lm)

-- a bound that holds in the zone of each member that has the item holds in each zone
pub zones_of_pairs : (net : Net) (x : Cells) (i bound : ℕ) → ((m : ℕ) → m < members net → x i m ≡ true → in_zone net x i (zone net m) ≤ bound) → (m : ℕ) → in_zone net x i (zone net m) ≤ bound
zones_of_pairs net x i bound kept m = at (count_to_found (members net) (λ n. x i n && (zone net n == zone net m)))
  where
    none : (a : ℕ) → a ≡ 0 → a ≤ bound
    none a e = omega arith

    at : (in_zone net x i (zone net m) ≡ 0) ⊎ ((n : ℕ) × ((n < members net) × ((x i n && (zone net n == zone net m)) ≡ true))) → in_zone net x i (zone net m) ≤ bound
    at (inl e) = none (in_zone net x i (zone net m)) e
    at (inr found) =
        let both = and_parts (x i found.0) (zone net found.0 == zone net m) found.1.1 in
        subst (λ z. in_zone net x i z ≤ bound) (eqb-true (zone net found.0) (zone net m) both.1) (kept found.0 found.1.0 both.0)
