-- When nothing more can be found, the marks are a cut whose capacity is the number of pairs.
use Rattle.std.proofs.Common.{◌≡◌, ℕ, ◌+◌, ◌<◌, ◌≤◌, ◌≢◌, ◌⊎◌, Bool, true, false, not, ◌&&◌, ◌==◌, min, refl, ◌∙◌, sym, subst, arith, nat_lt, inl, inr, ⊎_elim}
use Rattle.std.proofs.lemmas.Bool.{eqb-true, eq-eqb, ltb-true, ltb-false, lt-ltb, le-ltb, cases_Bool, and_parts, cases_lt, cases_eq}
use Prim.Native.Nat.{zero, suc}
use Rattle.gz_alloc.specs.Sums.{when, sum_to, count_to}
use Rattle.gz_alloc.specs.Flow.{Net, IsNet, Cells, items, members, replicas, limit, zone, row, load, in_zone, zone_bound, total, free, is_zone, is_uncut, zones_charge, capacity}
use Rattle.gz_alloc.specs.Search.{Marks, rank, target, is_open, IsWhole, IsPassed, is_chosen, is_zone_chosen}
use Rattle.gz_alloc.proofs.SumLemmas.{sum_to_le, sum_to_eq, sum_to_add, sum_to_zero, sum_to_swap, sum_to_part}
use Rattle.gz_alloc.proofs.Duality.{by_zones, when_false, when_most}

-- all fail the test, or one passes
pub none_or_one : (n : ℕ) (p : ℕ → Bool) → ((m : ℕ) → m < n → p m ≡ false) ⊎ ((m : ℕ) × (m < n) × (p m ≡ true))
none_or_one zero p = inl (λ m lt. absurd (omega arith))
none_or_one (suc n) p = step (none_or_one n p) (cases_Bool (p n))
  where
    last : (m : ℕ) → m < suc n → m ≢ n → m < n
    last m lt ne = omega arith

    more : ((m : ℕ) → m < n → p m ≡ false) → p n ≡ false → (m : ℕ) → m < suc n → p m ≡ false
    more all e m lt = ⊎_elim (λ (here : m ≡ n). subst (λ y. p y ≡ false) (sym here) e) (λ (ne : m ≢ n). all m (last m lt ne)) (cases_eq m n)

    step : ((m : ℕ) → m < n → p m ≡ false) ⊎ ((m : ℕ) × (m < n) × (p m ≡ true)) → (p n ≡ true) ⊎ (p n ≡ false) → ((m : ℕ) → m < suc n → p m ≡ false) ⊎ ((m : ℕ) × (m < suc n) × (p m ≡ true))
    step (inr one) e = inr (one.0, omega (arith, one.1), one.2)
    step (inl all) (inl e) = inr (n, omega arith, e)
    step (inl all) (inr e) = inl (more all e)

le_trans : (a b c : ℕ) → a ≤ b → b ≤ c → a ≤ c
le_trans a b c p q = omega arith

-- the pairs of an item without a target through one zone
zone_counts : (net : Net) → IsNet net → (x : Cells) (s : Marks) → IsWhole net x s → (i z : ℕ) → i < items net → z < members net → 64 ≤ target s i →
    when (is_zone net z && is_zone_chosen net s i z) (min (zone_bound (replicas net i)) (free net (is_chosen s) z))
    ≤ sum_to (members net) (λ m. when (is_zone net z && (zone net m == z)) (when (not (is_chosen s m)) (when (x i m) 1)))
zone_counts net ok x s whole i z li lz closed = at (is_zone net z) refl
  where
    value : ℕ
    value = min (zone_bound (replicas net i)) (free net (is_chosen s) z)

    part : Bool → ℕ → ℕ
    part b m = when (b && (zone net m == z)) (when (not (is_chosen s m)) (when (x i m) 1))

    misses : ℕ → Bool
    misses m = is_open s m && ((zone net m == z) && not (x i m))

    min_left : (a b : ℕ) → min a b ≤ a
    min_left a b = omega arith

    min_right : (a b : ℕ) → min a b ≤ b
    min_right a b = omega arith

    full_part : (o e w : Bool) → (o && (e && not w)) ≡ false → when (not (not o) && e) 1 ≤ when (true && e) (when (not (not o)) (when w 1))
    full_part true true true h = omega arith
    full_part true true false h = let bad : true ≡ false = h in cc
    full_part true false w h = omega arith
    full_part false e w h = omega arith

    taken_part : (o e w : Bool) → (w ≡ true → e ≡ true → o ≡ true) → when (w && e) 1 ≤ when (true && e) (when (not (not o)) (when w 1))
    taken_part true true true h = omega arith
    taken_part false true true h = let bad : false ≡ true = h refl refl in cc
    taken_part o e false h = omega arith
    taken_part o false true h = omega arith

    open_true : (t : ℕ) → is_open s t ≡ true → rank s t < 64
    open_true t h = ltb-true (rank s t) 64 h

    all_placed : ((m : ℕ) → m < members net → misses m ≡ false) → value ≤ sum_to (members net) (part true)
    all_placed none = le_trans value (free net (is_chosen s) z) _ (min_right (zone_bound (replicas net i)) (free net (is_chosen s) z))
        (sum_to_le (members net) (λ m. when (not (is_chosen s m) && (zone net m == z)) 1) (part true) (λ m lm. full_part (is_open s m) (zone net m == z) (x i m) (none m lm)))

    not_both : (b : Bool) → b ≡ true → not b ≡ true → ⊥
    not_both true h p = let bad : false ≡ true = p in cc
    not_both false h p = let bad : false ≡ true = h in cc

    no : (a : ℕ) → 64 ≤ a → a < 64 → ⊥
    no a h p = omega arith

    at_zone : (t : ℕ) → zone net t ≡ z → (zone_bound (replicas net i) ≤ in_zone net x i (zone net t)) → ((m : ℕ) → m < members net → x i m ≡ true → zone net t ≡ zone net m → rank s m < 64) → value ≤ sum_to (members net) (part true)
    at_zone t e held taken = le_trans value (zone_bound (replicas net i)) _ (min_left (zone_bound (replicas net i)) (free net (is_chosen s) z))
        (le_trans (zone_bound (replicas net i)) (in_zone net x i z) _ (subst (λ y. zone_bound (replicas net i) ≤ in_zone net x i y) e held)
        (sum_to_le (members net) (λ m. when (x i m && (zone net m == z)) 1) (part true) (λ m lm. taken_part (is_open s m) (zone net m == z) (x i m) (λ p q. lt-ltb (rank s m) 64 (taken m lm p (e ∙ sym (eqb-true (zone net m) z q)))))))

    missed : (t : ℕ) → t < members net → misses t ≡ true → IsPassed net x s t i → value ≤ sum_to (members net) (part true)
    missed t lt h (inl e) = absurd (not_both (x i t) e ((and_parts (zone net t == z) (not (x i t)) ((and_parts (is_open s t) ((zone net t == z) && not (x i t)) h).1)).1))
    missed t lt h (inr (inl e)) = absurd (no (target s i) closed e)
    missed t lt h (inr (inr e)) = at_zone t (eqb-true (zone net t) z ((and_parts (zone net t == z) (not (x i t)) ((and_parts (is_open s t) ((zone net t == z) && not (x i t)) h).1)).0)) e.0 e.1

    one : ((m : ℕ) → m < members net → misses m ≡ false) ⊎ ((m : ℕ) × (m < members net) × (misses m ≡ true)) → value ≤ sum_to (members net) (part true)
    one (inl none) = all_placed none
    one (inr some) = missed some.0 some.1 some.2 (whole.passed some.0 i some.1 (open_true some.0 ((and_parts (is_open s some.0) ((zone net some.0 == z) && not (x i some.0)) some.2).0)) li)

    at : (b : Bool) → is_zone net z ≡ b → when (is_zone net z && is_zone_chosen net s i z) value ≤ sum_to (members net) (part (is_zone net z))
    at true h = subst (λ b. when (b && is_zone_chosen net s i z) value ≤ sum_to (members net) (part b)) (sym h) (le_trans _ value _ (when_most (is_zone_chosen net s i z) value) (one (none_or_one (members net) misses)))
    at false h = subst (λ b. when (b && is_zone_chosen net s i z) value ≤ sum_to (members net) (part b)) (sym h) (zero_le (sum_to (members net) (part false)))
      where
        zero_le : (a : ℕ) → 0 ≤ a
        zero_le a = omega arith

-- the pairs of an item with members that have a way
item_counts : (net : Net) → IsNet net → (x : Cells) (s : Marks) → IsWhole net x s → (i : ℕ) → i < items net →
    zones_charge net (is_chosen s) (is_zone_chosen net s) i + when (is_uncut net (is_chosen s) (is_zone_chosen net s) i) (replicas net i)
    ≤ sum_to (members net) (λ m. when (not (is_chosen s m)) (when (x i m) 1))
item_counts net ok x s whole i li = ⊎_elim aimed closed (cases_lt (target s i) 64)
  where
    inner : ℕ → ℕ
    inner m = when (not (is_chosen s m)) (when (x i m) 1)

    off : (a b c : Bool) (v : ℕ) → a ≡ true → when (c && (not a && b)) v ≡ 0
    off true b true v h = refl
    off true b false v h = refl
    off false b c v h = let bad : false ≡ true = h in cc

    join : (a b c d : ℕ) → a ≡ 0 → b ≤ c → c ≤ d → a + b ≤ d
    join a b c d p q r = omega arith

    open_one : (o w : Bool) → (w ≡ true → o ≡ true) → when w 1 ≤ when (not (not o)) (when w 1)
    open_one true w h = omega arith
    open_one false true h = let bad : false ≡ true = h refl in cc
    open_one false false h = omega arith

    aimed : target s i < 64 → zones_charge net (is_chosen s) (is_zone_chosen net s) i + when (is_uncut net (is_chosen s) (is_zone_chosen net s) i) (replicas net i) ≤ sum_to (members net) inner
    aimed lt = join (zones_charge net (is_chosen s) (is_zone_chosen net s) i) (when (is_uncut net (is_chosen s) (is_zone_chosen net s) i) (replicas net i)) (row net x i) (sum_to (members net) inner)
        (sum_to_zero (members net) _ (λ z lz. off (nat_lt (target s i) 64) (nat_lt 0 (free net (is_chosen s) z)) (is_zone net z) (min (zone_bound (replicas net i)) (free net (is_chosen s) z)) (lt-ltb (target s i) 64 lt)))
        (le_trans _ (replicas net i) _ (when_most (is_uncut net (is_chosen s) (is_zone_chosen net s) i) (replicas net i)) ((whole.search.aims i li lt).full))
        (sum_to_le (members net) (λ m. when (x i m) 1) inner (λ m lm. open_one (is_open s m) (x i m) (λ p. lt-ltb (rank s m) 64 (whole.taken i li lt m lm p))))

    add : (a b d : ℕ) → a ≤ d → b ≡ 0 → a + b ≤ d
    add a b d p q = omega arith

    closed : 64 ≤ target s i → zones_charge net (is_chosen s) (is_zone_chosen net s) i + when (is_uncut net (is_chosen s) (is_zone_chosen net s) i) (replicas net i) ≤ sum_to (members net) inner
    closed h = add (zones_charge net (is_chosen s) (is_zone_chosen net s) i) (when (is_uncut net (is_chosen s) (is_zone_chosen net s) i) (replicas net i)) (sum_to (members net) inner)
        (subst (λ t. zones_charge net (is_chosen s) (is_zone_chosen net s) i ≤ t) (sym (by_zones net ok inner)) (sum_to_le (members net) _ _ (λ z lz. zone_counts net ok x s whole i z li lz h)))
        (when_false (is_uncut net (is_chosen s) (is_zone_chosen net s) i) (replicas net i) (le-ltb 0 ways none_left))
      where
        ways : ℕ
        ways = count_to (members net) (λ m. not (is_chosen s m) && not (is_zone_chosen net s i (zone net m)))

        same_part : (o : Bool) (m : ℕ) → o ≡ is_open s m → m < members net → o ≡ true → 1 ≤ free net (is_chosen s) (zone net m)
        same_part o m e lm on = le_trans 1 _ _ (here (is_open s m) (zone net m == zone net m) (sym e ∙ on) (eq-eqb (zone net m) (zone net m) refl)) (sum_to_part (members net) (λ m'. when (not (is_chosen s m') && (zone net m' == zone net m)) 1) m lm)
          where
            here : (a b : Bool) → a ≡ true → b ≡ true → 1 ≤ when (not (not a) && b) 1
            here true true p q = omega arith
            here true false p q = let bad : false ≡ true = q in cc
            here false b p q = let bad : false ≡ true = p in cc

        each : (o c f : Bool) → c ≡ false → (o ≡ true → f ≡ true) → when (not (not o) && not (not c && f)) 1 ≡ 0
        each true false true p q = refl
        each true false false p q = let bad : false ≡ true = q refl in cc
        each true true f p q = let bad : true ≡ false = p in cc
        each false c f p q = refl

        none_left : ways ≤ 0
        none_left = let e : ways ≡ 0 = sum_to_zero (members net) _ (λ m lm. each (is_open s m) (nat_lt (target s i) 64) (nat_lt 0 (free net (is_chosen s) (zone net m))) (le-ltb (target s i) 64 h) (λ p. lt-ltb 0 (free net (is_chosen s) (zone net m)) (same_part (is_open s m) m refl lm p))) in omega arith

-- the cut's capacity is at most the number of pairs
pub cut_counts : (net : Net) → IsNet net → (x : Cells) (s : Marks) → IsWhole net x s → capacity net (is_chosen s) (is_zone_chosen net s) ≤ total net x
cut_counts net ok x s whole =
    let held : sum_to (members net) (λ m. when (is_chosen s m) (limit net m)) ≤ sum_to (members net) (λ m. sum_to (items net) (λ i. when (is_chosen s m) (when (x i m) 1))) =
    sum_to_le (members net) _ _ (λ m lm. full (is_open s m) m lm refl) in
    let turned : sum_to (items net) outer ≡ sum_to (members net) (λ m. sum_to (items net) (λ i. when (is_chosen s m) (when (x i m) 1))) = sum_to_swap (items net) (members net) (λ i m. when (is_chosen s m) (when (x i m) 1)) in
    let rest : sum_to (items net) (λ i. charge i) ≤ sum_to (items net) inner = sum_to_le (items net) charge inner (λ i li. item_counts net ok x s whole i li) in
    let parts : sum_to (items net) (λ i. outer i + inner i) ≡ sum_to (items net) outer + sum_to (items net) inner = sum_to_add (items net) outer inner in
    let all : total net x ≡ sum_to (items net) (λ i. outer i + inner i) = sum_to_eq (items net) (λ i. row net x i) (λ i. outer i + inner i) (λ i li. split i) in
    join (total net x) (sum_to (items net) (λ i. outer i + inner i)) (sum_to (items net) outer) (sum_to (items net) inner) _ _ _ all parts turned held rest
  where
    outer : ℕ → ℕ
    outer i = sum_to (members net) (λ m. when (is_chosen s m) (when (x i m) 1))

    inner : ℕ → ℕ
    inner i = sum_to (members net) (λ m. when (not (is_chosen s m)) (when (x i m) 1))

    charge : ℕ → ℕ
    charge i = zones_charge net (is_chosen s) (is_zone_chosen net s) i + when (is_uncut net (is_chosen s) (is_zone_chosen net s) i) (replicas net i)

    two : (c : Bool) (v : ℕ) → v ≡ when c v + when (not c) v
    two true v = omega arith
    two false v = omega arith

    split : (i : ℕ) → row net x i ≡ outer i + inner i
    split i = sum_to_eq (members net) (λ m. when (x i m) 1) (λ m. when (is_chosen s m) (when (x i m) 1) + when (not (is_chosen s m)) (when (x i m) 1)) (λ m lm. two (is_chosen s m) (when (x i m) 1))
        ∙ sum_to_add (members net) (λ m. when (is_chosen s m) (when (x i m) 1)) (λ m. when (not (is_chosen s m)) (when (x i m) 1))

    no : (a : ℕ) → a < 64 → 64 ≤ a → ⊥
    no a p q = omega arith

    full : (o : Bool) (m : ℕ) → m < members net → is_open s m ≡ o → when (is_chosen s m) (limit net m) ≤ sum_to (items net) (λ i. when (is_chosen s m) (when (x i m) 1))
    full o m lm e = subst (λ c. when (not c) (limit net m) ≤ sum_to (items net) (λ i. when (not c) (when (x i m) 1))) (sym e) (side o e)
      where
        side : (c : Bool) → is_open s m ≡ c → when (not c) (limit net m) ≤ sum_to (items net) (λ i. when (not c) (when (x i m) 1))
        side true q = zero_le (sum_to (items net) (λ i. 0))
          where
            zero_le : (a : ℕ) → 0 ≤ a
            zero_le a = omega arith
        side false q = ⊎_elim (λ (less : load net x m < limit net m). absurd (no (rank s m) (whole.roomy m lm less) (ltb-false (rank s m) 64 q))) (λ (h : limit net m ≤ load net x m). h) (cases_lt (load net x m) (limit net m))

    join : (t u o n k h c : ℕ) → t ≡ u → u ≡ o + n → o ≡ h → k ≤ h → c ≤ n → k + c ≤ t
    join t u o n k h c p q r v w = omega arith
