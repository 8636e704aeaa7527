-- No table that keeps the bounds has more pairs than the capacity of a cut.
use Rattle.std.proofs.Common.{◌≡◌, ℕ, ◌+◌, ◌<◌, ◌≤◌, ◌≢◌, Bool, true, false, not, ◌&&◌, ◌==◌, min, refl, ap, ◌∙◌, sym, subst, arith}
use Rattle.std.proofs.lemmas.Bool.{eqb-true, eq-eqb, ne_eqb, ltb-false, and_from, and_left, and_right}
use Rattle.gz_alloc.specs.Sums.{when, sum_to, count_to}
use Rattle.gz_alloc.specs.Flow.{Net, IsNet, Cells, Keeps, items, members, replicas, limit, zone, row, in_zone, zone_bound, total, free, is_zone, is_uncut, zones_charge, capacity}
use Rattle.gz_alloc.proofs.SumLemmas.{sum_to_le, sum_to_eq, sum_to_add, sum_to_none, sum_to_zero, sum_to_swap, sum_to_one}

pub when_true : (a : Bool) (v : ℕ) → a ≡ true → when a v ≡ v
when_true a v h = ap (λ t. when t v) h

pub when_false : (a : Bool) (v : ℕ) → a ≡ false → when a v ≡ 0
when_false a v h = ap (λ t. when t v) h

pub when_most : (a : Bool) (v : ℕ) → when a v ≤ v
when_most true v = omega arith
when_most false v = omega arith

-- a sum over the members is the sum over the zones of the sums over each zone's members
pub by_zones : (net : Net) → IsNet net → (g : ℕ → ℕ) → sum_to (members net) g ≡ sum_to (members net) (λ z. sum_to (members net) (λ m. when (is_zone net z && (zone net m == z)) (g m)))
by_zones net ok g =
    sum_to_eq (members net) g (λ m. sum_to (members net) (λ z. when (is_zone net z && (zone net m == z)) (g m)))
    (λ m lt. sym (sum_to_one (members net) (λ z. when (is_zone net z && (zone net m == z)) (g m)) (zone net m) (ok.within m lt) (others m) ∙ own m lt))
    ∙ sum_to_swap (members net) (members net) (λ m z. when (is_zone net z && (zone net m == z)) (g m))
  where
    off : (a b : Bool) (v : ℕ) → b ≡ false → when (a && b) v ≡ 0
    off true b v h = when_false b v h
    off false b v h = refl

    others : (m z : ℕ) → z < members net → z ≢ zone net m → when (is_zone net z && (zone net m == z)) (g m) ≡ 0
    others m z lt ne = off (is_zone net z) (zone net m == z) (g m) (ne_eqb (zone net m) z (λ e. ne (sym e)))

    on : (a b : Bool) (v : ℕ) → a ≡ true → b ≡ true → when (a && b) v ≡ v
    on a b v p q = ap (λ t. when (t && b) v) p ∙ ap (λ t. when t v) q

    own : (m : ℕ) → m < members net → when (is_zone net (zone net m) && (zone net m == zone net m)) (g m) ≡ g m
    own m lt = on (is_zone net (zone net m)) (zone net m == zone net m) (g m) (eq-eqb (zone net (zone net m)) (zone net m) (ok.first m lt)) (eq-eqb (zone net m) (zone net m) refl)

-- a pair passes through its member, or through its zone, or through neither
split : (x c z : Bool) → when x 1 ≡ when c (when x 1) + (when (not c && z) (when x 1) + when (not c && not z) (when x 1))
split true true z = refl
split true false true = refl
split true false false = refl
split false true z = refl
split false false true = refl
split false false false = refl

-- the pairs of an item through one chosen zone
zone_part : (net : Net) → (x : Cells) → Keeps net x → (chosen : ℕ → Bool) (zones : ℕ → ℕ → Bool) (i z : ℕ) → i < items net → z < members net →
    sum_to (members net) (λ m. when (is_zone net z && (zone net m == z)) (when (not (chosen m) && zones i (zone net m)) (when (x i m) 1)))
    ≤ when (is_zone net z && zones i z) (min (zone_bound (replicas net i)) (free net chosen z))
zone_part net x keeps chosen zones i z li lz = cases (is_zone net z) (zones i z) refl refl
  where
    at_zone : (m : ℕ) → (zone net m == z) ≡ true → zones i (zone net m) ≡ true → zones i z ≡ true
    at_zone m e h = ap (λ t. zones i t) (sym (eqb-true (zone net m) z e)) ∙ h

    nothing : (x y c e v : Bool) → (x && y) ≡ false → (c ≡ true → v ≡ true → y ≡ true) → (w : Bool) → when (x && c) (when (e && v) (when w 1)) ≡ 0
    nothing false y c e v off h w = refl
    nothing true y false e v off h w = refl
    nothing true y true false v off h w = refl
    nothing true y true true false off h w = refl
    nothing true true true true true off h w = let bad : true ≡ false = off in cc
    nothing true false true true true off h w = let bad : false ≡ true = h refl refl in cc

    below_in : (s c e v w : Bool) → when (s && c) (when (e && v) (when w 1)) ≤ when (w && c) 1
    below_in false c e v w = omega arith
    below_in true false e v w = omega arith
    below_in true true false v w = omega arith
    below_in true true true false w = omega arith
    below_in true true true true true = omega arith
    below_in true true true true false = omega arith

    below_free : (s c e v w : Bool) → when (s && c) (when (e && v) (when w 1)) ≤ when (e && c) 1
    below_free false c e v w = omega arith
    below_free true false e v w = omega arith
    below_free true true false v w = omega arith
    below_free true true true false w = omega arith
    below_free true true true true true = omega arith
    below_free true true true true false = omega arith

    part : ℕ → ℕ
    part m = when (is_zone net z && (zone net m == z)) (when (not (chosen m) && zones i (zone net m)) (when (x i m) 1))

    value : ℕ
    value = min (zone_bound (replicas net i)) (free net chosen z)

    le_min : (a b c : ℕ) → a ≤ b → a ≤ c → a ≤ min b c
    le_min a b c p q = omega arith

    from_zero : (a b : ℕ) → a ≡ 0 → a ≤ b
    from_zero a b h = omega arith

    in_bound : is_zone net z ≡ true → in_zone net x i z ≤ zone_bound (replicas net i)
    in_bound h = subst (λ t. in_zone net x i t ≤ zone_bound (replicas net i)) (eqb-true (zone net z) z h) (keeps.zones i z li lz)

    within : is_zone net z ≡ true → sum_to (members net) part ≤ value
    within h = le_min (sum_to (members net) part) (zone_bound (replicas net i)) (free net chosen z)
        (let a : sum_to (members net) part ≤ in_zone net x i z = sum_to_le (members net) part (λ m. when (x i m && (zone net m == z)) 1) (λ m _. below_in (is_zone net z) (zone net m == z) (not (chosen m)) (zones i (zone net m)) (x i m)) in let b : in_zone net x i z ≤ zone_bound (replicas net i) = in_bound h in le_two a b)
        (sum_to_le (members net) part (λ m. when (not (chosen m) && (zone net m == z)) 1) (λ m _. below_free (is_zone net z) (zone net m == z) (not (chosen m)) (zones i (zone net m)) (x i m)))
      where
        le_two : {a b c : ℕ} → a ≤ b → b ≤ c → a ≤ c
        le_two p q = omega arith

    empty : (is_zone net z && zones i z) ≡ false → sum_to (members net) part ≡ 0
    empty h = sum_to_zero (members net) part (λ m _. nothing (is_zone net z) (zones i z) (zone net m == z) (not (chosen m)) (zones i (zone net m)) h (at_zone m) (x i m))

    cases : (a b : Bool) → is_zone net z ≡ a → zones i z ≡ b → sum_to (members net) part ≤ when (is_zone net z && zones i z) value
    cases true true ha hb = subst (λ t. sum_to (members net) part ≤ t) (sym (when_true (is_zone net z && zones i z) value (and_from (is_zone net z) (zones i z) ha hb))) (within ha)
    cases false b ha hb = from_zero _ _ (empty (and_left (is_zone net z) (zones i z) ha))
    cases true false ha hb = from_zero _ _ (empty (and_right (is_zone net z) (zones i z) hb))

le_trans : (a b c : ℕ) → a ≤ b → b ≤ c → a ≤ c
le_trans a b c p q = omega arith

-- the pairs of an item that aren't through chosen members
item_part : (net : Net) → IsNet net → (x : Cells) → Keeps net x → (chosen : ℕ → Bool) (zones : ℕ → ℕ → Bool) (i : ℕ) → i < items net →
    row net x i ≤ sum_to (members net) (λ m. when (chosen m) (when (x i m) 1)) + (zones_charge net chosen zones i + when (is_uncut net chosen zones i) (replicas net i))
item_part net ok x keeps chosen zones i li =
    let parts : row net x i ≡ sum_to (members net) through_members + (sum_to (members net) through_zones + sum_to (members net) through_none) =
    sum_to_eq (members net) (λ m. when (x i m) 1) (λ m. through_members m + (through_zones m + through_none m)) (λ m _. split (x i m) (chosen m) (zones i (zone net m)))
    ∙ sum_to_add (members net) through_members (λ m. through_zones m + through_none m)
    ∙ ap (λ t. sum_to (members net) through_members + t) (sum_to_add (members net) through_zones through_none) in
    let zoned : sum_to (members net) through_zones ≤ zones_charge net chosen zones i =
    subst (λ t. t ≤ zones_charge net chosen zones i) (sym (by_zones net ok through_zones)) (sum_to_le (members net) _ _ (λ z lz. zone_part net x keeps chosen zones i z li lz)) in
    let open_ : sum_to (members net) through_none ≤ when (is_uncut net chosen zones i) (replicas net i) = uncut (is_uncut net chosen zones i) refl in
    join (row net x i) (sum_to (members net) through_members) (sum_to (members net) through_zones) (sum_to (members net) through_none) (zones_charge net chosen zones i) (when (is_uncut net chosen zones i) (replicas net i)) parts zoned open_
  where
    through_members : ℕ → ℕ
    through_members m = when (chosen m) (when (x i m) 1)

    through_zones : ℕ → ℕ
    through_zones m = when (not (chosen m) && zones i (zone net m)) (when (x i m) 1)

    through_none : ℕ → ℕ
    through_none m = when (not (chosen m) && not (zones i (zone net m))) (when (x i m) 1)

    join : (r a b c d e : ℕ) → r ≡ a + (b + c) → b ≤ d → c ≤ e → r ≤ a + (d + e)
    join r a b c d e p q s = omega arith

    ways : ℕ
    ways = count_to (members net) (λ m. not (chosen m) && not (zones i (zone net m)))

    single : (a w : Bool) → when a (when w 1) ≤ when a 1
    single true true = omega arith
    single true false = omega arith
    single false w = omega arith

    zero_below : (a b : ℕ) → a ≤ b → b ≤ 0 → a ≤ 0
    zero_below a b p q = omega arith

    uncut : (b : Bool) → is_uncut net chosen zones i ≡ b → sum_to (members net) through_none ≤ when b (replicas net i)
    uncut true h = le_trans _ (row net x i) _ (sum_to_le (members net) through_none (λ m. when (x i m) 1) (λ m _. when_most (not (chosen m) && not (zones i (zone net m))) (when (x i m) 1))) (keeps.rows i li)
    uncut false h = zero_below (sum_to (members net) through_none) ways (sum_to_le (members net) through_none (λ m. when (not (chosen m) && not (zones i (zone net m))) 1) (λ m _. single (not (chosen m) && not (zones i (zone net m))) (x i m))) (ltb-false 0 ways h)

-- Weak duality.
pub weak_duality : (net : Net) → IsNet net → (x : Cells) → Keeps net x → (chosen : ℕ → Bool) → (zones : ℕ → ℕ → Bool) → total net x ≤ capacity net chosen zones
weak_duality net ok x keeps chosen zones =
    let all : total net x ≤ sum_to (items net) (λ i. of_members i + rest i) = sum_to_le (items net) (λ i. row net x i) (λ i. of_members i + rest i) (λ i li. item_part net ok x keeps chosen zones i li) in
    let parts : sum_to (items net) (λ i. of_members i + rest i) ≡ sum_to (items net) of_members + sum_to (items net) rest = sum_to_add (items net) of_members rest in
    let turned : sum_to (items net) of_members ≡ sum_to (members net) (λ m. sum_to (items net) (λ i. when (chosen m) (when (x i m) 1))) = sum_to_swap (items net) (members net) (λ i m. when (chosen m) (when (x i m) 1)) in
    let held : sum_to (members net) (λ m. sum_to (items net) (λ i. when (chosen m) (when (x i m) 1))) ≤ sum_to (members net) (λ m. when (chosen m) (limit net m)) = sum_to_le (members net) _ _ (λ m lm. hold (chosen m) (items net) (λ i. when (x i m) 1) (limit net m) (keeps.loads m lm)) in
    join (total net x) _ _ _ _ _ all parts turned held
  where
    of_members : ℕ → ℕ
    of_members i = sum_to (members net) (λ m. when (chosen m) (when (x i m) 1))

    rest : ℕ → ℕ
    rest i = zones_charge net chosen zones i + when (is_uncut net chosen zones i) (replicas net i)

    hold : (b : Bool) (n : ℕ) (f : ℕ → ℕ) (v : ℕ) → sum_to n f ≤ v → sum_to n (λ i. when b (f i)) ≤ when b v
    hold true n f v h = h
    hold false n f v h = let e : sum_to n (λ i. 0) ≡ 0 = sum_to_none n in omega arith

    join : (t s a r b c : ℕ) → t ≤ s → s ≡ a + r → a ≡ b → b ≤ c → t ≤ c + r
    join t s a r b c p q u v = omega arith
