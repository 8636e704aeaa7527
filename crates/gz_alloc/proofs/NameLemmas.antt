-- Names in order, and their places.
use Rattle.std.proofs.Common.{◌≡◌, ℕ, ◌+◌, ◌<◌, ◌≤◌, ◌≢◌, ◌-◌, ◌⊎◌, Bool, true, false, ◌&&◌, ◌==◌, List, [], ◌∷◌, length, map, get_or, nat_lt, nat_le, refl, ap, ◌∙◌, sym, subst, arith, inl, inr, ⊎_elim, Ordering, cond, add-one}
use Prim.Native.Nat.{zero, suc}
use Rattle.std.specs.declared.cmp.Ordering.TheVariants.{Less, Equal, Greater}
use Rattle.std.specs.Ordering.{nat_cmp, is_lt}
use Rattle.std.specs.Cmp.Lexicographic.{slice_cmp, bytes_decides}
use Rattle.std.proofs.lemmas.Cmp.{nat_list_cmp_total, tied_itself, nat_list_eq_equiv}
use Rattle.std.proofs.lemmas.List.{length-map}
use Rattle.std.proofs.lemmas.Bool.{cases_eq, cases_order, and_parts, and_left, and_right, ltb-true, lt-ltb, leb-true, eq-eqb, ne_eqb}
use Rattle.gz_alloc.specs.Sums.{all_to}
use Rattle.gz_alloc.specs.declared.problem.Member.{Member}
use Rattle.gz_alloc.specs.Flow.{IsNet, items, members, replicas, limit, zone}
use Rattle.gz_alloc.specs.Names.{Asked, item_names, member_names, zone_names, net_of, is_problem, same, name_at, place_of, rises_at, rises}

pub all_to_fails : (n : ℕ) (p : ℕ → Bool) (i : ℕ) → i < n → p i ≡ false → all_to n p ≡ false
all_to_fails zero p i lt e = absurd (omega arith)
all_to_fails (suc n) p i lt e = ⊎_elim (λ (here : i ≡ n). and_right (all_to n p) (p n) (ap p (sym here) ∙ e)) (λ (ne : i ≢ n). and_left (all_to n p) (p n) (all_to_fails n p i (omega arith) e)) (cases_eq i n)

pub all_to_at : (n : ℕ) (p : ℕ → Bool) → all_to n p ≡ true → (i : ℕ) → i < n → p i ≡ true
all_to_at zero p h i lt = absurd (omega arith)
all_to_at (suc n) p h i lt = ⊎_elim (λ (here : i ≡ n). ap p here ∙ (and_parts (all_to n p) (p n) h).1) (λ (ne : i ≢ n). all_to_at n p ((and_parts (all_to n p) (p n) h).0) i (omega arith)) (cases_eq i n)

-- names that are the same are equal
pub same_equal : (a b : List ℕ) → same a b ≡ true → a ≡ b
same_equal a b h = (bytes_decides a b).0 h

pub same_itself : (a : List ℕ) → same a a ≡ true
same_itself a = nat_list_eq_equiv.refl a

pub less_from : (o : Ordering) → is_lt o ≡ true → o ≡ Less
less_from Less h = refl
less_from Equal h = let bad : false ≡ true = h in cc
less_from Greater h = let bad : false ≡ true = h in cc

-- each name is below the next
pub step : (names : List (List ℕ)) → rises names ≡ true → (i : ℕ) → i + 1 < length names → slice_cmp nat_cmp (name_at names i) (name_at names (i + 1)) ≡ Less
step names h i lt = less_from (slice_cmp nat_cmp (name_at names i) (name_at names (i + 1))) (on (nat_lt (i + 1) (length names)) (is_lt (slice_cmp nat_cmp (name_at names i) (name_at names (i + 1)))) (lt-ltb (i + 1) (length names) lt) (all_to_at (length names) (rises_at names) h i (omega arith)))
  where
    on : (a b : Bool) → a ≡ true → cond a b true ≡ true → b ≡ true
    on true b p q = q
    on false b p q = let bad : false ≡ true = p in cc

-- in names that rise, each is below all later ones
pub rise_apart : (names : List (List ℕ)) → rises names ≡ true → (i k : ℕ) → i + suc k < length names → slice_cmp nat_cmp (name_at names i) (name_at names (i + suc k)) ≡ Less
rise_apart names h i zero lt = subst (λ j. slice_cmp nat_cmp (name_at names i) (name_at names j) ≡ Less) (next i) (step names h i (omega arith))
  where
    next : (i : ℕ) → i + 1 ≡ i + suc 0
    next i = omega arith
rise_apart names h i (suc k) lt =
    nat_list_cmp_total.trans (name_at names i) (name_at names (i + suc k)) (name_at names (i + suc (suc k))) (rise_apart names h i k (omega arith))
    (subst (λ j. slice_cmp nat_cmp (name_at names (i + suc k)) (name_at names j) ≡ Less) (next i k) (step names h (i + suc k) (omega arith)))
  where
    next : (i k : ℕ) → i + suc k + 1 ≡ i + suc (suc k)
    next i k = omega arith

-- names that rise are apart
pub names_apart : (names : List (List ℕ)) → rises names ≡ true → (i j : ℕ) → i < length names → j < length names → same (name_at names i) (name_at names j) ≡ true → i ≡ j
names_apart names h i j li lj e = decide (cases_order i j)
  where
    no : (o : Ordering) → o ≡ Less → o ≡ Equal → ⊥
    no o p q = let bad : Less ≡ Equal = sym p ∙ q in cc

    below : (a b : ℕ) → a < b → b < length names → same (name_at names a) (name_at names b) ≡ true → ⊥
    below a b lt lb s = no (slice_cmp nat_cmp (name_at names a) (name_at names b))
        (subst (λ k. slice_cmp nat_cmp (name_at names a) (name_at names k) ≡ Less) (reach a b lt) (rise_apart names h a (b - suc a) (subst (λ k. k < length names) (sym (reach a b lt)) lb)))
        (subst (λ n. slice_cmp nat_cmp (name_at names a) n ≡ Equal) (same_equal (name_at names a) (name_at names b) s) (tied_itself nat_list_cmp_total (name_at names a)))
      where
        reach : (a b : ℕ) → a < b → a + suc (b - suc a) ≡ b
        reach a b lt = omega arith

    decide : (i ≡ j) ⊎ ((i < j) ⊎ (j < i)) → i ≡ j
    decide (inl p) = p
    decide (inr (inl p)) = absurd (below i j p lj e)
    decide (inr (inr p)) = absurd (below j i p li (nat_list_eq_equiv.symm (name_at names j) (name_at names i) ∙ e))

-- the place of a name is within, where a name is the same
pub place_within : (name : List ℕ) (names : List (List ℕ)) (i : ℕ) → i < length names → same (name_at names i) name ≡ true → (place_of name names ≤ i) × (same (name_at names (place_of name names)) name ≡ true)
place_within name [] i lt e = absurd (omega arith)
place_within name (n ∷ ns) i lt e = at (λ j lj f. place_within name ns j lj f) (same n name) refl i lt e
  where
    none : (b : Bool) → b ≡ true → b ≡ false → ⊥
    none b p q = let bad : true ≡ false = sym p ∙ q in cc

    at : ((j : ℕ) → j < length ns → same (name_at ns j) name ≡ true → (place_of name ns ≤ j) × (same (name_at ns (place_of name ns)) name ≡ true)) → (b : Bool) → same n name ≡ b → (i : ℕ) → i < length (n ∷ ns) → same (name_at (n ∷ ns) i) name ≡ true → (place_of name (n ∷ ns) ≤ i) × (same (name_at (n ∷ ns) (place_of name (n ∷ ns))) name ≡ true)
    at again true h i lt e = subst (λ k. (k ≤ i) × (same (name_at (n ∷ ns) k) name ≡ true)) (sym (ap (λ b. cond b 0 (suc (place_of name ns))) h)) (omega arith, h)
    at again false h zero lt e = absurd (none (same n name) e h)
    at again false h (suc i) lt e = let rest = again i (omega arith) e in
        subst (λ k. (k ≤ suc i) × (same (name_at (n ∷ ns) k) name ≡ true)) (sym (ap (λ b. cond b 0 (suc (place_of name ns))) h)) (omega (arith, rest.0), rest.1)

-- a place that is within is that of a name that is the same
pub place_same : (name : List ℕ) (names : List (List ℕ)) → place_of name names < length names → same (name_at names (place_of name names)) name ≡ true
place_same name [] lt = absurd (omega arith)
place_same name (n ∷ ns) lt = at (λ l. place_same name ns l) (same n name) refl
  where
    at : (place_of name ns < length ns → same (name_at ns (place_of name ns)) name ≡ true) → (b : Bool) → same n name ≡ b → same (name_at (n ∷ ns) (place_of name (n ∷ ns))) name ≡ true
    at again true h = subst (λ k. same (name_at (n ∷ ns) k) name ≡ true) (sym (ap (λ b. cond b 0 (suc (place_of name ns))) h)) h
    at again false h = subst (λ k. same (name_at (n ∷ ns) k) name ≡ true) (sym eq) (again (below (place_of name ns) (place_of name (n ∷ ns)) (length ns) (length (n ∷ ns)) eq lt))
      where
        eq : place_of name (n ∷ ns) ≡ suc (place_of name ns)
        eq = ap (λ b. cond b 0 (suc (place_of name ns))) h

        below : (a b k l : ℕ) → b ≡ suc a → b < length (n ∷ ns) → a < length ns
        below a b k l p q = omega arith

-- among names that rise, a name's place is known by the name
pub place_at : (names : List (List ℕ)) → rises names ≡ true → (name : List ℕ) (i : ℕ) → i < length names → same (name_at names i) name ≡ true → place_of name names ≡ i
place_at names h name i lt e =
    let found = place_within name names i lt e in
    names_apart names h (place_of name names) i (le_lt (place_of name names) i (length names) found.0 lt) lt
    (subst (λ n. same (name_at names (place_of name names)) n ≡ true) (sym (same_equal (name_at names i) name e)) found.1)
  where
    le_lt : (a b c : ℕ) → a ≤ b → b < c → a < c
    le_lt a b c p q = omega arith

-- the name is the same as the i'th exactly where its place is i
pub same_place : (names : List (List ℕ)) → rises names ≡ true → (name : List ℕ) (i : ℕ) → i < length names → same name (name_at names i) ≡ (place_of name names == i)
same_place names h name i lt = at (same name (name_at names i)) refl
  where
    turn : same name (name_at names i) ≡ same (name_at names i) name
    turn = nat_list_eq_equiv.symm name (name_at names i)

    both : (b : Bool) → b ≡ true → b ≡ false → ⊥
    both b p q = let bad : true ≡ false = sym p ∙ q in cc

    at : (b : Bool) → same name (name_at names i) ≡ b → same name (name_at names i) ≡ (place_of name names == i)
    at true e = e ∙ sym (eq-eqb (place_of name names) i (place_at names h name i lt (sym turn ∙ e)))
    at false e = e ∙ sym (ne_eqb (place_of name names) i (λ here. both (same name (name_at names i)) (turn ∙ subst (λ k. same (name_at names k) name ≡ true) here (place_same name names (subst (λ k. k < length names) (sym here) lt))) e))

-- what a problem's test says
pub record IsAsked (asked : Asked) : Type 0 where
  pub few_items : length asked.items ≤ 1024
  pub few_members : length asked.members ≤ 64
  pub items_rise : rises (item_names asked) ≡ true
  pub members_rise : rises (member_names asked) ≡ true
  pub asks : (i : ℕ) → i < length asked.items → 0 < replicas (net_of asked) i

pub asked_facts : (asked : Asked) → is_problem asked ≡ true → IsAsked asked
asked_facts asked h =
    let p5 : Bool = all_to (length asked.items) each_item && all_to (length asked.members) each_member in
    let p4 : Bool = rises (member_names asked) && p5 in
    let p3 : Bool = rises (item_names asked) && p4 in
    let p2 : Bool = nat_le (length asked.members) 64 && p3 in
    let one = and_parts (nat_le (length asked.items) 1024) p2 h in
    let two = and_parts (nat_le (length asked.members) 64) p3 one.1 in
    let three = and_parts (rises (item_names asked)) p4 two.1 in
    let four = and_parts (rises (member_names asked)) p5 three.1 in
    let five = and_parts (all_to (length asked.items) each_item) (all_to (length asked.members) each_member) four.1 in
    record {
      few_items = leb-true (length asked.items) 1024 one.0;
      few_members = leb-true (length asked.members) 64 two.0;
      items_rise = three.0;
      members_rise = four.0;
      asks = λ i li. ltb-true 0 (replicas (net_of asked) i) ((and_parts (nat_lt 0 (replicas (net_of asked) i)) (nat_le (replicas (net_of asked) i) 5) (all_to_at (length asked.items) each_item five.0 i li)).0);
    }
  where
    each_item : ℕ → Bool
    each_item i = nat_lt 0 (replicas (net_of asked) i) && nat_le (replicas (net_of asked) i) 5

    each_member : ℕ → Bool
    each_member m = nat_le (limit (net_of asked) m) 1024

-- a member's zone by number
pub zone_map : (ms : List Member) (zones : List (List ℕ)) (m : ℕ) → m < length ms → get_or (map (λ m. place_of m.zone zones) ms) m 0 ≡ place_of (name_at (map (λ m. m.zone) ms) m) zones
zone_map [] zones m lt = absurd (omega arith)
zone_map (x ∷ xs) zones zero lt = refl
zone_map (x ∷ xs) zones (suc m) lt = zone_map xs zones m (omega arith)

-- each member's zone is found among the zones
pub net_ok : (asked : Asked) → is_problem asked ≡ true → IsNet (net_of asked)
net_ok asked h = record {
  few_items = at_most (items (net_of asked)) (length asked.items) 1024 (length-map asked.items (λ i. i.replicas)) facts.few_items;
  few_members = at_most (members (net_of asked)) (length asked.members) 64 (length-map asked.members (λ m. m.limit)) facts.few_members;
  each_zone = length-map asked.members (λ m. place_of m.zone (zone_names asked)) ∙ sym (length-map asked.members (λ m. m.limit));
  asks = λ i li. facts.asks i (below i (items (net_of asked)) (length asked.items) (length-map asked.items (λ i. i.replicas)) li);
  within = λ m lm. zone_below m (member_below m lm);
  first = λ m lm. zone_first m (member_below m lm);
}
  where
    facts : IsAsked asked
    facts = asked_facts asked h

    at_most : (a b c : ℕ) → a ≡ b → b ≤ c → a ≤ c
    at_most a b c p q = omega arith

    below : (i a b : ℕ) → a ≡ b → i < a → i < b
    below i a b p q = omega arith

    member_below : (m : ℕ) → m < members (net_of asked) → m < length (zone_names asked)
    member_below m lm = below m (members (net_of asked)) (length (zone_names asked)) (length-map asked.members (λ m. m.limit) ∙ sym (length-map asked.members (λ m. m.zone))) lm

    zone_is : (m : ℕ) → m < length (zone_names asked) → zone (net_of asked) m ≡ place_of (name_at (zone_names asked) m) (zone_names asked)
    zone_is m lm = zone_map asked.members (zone_names asked) m (below m (length (zone_names asked)) (length asked.members) (length-map asked.members (λ m. m.zone)) lm)

    found : (m : ℕ) → m < length (zone_names asked) → (place_of (name_at (zone_names asked) m) (zone_names asked) ≤ m) × (same (name_at (zone_names asked) (place_of (name_at (zone_names asked) m) (zone_names asked))) (name_at (zone_names asked) m) ≡ true)
    found m lm = place_within (name_at (zone_names asked) m) (zone_names asked) m lm (same_itself (name_at (zone_names asked) m))

    le_lt : (a b c d : ℕ) → a ≡ b → b ≤ c → c < d → a < d
    le_lt a b c d p q r = omega arith

    zone_below : (m : ℕ) → m < length (zone_names asked) → zone (net_of asked) m < members (net_of asked)
    zone_below m lm = below (zone (net_of asked) m) (length (zone_names asked)) (members (net_of asked)) (length-map asked.members (λ m. m.zone) ∙ sym (length-map asked.members (λ m. m.limit))) (le_lt (zone (net_of asked) m) (place_of (name_at (zone_names asked) m) (zone_names asked)) m (length (zone_names asked)) (zone_is m lm) ((found m lm).0) lm)

    zone_first : (m : ℕ) → m < length (zone_names asked) → zone (net_of asked) (zone (net_of asked) m) ≡ zone (net_of asked) m
    zone_first m lm =
        let z : ℕ = place_of (name_at (zone_names asked) m) (zone_names asked) in
        let lz : z < length (zone_names asked) = le_lt z z m (length (zone_names asked)) refl ((found m lm).0) lm in
        ap (zone (net_of asked)) (zone_is m lm) ∙ zone_is z lz ∙ ap (λ n. place_of n (zone_names asked)) (same_equal (name_at (zone_names asked) z) (name_at (zone_names asked) m) ((found m lm).1)) ∙ sym (zone_is m lm)
