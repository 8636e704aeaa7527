-- Lists that are made of what passes a test.
use Rattle.std.proofs.Common.{◌≡◌, ℕ, ◌+◌, ◌<◌, ◌≢◌, Bool, true, false, not, ◌&&◌, ◌||◌, ◌==◌, min, List, [], ◌∷◌, ◌++◌, length, nat_lt, refl, ap, ◌∙◌, sym, subst, arith, ⊎_elim, add-one, append_assoc}
use Prim.Native.Nat.{zero, suc}
use Rattle.std.specs.Prelude.{if◌then◌else◌}
use Rattle.std.specs.List.{list_any, list_all}
use Rattle.std.proofs.lemmas.List.{length-map}
use Rattle.std.proofs.lemmas.List.Folds.{list_any-append, list_all-append}
use Rattle.std.proofs.lemmas.Bool.{cases_eq, and_parts, or_cases, or_left, or_right, eqb-true, eq-eqb, lt-ltb, and_from}
use Rattle.gz_alloc.specs.Sums.{when, sum_to}
use Rattle.gz_alloc.specs.Flow.{Net, IsNet, Cells, items, members, replicas, limit, zone, zone_bound, free, is_zone, is_uncut, zones_charge, capacity, Keeps, total}
use Rattle.gz_alloc.specs.Search.{Marks, is_chosen, is_zone_chosen}
use Rattle.gz_alloc.specs.Names.{Asked, net_of, item_names, member_names, zone_names, is_known, is_problem, place_of, name_at, same, paired, picks, gather, pairs_of, cuts_member, cuts_zone, cut_members, cut_zones, cut_capacity, Agree, IsFeasibleOf, size}
use Rattle.gz_alloc.proofs.SumLemmas.{sum_to_eq}
use Rattle.gz_alloc.proofs.TableLemmas.{agree_keeps, agree_total}
use Rattle.gz_alloc.proofs.NameLemmas.{asked_facts, net_ok, same_itself, same_equal, names_apart, place_at, zone_map}

pub record Picked {A : Type 0} (t : A → Bool) (n : ℕ) (p : ℕ → Bool) (f : ℕ → A) : Type 0 where
  pub at : ℕ
  pub within : at < n
  pub passes : p at ≡ true
  pub tested : t (f at) ≡ true

pub any_picks : {A : Type 0} (t : A → Bool) (n : ℕ) (p : ℕ → Bool) (f : ℕ → A) → list_any t (picks n p f) ≡ true → Picked t n p f
any_picks t zero p f h = let bad : false ≡ true = h in cc
any_picks {A} t (suc n) p f h =
    ⊎_elim (λ (e : list_any t (picks n p f) ≡ true). up (any_picks t n p f e)) (λ (e : list_any t (if p n then f n ∷ [] else []) ≡ true). last (p n) refl e)
    (or_cases (list_any t (picks n p f)) (list_any t (if p n then f n ∷ [] else [])) (sym (list_any-append t (picks n p f) (if p n then f n ∷ [] else [])) ∙ h))
  where
    up : Picked t n p f → Picked t (suc n) p f
    up w = record { at = w.at; within = omega (arith, w.within); passes = w.passes; tested = w.tested }

    single : (b : Bool) → (b || false) ≡ true → b ≡ true
    single true q = refl
    single false q = q

    last : (b : Bool) → p n ≡ b → list_any t (if b then f n ∷ [] else []) ≡ true → Picked t (suc n) p f
    last true e q = record { at = n; within = omega arith; passes = e; tested = single (t (f n)) q }
    last false e q = let bad : false ≡ true = q in cc

pub picks_any : {A : Type 0} (t : A → Bool) (n : ℕ) (p : ℕ → Bool) (f : ℕ → A) (k : ℕ) → k < n → p k ≡ true → t (f k) ≡ true → list_any t (picks n p f) ≡ true
picks_any t zero p f k lt h e = absurd (omega arith)
picks_any t (suc n) p f k lt h e =
    list_any-append t (picks n p f) (if p n then f n ∷ [] else [])
    ∙ ⊎_elim (λ (here : k ≡ n). or_right (list_any t (picks n p f)) (list_any t (if p n then f n ∷ [] else [])) (last (p n) (subst (λ j. p j ≡ true) here h) (subst (λ j. t (f j) ≡ true) here e)))
    (λ (ne : k ≢ n). or_left (list_any t (picks n p f)) (list_any t (if p n then f n ∷ [] else [])) (picks_any t n p f k (omega arith) h e)) (cases_eq k n)
  where
    last : (b : Bool) → b ≡ true → t (f n) ≡ true → list_any t (if b then f n ∷ [] else []) ≡ true
    last true q r = or_left (t (f n)) false r
    last false q r = let bad : false ≡ true = q in cc

pub any_gather : {A : Type 0} (t : A → Bool) (n : ℕ) (f : ℕ → List A) → list_any t (gather n f) ≡ true → (i : ℕ) × (i < n) × (list_any t (f i) ≡ true)
any_gather t zero f h = let bad : false ≡ true = h in cc
any_gather t (suc n) f h =
    ⊎_elim (λ (e : list_any t (gather n f) ≡ true). up (any_gather t n f e)) (λ (e : list_any t (f n) ≡ true). (n, omega arith, e))
    (or_cases (list_any t (gather n f)) (list_any t (f n)) (sym (list_any-append t (gather n f) (f n)) ∙ h))
  where
    up : (i : ℕ) × (i < n) × (list_any t (f i) ≡ true) → (i : ℕ) × (i < suc n) × (list_any t (f i) ≡ true)
    up w = (w.0, omega (arith, w.1), w.2)

pub gather_any : {A : Type 0} (t : A → Bool) (n : ℕ) (f : ℕ → List A) (i : ℕ) → i < n → list_any t (f i) ≡ true → list_any t (gather n f) ≡ true
gather_any t zero f i lt h = absurd (omega arith)
gather_any t (suc n) f i lt h =
    list_any-append t (gather n f) (f n)
    ∙ ⊎_elim (λ (here : i ≡ n). or_right (list_any t (gather n f)) (list_any t (f n)) (subst (λ j. list_any t (f j) ≡ true) here h)) (λ (ne : i ≢ n). or_left (list_any t (gather n f)) (list_any t (f n)) (gather_any t n f i (omega arith) h)) (cases_eq i n)

pub same_bools : (a b : Bool) → (a ≡ true → b ≡ true) → (b ≡ true → a ≡ true) → a ≡ b
same_bools true b f g = sym (f refl)
same_bools false true f g = g refl
same_bools false false f g = refl

pub item_below : (asked : Asked) (i : ℕ) → i < items (net_of asked) → i < length (item_names asked)
item_below asked i li = below i (items (net_of asked)) (length (item_names asked)) (length-map asked.items (λ i. i.replicas) ∙ sym (length-map asked.items (λ i. i.name))) li
  where
    below : (i a b : ℕ) → a ≡ b → i < a → i < b
    below i a b p q = omega arith

pub member_below : (asked : Asked) (m : ℕ) → m < members (net_of asked) → m < length (member_names asked)
member_below asked m lm = below m (members (net_of asked)) (length (member_names asked)) (length-map asked.members (λ m. m.limit) ∙ sym (length-map asked.members (λ m. m.name))) lm
  where
    below : (i a b : ℕ) → a ≡ b → i < a → i < b
    below i a b p q = omega arith

item_apart : (asked : Asked) → is_problem asked ≡ true → (i j : ℕ) → i < items (net_of asked) → j < items (net_of asked) → same (name_at (item_names asked) i) (name_at (item_names asked) j) ≡ true → i ≡ j
item_apart asked ok i j li lj e = names_apart (item_names asked) ((asked_facts asked ok).items_rise) i j (item_below asked i li) (item_below asked j lj) e

member_apart : (asked : Asked) → is_problem asked ≡ true → (i j : ℕ) → i < members (net_of asked) → j < members (net_of asked) → same (name_at (member_names asked) i) (name_at (member_names asked) j) ≡ true → i ≡ j
member_apart asked ok i j li lj e = names_apart (member_names asked) ((asked_facts asked ok).members_rise) i j (member_below asked i li) (member_below asked j lj) e

-- the pairs of a table are its pairs
pub pairs_agree : (asked : Asked) → is_problem asked ≡ true → (x : Cells) → Agree (net_of asked) x (paired asked (pairs_of asked x))
pairs_agree asked ok x i m li lm = same_bools (x i m) (paired asked (pairs_of asked x) i m) into out
  where
    test : List ℕ × List ℕ → Bool
    test p = same p.0 (name_at (item_names asked) i) && same p.1 (name_at (member_names asked) m)

    pair : ℕ → ℕ → List ℕ × List ℕ
    pair j n = (name_at (item_names asked) j, name_at (member_names asked) n)

    into : x i m ≡ true → paired asked (pairs_of asked x) i m ≡ true
    into h = gather_any test (items (net_of asked)) (λ j. picks (members (net_of asked)) (x j) (pair j)) i li
        (picks_any test (members (net_of asked)) (x i) (pair i) m lm h (and_from (same (name_at (item_names asked) i) (name_at (item_names asked) i)) (same (name_at (member_names asked) m) (name_at (member_names asked) m)) (same_itself (name_at (item_names asked) i)) (same_itself (name_at (member_names asked) m))))

    found : (j : ℕ) → j < items (net_of asked) → Picked test (members (net_of asked)) (x j) (pair j) → x i m ≡ true
    found j lj w =
        let two = and_parts (same (name_at (item_names asked) j) (name_at (item_names asked) i)) (same (name_at (member_names asked) w.at) (name_at (member_names asked) m)) w.tested in
        subst (λ a. x a m ≡ true) (item_apart asked ok j i lj li two.0) (subst (λ b. x j b ≡ true) (member_apart asked ok w.at m w.within lm two.1) w.passes)

    out : paired asked (pairs_of asked x) i m ≡ true → x i m ≡ true
    out h = let w = any_gather test (items (net_of asked)) (λ j. picks (members (net_of asked)) (x j) (pair j)) h in found w.0 w.1 (any_picks test (members (net_of asked)) (x w.0) (pair w.0) w.2)

-- the cut's members are those that are chosen
pub members_agree : (asked : Asked) → is_problem asked ≡ true → (s : Marks) (m : ℕ) → m < members (net_of asked) → cuts_member asked (cut_members asked s) m ≡ is_chosen s m
members_agree asked ok s m lm = same_bools (cuts_member asked (cut_members asked s) m) (is_chosen s m) out into
  where
    test : List ℕ → Bool
    test n = same n (name_at (member_names asked) m)

    into : is_chosen s m ≡ true → cuts_member asked (cut_members asked s) m ≡ true
    into h = picks_any test (members (net_of asked)) (is_chosen s) (name_at (member_names asked)) m lm h (same_itself (name_at (member_names asked) m))

    found : Picked test (members (net_of asked)) (is_chosen s) (name_at (member_names asked)) → is_chosen s m ≡ true
    found w = subst (λ j. is_chosen s j ≡ true) (member_apart asked ok w.at m w.within lm w.tested) w.passes

    out : cuts_member asked (cut_members asked s) m ≡ true → is_chosen s m ≡ true
    out h = found (any_picks test (members (net_of asked)) (is_chosen s) (name_at (member_names asked)) h)

-- members that stand for zones of one name are one
zone_apart : (asked : Asked) (y z : ℕ) → y < members (net_of asked) → z < members (net_of asked) → is_zone (net_of asked) y ≡ true → is_zone (net_of asked) z ≡ true → same (name_at (zone_names asked) y) (name_at (zone_names asked) z) ≡ true → y ≡ z
zone_apart asked y z ly lz py pz e =
    sym (eqb-true (zone (net_of asked) y) y py) ∙ zone_is y ly ∙ ap (λ n. place_of n (zone_names asked)) (same_equal (name_at (zone_names asked) y) (name_at (zone_names asked) z) e) ∙ sym (zone_is z lz) ∙ eqb-true (zone (net_of asked) z) z pz
  where
    below : (i a b : ℕ) → a ≡ b → i < a → i < b
    below i a b p q = omega arith

    zone_is : (m : ℕ) → m < members (net_of asked) → zone (net_of asked) m ≡ place_of (name_at (zone_names asked) m) (zone_names asked)
    zone_is m lm = zone_map asked.members (zone_names asked) m (below m (members (net_of asked)) (length asked.members) (length-map asked.members (λ m. m.limit)) lm)

-- the cut's pairs of items and zones are those that are chosen
pub zones_agree : (asked : Asked) → is_problem asked ≡ true → (s : Marks) (i z : ℕ) → i < items (net_of asked) → z < members (net_of asked) → is_zone (net_of asked) z ≡ true → cuts_zone asked (cut_zones asked s) i z ≡ is_zone_chosen (net_of asked) s i z
zones_agree asked ok s i z li lz pz = same_bools (cuts_zone asked (cut_zones asked s) i z) (chosen i z) out into
  where
    chosen : ℕ → ℕ → Bool
    chosen j y = is_zone_chosen (net_of asked) s j y

    stands : ℕ → ℕ → Bool
    stands j y = is_zone (net_of asked) y && chosen j y

    test : List ℕ × List ℕ → Bool
    test p = same p.0 (name_at (item_names asked) i) && same p.1 (name_at (zone_names asked) z)

    pair : ℕ → ℕ → List ℕ × List ℕ
    pair j y = (name_at (item_names asked) j, name_at (zone_names asked) y)

    into : chosen i z ≡ true → cuts_zone asked (cut_zones asked s) i z ≡ true
    into h = gather_any test (items (net_of asked)) (λ j. picks (members (net_of asked)) (stands j) (pair j)) i li
        (picks_any test (members (net_of asked)) (stands i) (pair i) z lz (and_from (is_zone (net_of asked) z) (chosen i z) pz h) (and_from (same (name_at (item_names asked) i) (name_at (item_names asked) i)) (same (name_at (zone_names asked) z) (name_at (zone_names asked) z)) (same_itself (name_at (item_names asked) i)) (same_itself (name_at (zone_names asked) z))))

    found : (j : ℕ) → j < items (net_of asked) → Picked test (members (net_of asked)) (stands j) (pair j) → chosen i z ≡ true
    found j lj w =
        let two = and_parts (same (name_at (item_names asked) j) (name_at (item_names asked) i)) (same (name_at (zone_names asked) w.at) (name_at (zone_names asked) z)) w.tested in
        let parts = and_parts (is_zone (net_of asked) w.at) (chosen j w.at) w.passes in
        subst (λ a. chosen a z ≡ true) (item_apart asked ok j i lj li two.0) (subst (λ b. chosen j b ≡ true) (zone_apart asked w.at z w.within lz parts.0 pz two.1) parts.1)

    out : cuts_zone asked (cut_zones asked s) i z ≡ true → chosen i z ≡ true
    out h = let w = any_gather test (items (net_of asked)) (λ j. picks (members (net_of asked)) (stands j) (pair j)) h in found w.0 w.1 (any_picks test (members (net_of asked)) (stands w.0) (pair w.0) w.2)

-- cuts that agree have one capacity
capacity_same : (net : Net) → IsNet net → (a b : ℕ → Bool) (u v : ℕ → ℕ → Bool) → ((m : ℕ) → m < members net → a m ≡ b m) → ((i z : ℕ) → i < items net → z < members net → is_zone net z ≡ true → u i z ≡ v i z) → capacity net a u ≡ capacity net b v
capacity_same net ok a b u v ab uv =
    ap (λ n. n + sum_of a u) (sum_to_eq (members net) (λ m. when (a m) (limit net m)) (λ m. when (b m) (limit net m)) (λ m lm. ap (λ t. when t (limit net m)) (ab m lm)))
    ∙ ap (λ n. sum_limits b + n) (sum_to_eq (items net) (each a u) (each b v) (λ i li. two (charge_same i li) (uncut_same i li)))
  where
    each : (ℕ → Bool) → (ℕ → ℕ → Bool) → ℕ → ℕ
    each c w i = zones_charge net c w i + when (is_uncut net c w i) (replicas net i)

    sum_of : (ℕ → Bool) → (ℕ → ℕ → Bool) → ℕ
    sum_of c w = sum_to (items net) (each c w)

    sum_limits : (ℕ → Bool) → ℕ
    sum_limits c = sum_to (members net) (λ m. when (c m) (limit net m))

    two : {p q r s : ℕ} → p ≡ q → r ≡ s → p + r ≡ q + s
    two p q = omega arith

    free_same : (z : ℕ) → free net a z ≡ free net b z
    free_same z = sum_to_eq (members net) (λ m. when (not (a m) && (zone net m == z)) 1) (λ m. when (not (b m) && (zone net m == z)) 1) (λ m lm. ap (λ t. when (not t && (zone net m == z)) 1) (ab m lm))

    at_zone : (i z : ℕ) → i < items net → z < members net → (c : Bool) → is_zone net z ≡ c → when (c && u i z) (min (zone_bound (replicas net i)) (free net a z)) ≡ when (c && v i z) (min (zone_bound (replicas net i)) (free net b z))
    at_zone i z li lz true e = ap (λ t. when t (min (zone_bound (replicas net i)) (free net a z))) (uv i z li lz e) ∙ ap (λ n. when (v i z) (min (zone_bound (replicas net i)) n)) (free_same z)
    at_zone i z li lz false e = refl

    charge_same : (i : ℕ) → i < items net → zones_charge net a u i ≡ zones_charge net b v i
    charge_same i li = sum_to_eq (members net) _ _ (λ z lz. at_zone i z li lz (is_zone net z) refl)

    uncut_same : (i : ℕ) → i < items net → when (is_uncut net a u i) (replicas net i) ≡ when (is_uncut net b v i) (replicas net i)
    uncut_same i li = ap (λ n. when (nat_lt 0 n) (replicas net i)) (sum_to_eq (members net) (λ m. when (not (a m) && not (u i (zone net m))) 1) (λ m. when (not (b m) && not (v i (zone net m))) 1)
        (λ m lm. ap (λ t. when (not t && not (u i (zone net m))) 1) (ab m lm) ∙ ap (λ t. when (not (b m) && not t) 1) (uv i (zone net m) li (ok.within m lm) (eq-eqb (zone net (zone net m)) (zone net m) (ok.first m lm)))))

-- the cut by names has the capacity of the cut by numbers
pub cut_same : (asked : Asked) → is_problem asked ≡ true → (s : Marks) → cut_capacity asked (cut_members asked s) (cut_zones asked s) ≡ capacity (net_of asked) (is_chosen s) (is_zone_chosen (net_of asked) s)
cut_same asked ok s = capacity_same (net_of asked) (net_ok asked ok) _ _ _ _ (λ m lm. members_agree asked ok s m lm) (λ i z li lz pz. zones_agree asked ok s i z li lz pz)

pub picks_more : {A : Type 0} (n : ℕ) (p : ℕ → Bool) (f : ℕ → A) → picks (n + 1) p f ≡ picks n p f ++ (if p n then f n ∷ [] else [])
picks_more n p f = rw add-one refl

pub gather_more : {A : Type 0} (n : ℕ) (f : ℕ → List A) → gather (n + 1) f ≡ gather n f ++ f n
gather_more n f = rw add-one refl

all_picks : {A : Type 0} (t : A → Bool) (n : ℕ) (p : ℕ → Bool) (f : ℕ → A) → ((k : ℕ) → k < n → t (f k) ≡ true) → list_all t (picks n p f) ≡ true
all_picks t zero p f h = refl
all_picks t (suc n) p f h =
    list_all-append t (picks n p f) (if p n then f n ∷ [] else [])
    ∙ and_from (list_all t (picks n p f)) (list_all t (if p n then f n ∷ [] else [])) (all_picks t n p f (λ k lt. h k (omega arith))) (last (p n))
  where
    last : (b : Bool) → list_all t (if b then f n ∷ [] else []) ≡ true
    last true = and_from (t (f n)) true (h n (omega arith)) refl
    last false = refl

all_gather : {A : Type 0} (t : A → Bool) (n : ℕ) (f : ℕ → List A) → ((i : ℕ) → i < n → list_all t (f i) ≡ true) → list_all t (gather n f) ≡ true
all_gather t zero f h = refl
all_gather t (suc n) f h =
    list_all-append t (gather n f) (f n) ∙ and_from (list_all t (gather n f)) (list_all t (f n)) (all_gather t n f (λ i lt. h i (omega arith))) (h n (omega arith))

-- the pairs of a table are of the problem's items and members
pub pairs_known : (asked : Asked) → is_problem asked ≡ true → (x : Cells) → list_all (is_known asked) (pairs_of asked x) ≡ true
pairs_known asked ok x = all_gather (is_known asked) (items (net_of asked)) _ (λ i li. all_picks (is_known asked) (members (net_of asked)) (x i) (λ m. (name_at (item_names asked) i, name_at (member_names asked) m)) (λ m lm. known i m li lm))
  where
    known : (i m : ℕ) → i < items (net_of asked) → m < members (net_of asked) → is_known asked (name_at (item_names asked) i, name_at (member_names asked) m) ≡ true
    known i m li lm = and_from (nat_lt (place_of (name_at (item_names asked) i) (item_names asked)) (items (net_of asked))) (nat_lt (place_of (name_at (member_names asked) m) (member_names asked)) (members (net_of asked)))
        (lt-ltb (place_of (name_at (item_names asked) i) (item_names asked)) (items (net_of asked)) (subst (λ k. k < items (net_of asked)) (sym (place_at (item_names asked) ((asked_facts asked ok).items_rise) (name_at (item_names asked) i) i (item_below asked i li) (same_itself (name_at (item_names asked) i)))) li))
        (lt-ltb (place_of (name_at (member_names asked) m) (member_names asked)) (members (net_of asked)) (subst (λ k. k < members (net_of asked)) (sym (place_at (member_names asked) ((asked_facts asked ok).members_rise) (name_at (member_names asked) m) m (member_below asked m lm) (same_itself (name_at (member_names asked) m)))) lm))

-- the pairs of a table that keeps the bounds are feasible, and as many
pub pairs_feasible : (asked : Asked) → is_problem asked ≡ true → (x : Cells) → Keeps (net_of asked) x → IsFeasibleOf asked (pairs_of asked x) (total (net_of asked) x)
pairs_feasible asked ok x keeps = (record { known = pairs_known asked ok x; keeps = agree_keeps (net_of asked) x (paired asked (pairs_of asked x)) (pairs_agree asked ok x) keeps }, pairs_size asked ok x)
  where
    pairs_size : (asked : Asked) → is_problem asked ≡ true → (x : Cells) → size asked (pairs_of asked x) ≡ total (net_of asked) x
    pairs_size asked ok x = sym (agree_total (net_of asked) x (paired asked (pairs_of asked x)) (pairs_agree asked ok x))

pub size_of_pairs : (asked : Asked) → is_problem asked ≡ true → (x : Cells) → size asked (pairs_of asked x) ≡ total (net_of asked) x
size_of_pairs asked ok x = sym (agree_total (net_of asked) x (paired asked (pairs_of asked x)) (pairs_agree asked ok x))

pub picks_pushed : {A : Type 0} (prefix now : List A) (n : ℕ) (p : ℕ → Bool) (f : ℕ → A) → p n ≡ true → now ≡ prefix ++ picks n p f → now ++ f n ∷ [] ≡ prefix ++ picks (n + 1) p f
picks_pushed prefix now n p f h e = ap (λ l. l ++ f n ∷ []) e ∙ append_assoc prefix (picks n p f) (f n ∷ []) ∙ ap (λ l. prefix ++ l) (sym (picks_more n p f ∙ ap (λ b. picks n p f ++ (if b then f n ∷ [] else [])) h))

pub picks_passed : {A : Type 0} (prefix now : List A) (n : ℕ) (p : ℕ → Bool) (f : ℕ → A) → p n ≡ false → now ≡ prefix ++ picks n p f → now ≡ prefix ++ picks (n + 1) p f
picks_passed prefix now n p f h e = e ∙ ap (λ l. prefix ++ l) (sym (picks_more n p f ∙ ap (λ b. picks n p f ++ (if b then f n ∷ [] else [])) h ∙ append_nil (picks n p f)))
  where
    append_nil : {A : Type 0} (l : List A) → l ++ [] ≡ l
    append_nil [] = refl
    append_nil (x ∷ xs) = ap (λ l. x ∷ l) (append_nil xs)
