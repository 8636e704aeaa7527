-- Greedy tables: what is taken and what is refused, and that what was taken is taken again in another order.
use Rattle.std.proofs.Common.{◌≡◌, ℕ, ◌+◌, ◌*◌, ◌<◌, ◌≤◌, ◌≢◌, ◌⊎◌, Bool, true, false, not, ◌&&◌, ◌==◌, List, [], ◌∷◌, nat_lt, refl, ap, ◌∙◌, sym, subst, arith, inl, inr, ⊎_elim, cond, length-set, true≢false}
use Prim.Native.Nat.{zero, suc}
use Rattle.std.specs.Prelude.{⊤}
use Rattle.std.proofs.lemmas.Bool.{cases_eq, and_parts, and_from, ltb-true, lt-ltb, eq-eqb}
use Rattle.gz_alloc.specs.Sums.{when, count_to}
use Rattle.gz_alloc.specs.Flow.{Net, IsNet, IsTable, Cells, Keeps, items, members, replicas, limit, zone, row, load, in_zone, zone_bound, cells_of, set_cell}
use Rattle.gz_alloc.specs.Names.{fits, add_where_fits}
use Rattle.gz_alloc.proofs.SumLemmas.{sum_to_le}
use Rattle.gz_alloc.proofs.Counts.{differs_set}

abbrev pub Cell : Type 0
Cell = ℕ × ℕ

-- the pairs of one table are pairs of the other
abbrev pub IsPart : Net → Cells → Cells → Type 0
IsPart net x y = (i m : ℕ) → i < items net → m < members net → x i m ≡ true → y i m ≡ true

-- ---- counts of a part

when_part : (a b : Bool) → (a ≡ true → b ≡ true) → when a 1 ≤ when b 1
when_part true true h = omega arith
when_part true false h = absurd (true≢false (sym (h refl)))
when_part false true h = omega arith
when_part false false h = omega arith

pub count_part : (n : ℕ) (p q : ℕ → Bool) → ((k : ℕ) → k < n → p k ≡ true → q k ≡ true) → count_to n p ≤ count_to n q
count_part n p q h = sum_to_le n (λ k. when (p k) 1) (λ k. when (q k) 1) (λ k lk. when_part (p k) (q k) (h k lk))

pub count_less : (n : ℕ) (p q : ℕ → Bool) (j : ℕ) → ((k : ℕ) → k < n → p k ≡ true → q k ≡ true) → j < n → p j ≡ false → q j ≡ true → count_to n p + 1 ≤ count_to n q
count_less zero p q j h lj absent wanted = absurd (omega (arith, lj))
count_less (suc n) p q j h lj absent wanted = ⊎_elim here (there (λ lt. count_less n p q j below lt absent wanted)) (cases_eq j n)
  where
    below : (k : ℕ) → k < n → p k ≡ true → q k ≡ true
    below k lk = h k (omega (arith, lk))

    here : j ≡ n → count_to (suc n) p + 1 ≤ count_to (suc n) q
    here e =
        let front : count_to n p ≤ count_to n q = count_part n p q below in
        let none : when (p n) 1 ≡ 0 = ap (λ b. when b 1) (ap p (sym e) ∙ absent) in
        let one : when (q n) 1 ≡ 1 = ap (λ b. when b 1) (ap q (sym e) ∙ wanted) in
        omega (arith, front, none, one)

    there : (j < n → count_to n p + 1 ≤ count_to n q) → j ≢ n → count_to (suc n) p + 1 ≤ count_to (suc n) q
    there rest ne =
        let front : count_to n p + 1 ≤ count_to n q = rest (omega (arith, lj, ne)) in
        let last : when (p n) 1 ≤ when (q n) 1 = when_part (p n) (q n) (h n (omega arith)) in
        omega (arith, front, last)

-- ---- what fits

pub record Fits (net : Net) (x : Cells) (i m : ℕ) : Type 0 where
  pub missing : x i m ≡ false
  pub row : row net x i < replicas net i
  pub load : load net x m < limit net m
  pub zone : in_zone net x i (zone net m) < zone_bound (replicas net i)

not_true : (b : Bool) → not b ≡ true → b ≡ false
not_true true h = sym h
not_true false h = refl

not_false : (b : Bool) → b ≡ false → not b ≡ true
not_false true h = sym h
not_false false h = refl

fits_facts : (net : Net) (x : Cells) (i m : ℕ) → fits net x i m ≡ true → Fits net x i m
fits_facts net x i m h =
    let z : Bool = nat_lt (in_zone net x i (zone net m)) (zone_bound (replicas net i)) in
    let l : Bool = nat_lt (load net x m) (limit net m) in
    let r : Bool = nat_lt (row net x i) (replicas net i) in
    let one = and_parts (not (x i m)) (r && (l && z)) h in
    let two = and_parts r (l && z) one.1 in
    let three = and_parts l z two.1 in
    record {
      missing = not_true (x i m) one.0;
      row = ltb-true (row net x i) (replicas net i) two.0;
      load = ltb-true (load net x m) (limit net m) three.0;
      zone = ltb-true (in_zone net x i (zone net m)) (zone_bound (replicas net i)) three.1;
    }

fits_from : (net : Net) (x : Cells) (i m : ℕ) → Fits net x i m → fits net x i m ≡ true
fits_from net x i m f =
    let z : Bool = nat_lt (in_zone net x i (zone net m)) (zone_bound (replicas net i)) in
    let l : Bool = nat_lt (load net x m) (limit net m) in
    let r : Bool = nat_lt (row net x i) (replicas net i) in
    and_from (not (x i m)) (r && (l && z)) (not_false (x i m) f.missing)
    (and_from r (l && z) (lt-ltb (row net x i) (replicas net i) f.row)
    (and_from l z (lt-ltb (load net x m) (limit net m) f.load) (lt-ltb (in_zone net x i (zone net m)) (zone_bound (replicas net i)) f.zone)))

and_more : (a b c : Bool) → (a ≡ true → b ≡ true) → (a && c) ≡ true → (b && c) ≡ true
and_more a b c h e = let two = and_parts a c e in and_from b c (h two.0) two.1

absent_from : (a b : Bool) → (a ≡ true → b ≡ true) → b ≡ false → a ≡ false
absent_from true b h absent = absurd (true≢false (sym (h refl) ∙ absent))
absent_from false b h absent = refl

lower : (a b c : ℕ) → a ≤ b → b < c → a < c
lower a b c p q = omega arith

-- what fits beside more fits beside a part
fits_down : (net : Net) (x y : Cells) → IsPart net x y → (i m : ℕ) → i < items net → m < members net → Fits net y i m → Fits net x i m
fits_down net x y part i m li lm f = record {
  missing = absent_from (x i m) (y i m) (part i m li lm) f.missing;
  row = lower (row net x i) (row net y i) (replicas net i) (count_part (members net) (x i) (y i) (λ n ln. part i n li ln)) f.row;
  load = lower (load net x m) (load net y m) (limit net m) (count_part (items net) (λ j. x j m) (λ j. y j m) (λ j lj. part j m lj lm)) f.load;
  zone = lower (in_zone net x i (zone net m)) (in_zone net y i (zone net m)) (zone_bound (replicas net i))
      (count_part (members net) (λ n. x i n && (zone net n == zone net m)) (λ n. y i n && (zone net n == zone net m))
      (λ n ln. and_more (x i n) (y i n) (zone net n == zone net m) (part i n li ln))) f.zone;
}

-- what doesn't fit beside a part doesn't fit beside more
pub refused_up : (net : Net) (x y : Cells) → IsPart net x y → (i m : ℕ) → i < items net → m < members net → fits net x i m ≡ false → fits net y i m ≡ false
refused_up net x y part i m li lm absent = at (fits net y i m) refl
  where
    at : (b : Bool) → fits net y i m ≡ b → fits net y i m ≡ false
    at true wanted = absurd (true≢false (sym (fits_from net x i m (fits_down net x y part i m li lm (fits_facts net y i m wanted))) ∙ absent))
    at false e = e

step_lower : (a b c : ℕ) → a + 1 ≤ b → b ≤ c → a < c
step_lower a b c p q = omega arith

-- a pair of a table that keeps the bounds fits beside its others
fits_within : (net : Net) (x t : Cells) → IsPart net x t → Keeps net t → (i m : ℕ) → i < items net → m < members net → x i m ≡ false → t i m ≡ true → fits net x i m ≡ true
fits_within net x t part keeps i m li lm absent wanted = fits_from net x i m (record {
  missing = absent;
  row = step_lower (row net x i) (row net t i) (replicas net i) (count_less (members net) (x i) (t i) m (λ n ln. part i n li ln) lm absent wanted) (keeps.rows i li);
  load = step_lower (load net x m) (load net t m) (limit net m) (count_less (items net) (λ j. x j m) (λ j. t j m) i (λ j lj. part j m lj lm) li absent wanted) (keeps.loads m lm);
  zone = step_lower (in_zone net x i (zone net m)) (in_zone net t i (zone net m)) (zone_bound (replicas net i))
      (count_less (members net) (λ n. x i n && (zone net n == zone net m)) (λ n. t i n && (zone net n == zone net m)) m
      (λ n ln. and_more (x i n) (t i n) (zone net n == zone net m) (part i n li ln)) lm
      (ap (λ b. b && (zone net m == zone net m)) absent) (and_from (t i m) (zone net m == zone net m) wanted (eq-eqb (zone net m) (zone net m) refl)))
      (keeps.zones i m li lm);
})

-- ---- one pair more

abbrev pub add : Net → List Bool → Cell → List Bool
add net x c = add_where_fits net x c.0 c.1

pub record Added (net : Net) (x : List Bool) (c : Cell) : Type 0 where
  pub table : IsTable net (add net x c)
  pub grows : IsPart net (cells_of x) (cells_of (add net x c))
  pub new : (j n : ℕ) → j < items net → n < members net → cells_of (add net x c) j n ≡ true → (cells_of x j n ≡ true) ⊎ ((j ≡ c.0) × (n ≡ c.1))
  pub taken : fits net (cells_of x) c.0 c.1 ≡ true → cells_of (add net x c) c.0 c.1 ≡ true
  pub same : fits net (cells_of x) c.0 c.1 ≡ false → add net x c ≡ x

added : (net : Net) → IsNet net → (x : List Bool) → IsTable net x → (c : Cell) → c.0 < items net → c.1 < members net → Added net x c
added net ok x table c li lm = at (fits net (cells_of x) c.0 c.1) refl
  where
    y : List Bool
    y = set_cell x c.0 c.1 true

    put : fits net (cells_of x) c.0 c.1 ≡ true → add net x c ≡ y
    put h = ap (λ b. cond b y x) h

    keep : fits net (cells_of x) c.0 c.1 ≡ false → add net x c ≡ x
    keep h = ap (λ b. cond b y x) h

    at : (b : Bool) → fits net (cells_of x) c.0 c.1 ≡ b → Added net x c
    at false h = record {
      table = subst (λ f. IsTable net f) (sym (keep h)) table;
      grows = λ j n lj ln e. subst (λ f. cells_of f j n ≡ true) (sym (keep h)) e;
      new = λ j n lj ln e. inl (subst (λ f. cells_of f j n ≡ true) (keep h) e);
      taken = λ wanted. absurd (true≢false (sym wanted ∙ h));
      same = keep;
    }
    at true h =
        let d = differs_set net x ok table c.0 c.1 false true li lm ((fits_facts net (cells_of x) c.0 c.1 h).missing) in
        record {
          table = subst (λ f. IsTable net f) (sym (put h)) (length-set x (64 * c.0 + c.1) true ∙ table);
          grows = λ j n lj ln e. subst (λ f. cells_of f j n ≡ true) (sym (put h)) (⊎_elim
              (λ (s : j ≡ c.0). ⊎_elim (λ (t : n ≡ c.1). subst (λ k. cells_of y k n ≡ true) (sym s) (subst (λ k. cells_of y c.0 k ≡ true) (sym t) d.after))
              (λ (ne : n ≢ c.1). d.others j n ln (λ _ t. ne t) ∙ e) (cases_eq n c.1))
              (λ (ne : j ≢ c.0). d.others j n ln (λ s _. ne s) ∙ e) (cases_eq j c.0));
          new = λ j n lj ln e. let f : cells_of y j n ≡ true = subst (λ f. cells_of f j n ≡ true) (put h) e in ⊎_elim
              (λ (s : j ≡ c.0). ⊎_elim (λ (t : n ≡ c.1). inr (s, t)) (λ (ne : n ≢ c.1). inl (sym (d.others j n ln (λ _ t. ne t)) ∙ f)) (cases_eq n c.1))
              (λ (ne : j ≢ c.0). inl (sym (d.others j n ln (λ s _. ne s)) ∙ f)) (cases_eq j c.0);
          taken = λ wanted. subst (λ f. cells_of f c.0 c.1 ≡ true) (sym (put h)) d.after;
          same = λ absent. absurd (true≢false (sym h ∙ absent));
        }

-- ---- pairs one after another

abbrev pub run : Net → List Cell → List Bool → List Bool
run net [] x = x
run net (c ∷ cs) x = run net cs (add net x c)

abbrev pub IsIn : ℕ → ℕ → List Cell → Type 0
IsIn i m [] = ⊥
IsIn i m (c ∷ cs) = ((i ≡ c.0) × (m ≡ c.1)) ⊎ IsIn i m cs

abbrev pub place : Cell → ℕ
place c = 64 * c.0 + c.1

abbrev pub IsAbove : ℕ → List Cell → Type 0
IsAbove n [] = ⊤
IsAbove n (c ∷ cs) = (n < place c) × IsAbove n cs

-- the pairs are of the net, and each is behind those before it
abbrev pub Ascend : Net → List Cell → Type 0
Ascend net [] = ⊤
Ascend net (c ∷ cs) = (c.0 < items net) × (c.1 < members net) × IsAbove (place c) cs × Ascend net cs

same_place : (i m a b : ℕ) → i ≡ a → m ≡ b → 64 * i + m ≡ 64 * a + b
same_place i m a b p q = omega arith

above_in : (n : ℕ) (cs : List Cell) (i m : ℕ) → IsAbove n cs → IsIn i m cs → n < 64 * i + m
above_in n [] i m above here = absurd here
above_in n (c ∷ cs) i m above (inl e) = let same : 64 * i + m ≡ place c = same_place i m c.0 c.1 e.0 e.1 in let less : n < place c = above.0 in omega (arith, same, less)
above_in n (c ∷ cs) i m above (inr there) = above_in n cs i m above.1 there

-- a table beside which the pair didn't fit
pub record Refusal (net : Net) (x s : List Bool) (i m : ℕ) : Type 0 where
  pub before : List Bool
  pub part : IsPart net (cells_of before) (cells_of s)
  pub full : fits net (cells_of before) i m ≡ false
  pub earlier : (j n : ℕ) → j < items net → n < members net → cells_of before j n ≡ true → (cells_of x j n ≡ true) ⊎ (64 * j + n < 64 * i + m)

pub record Ran (net : Net) (x s : List Bool) (cs : List Cell) : Type 0 where
  pub table : IsTable net s
  pub grows : IsPart net (cells_of x) (cells_of s)
  pub from : (j n : ℕ) → j < items net → n < members net → cells_of s j n ≡ true → (cells_of x j n ≡ true) ⊎ IsIn j n cs
  pub refuses : (i m : ℕ) → IsIn i m cs → cells_of s i m ≡ false → Refusal net x s i m

ran_next : (net : Net) → (c : Cell) (cs : List Cell) → Ascend net (c ∷ cs) → (x : List Bool) → Added net x c → Ran net (add net x c) (run net cs (add net x c)) cs → Ran net x (run net cs (add net x c)) (c ∷ cs)
ran_next net c cs up x one rest = record {
  table = rest.table;
  grows = λ i m li lm e. rest.grows i m li lm (one.grows i m li lm e);
  from = λ j n lj ln e. ⊎_elim (λ (f : cells_of (add net x c) j n ≡ true). ⊎_elim (λ (g : cells_of x j n ≡ true). inl g) (λ (g : (j ≡ c.0) × (n ≡ c.1)). inr (inl g)) (one.new j n lj ln f)) (λ (f : IsIn j n cs). inr (inr f)) (rest.from j n lj ln e);
  refuses = refuses;
}
  where
    s : List Bool
    s = run net cs (add net x c)

    whole : IsPart net (cells_of x) (cells_of s)
    whole = λ i m li lm e. rest.grows i m li lm (one.grows i m li lm e)

    head_fits : (b : Bool) → fits net (cells_of x) c.0 c.1 ≡ b → cells_of s c.0 c.1 ≡ false → fits net (cells_of x) c.0 c.1 ≡ false
    head_fits true h absent = absurd (true≢false (sym (rest.grows c.0 c.1 up.0 up.1 (one.taken h)) ∙ absent))
    head_fits false h absent = h

    head : cells_of s c.0 c.1 ≡ false → Refusal net x s c.0 c.1
    head absent = record { before = x; part = whole; full = head_fits (fits net (cells_of x) c.0 c.1) refl absent; earlier = λ j n lj ln e. inl e }

    later : (i m : ℕ) → IsIn i m cs → Refusal net (add net x c) s i m → Refusal net x s i m
    later i m there r = record {
      before = r.before;
      part = r.part;
      full = r.full;
      earlier = λ j n lj ln e. ⊎_elim (λ (f : cells_of (add net x c) j n ≡ true). ⊎_elim (λ (g : cells_of x j n ≡ true). inl g)
          (λ (g : (j ≡ c.0) × (n ≡ c.1)). let same : 64 * j + n ≡ place c = same_place j n c.0 c.1 g.0 g.1 in let less : place c < 64 * i + m = above_in (place c) cs i m up.2 there in inr (omega (arith, same, less)))
          (one.new j n lj ln f))
          (λ (f : 64 * j + n < 64 * i + m). inr f) (r.earlier j n lj ln e);
    }

    refuses : (i m : ℕ) → IsIn i m (c ∷ cs) → cells_of s i m ≡ false → Refusal net x s i m
    refuses i m (inl e) absent = subst (λ k. Refusal net x s k m) (sym e.0) (subst (λ k. Refusal net x s c.0 k) (sym e.1) (head (subst (λ k. cells_of s c.0 k ≡ false) e.1 (subst (λ k. cells_of s k m ≡ false) e.0 absent))))
    refuses i m (inr there) absent = later i m there (rest.refuses i m there absent)

pub ran : (net : Net) → IsNet net → (cs : List Cell) → Ascend net cs → (x : List Bool) → IsTable net x → Ran net x (run net cs x) cs
ran net ok [] up x table = record { table = table; grows = λ i m li lm e. e; from = λ j n lj ln e. inl e; refuses = λ i m here absent. absurd here }
ran net ok (c ∷ cs) up x table =
    let one = added net ok x table c up.0 up.1 in
    ran_next net c cs up x one (ran net ok cs up.3 (add net x c) one.table)

-- ---- a table that is come to

-- the table has each pair that is in x, or stands in cs before the pair
abbrev pub HasEarlier : Net → Cells → List Bool → List Cell → List Bool → ℕ → ℕ → Type 0
HasEarlier net t x cs z i m = (j n : ℕ) → j < items net → n < members net → t j n ≡ true → (cells_of x j n ≡ true) ⊎ (IsIn j n cs × (64 * j + n < 64 * i + m)) → cells_of z j n ≡ true

-- a pair that isn't in t doesn't fit beside the pairs of t that come before it
abbrev pub Refuses : Net → Cells → List Bool → List Cell → Type 0
Refuses net t x cs = (i m : ℕ) → IsIn i m cs → t i m ≡ false → (z : List Bool) → IsPart net (cells_of z) t → HasEarlier net t x cs z i m → fits net (cells_of z) i m ≡ false

pub record Reached (net : Net) (t : Cells) (x s : List Bool) (cs : List Cell) : Type 0 where
  pub table : IsTable net s
  pub part : IsPart net (cells_of s) t
  pub has : (j n : ℕ) → j < items net → n < members net → t j n ≡ true → (cells_of x j n ≡ true) ⊎ IsIn j n cs → cells_of s j n ≡ true

pub reached : (net : Net) → IsNet net → (t : Cells) → Keeps net t → (cs : List Cell) → Ascend net cs → (x : List Bool) → IsTable net x → IsPart net (cells_of x) t → Refuses net t x cs → Reached net t x (run net cs x) cs
reached net ok t keeps [] up x table part refuses = record { table = table; part = part; has = λ j n lj ln e h. ⊎_elim (λ (f : cells_of x j n ≡ true). f) (λ (f : ⊥). absurd f) h }
reached net ok t keeps (c ∷ cs) up x table part refuses =
    after (reached net ok t keeps cs up.3 y one.table (at (t c.0 c.1) refl) (λ i m there absent z within had. refuses i m (inr there) absent z within (more z i m had)))
  where
    one : Added net x c
    one = added net ok x table c up.0 up.1

    y : List Bool
    y = add net x c

    -- the pair is taken where the table has it
    takes : (b : Bool) → cells_of x c.0 c.1 ≡ b → t c.0 c.1 ≡ true → cells_of y c.0 c.1 ≡ true
    takes true here wanted = one.grows c.0 c.1 up.0 up.1 here
    takes false none wanted = one.taken (fits_within net (cells_of x) t part keeps c.0 c.1 up.0 up.1 none wanted)

    head_in : (j n : ℕ) → j < items net → n < members net → t j n ≡ true → (j ≡ c.0) × (n ≡ c.1) → cells_of y j n ≡ true
    head_in j n lj ln e g = subst (λ k. cells_of y k n ≡ true) (sym g.0) (subst (λ k. cells_of y c.0 k ≡ true) (sym g.1) (takes (cells_of x c.0 c.1) refl (subst (λ k. t c.0 k ≡ true) g.1 (subst (λ k. t k n ≡ true) g.0 e))))

    -- and refused where it hasn't
    none_earlier : HasEarlier net t x (c ∷ cs) x c.0 c.1
    none_earlier j n lj ln e (inl f) = f
    none_earlier j n lj ln e (inr (inl g, less)) = let same : 64 * j + n ≡ place c = same_place j n c.0 c.1 g.0 g.1 in absurd (omega (arith, same, less))
    none_earlier j n lj ln e (inr (inr there, less)) = let more : place c < 64 * j + n = above_in (place c) cs j n up.2 there in absurd (omega (arith, more, less))

    at : (b : Bool) → t c.0 c.1 ≡ b → IsPart net (cells_of y) t
    at true wanted = λ j n lj ln e. ⊎_elim (λ (f : cells_of x j n ≡ true). part j n lj ln f) (λ (g : (j ≡ c.0) × (n ≡ c.1)). subst (λ k. t k n ≡ true) (sym g.0) (subst (λ k. t c.0 k ≡ true) (sym g.1) wanted)) (one.new j n lj ln e)
    at false absent = λ j n lj ln e. part j n lj ln (subst (λ f. cells_of f j n ≡ true) (one.same (refuses c.0 c.1 (inl (refl, refl)) absent x part none_earlier)) e)

    more : (z : List Bool) (i m : ℕ) → HasEarlier net t y cs z i m → HasEarlier net t x (c ∷ cs) z i m
    more z i m had j n lj ln e (inl f) = had j n lj ln e (inl (one.grows j n lj ln f))
    more z i m had j n lj ln e (inr (inl g, less)) = had j n lj ln e (inl (head_in j n lj ln e g))
    more z i m had j n lj ln e (inr (inr there, less)) = had j n lj ln e (inr (there, less))

    after : Reached net t y (run net cs y) cs → Reached net t x (run net cs y) (c ∷ cs)
    after rest = record {
      table = rest.table;
      part = rest.part;
      has = λ j n lj ln e h. ⊎_elim (λ (f : cells_of x j n ≡ true). rest.has j n lj ln e (inl (one.grows j n lj ln f)))
          (λ (f : ((j ≡ c.0) × (n ≡ c.1)) ⊎ IsIn j n cs). ⊎_elim (λ (g : (j ≡ c.0) × (n ≡ c.1)). rest.has j n lj ln e (inl (head_in j n lj ln e g))) (λ (g : IsIn j n cs). rest.has j n lj ln e (inr g)) f) h;
    }

-- ---- two passes

-- The table t of two passes over cs and all is come to over ds and all, where ds has those of t that cs has, and nothing
-- that neither cs nor t has.
pub two_passes : (net : Net) → IsNet net → (none : List Bool) → IsTable net none → ((i m : ℕ) → cells_of none i m ≡ false) → (cs ds all : List Cell)
    → Ascend net cs → Ascend net ds → Ascend net all → ((i m : ℕ) → i < items net → m < members net → IsIn i m all)
    → Keeps net (cells_of (run net all (run net cs none)))
    → ((i m : ℕ) → IsIn i m ds → cells_of (run net all (run net cs none)) i m ≡ false → IsIn i m cs)
    → ((i m : ℕ) → IsIn i m cs → cells_of (run net all (run net cs none)) i m ≡ true → IsIn i m ds)
    → (i m : ℕ) → i < items net → m < members net → (cells_of (run net all (run net cs none)) i m ≡ true → cells_of (run net all (run net ds none)) i m ≡ true)
    × (cells_of (run net all (run net ds none)) i m ≡ true → cells_of (run net all (run net cs none)) i m ≡ true)
two_passes net ok none table empty cs ds all cs_up ds_up all_up each keeps came stays i m li lm = (
  λ e. last.has i m li lm e (inr (each i m li lm)),
  λ e. last.part i m li lm e,
)
  where
    s : List Bool
    s = run net cs none

    t : Cells
    t = cells_of (run net all s)

    first : Ran net none s cs
    first = ran net ok cs cs_up none table

    second : Ran net s (run net all s) all
    second = ran net ok all all_up s first.table

    nothing : (j n : ℕ) → cells_of none j n ≡ true → ⊥
    nothing j n e = true≢false (sym e ∙ empty j n)

    kept_in : (j n : ℕ) → j < items net → n < members net → t j n ≡ true → cells_of s j n ≡ true → IsIn j n ds
    kept_in j n lj ln e f = ⊎_elim (λ (g : cells_of none j n ≡ true). absurd (nothing j n g)) (λ (g : IsIn j n cs). stays j n g e) (first.from j n lj ln f)

    bound : (cs : List Cell) (i m : ℕ) → Ascend net cs → IsIn i m cs → (i < items net) × (m < members net)
    bound [] i m up here = absurd here
    bound (c ∷ cs) i m up (inl e) = (subst (λ k. k < items net) (sym e.0) up.0, subst (λ k. k < members net) (sym e.1) up.1)
    bound (c ∷ cs) i m up (inr there) = bound cs i m up.3 there

    gone : (j n : ℕ) → j < items net → n < members net → t j n ≡ false → (b : Bool) → cells_of s j n ≡ b → cells_of s j n ≡ false
    gone j n lj ln absent true e = absurd (true≢false (sym (second.grows j n lj ln e) ∙ absent))
    gone j n lj ln absent false e = e

    refuses_first : Refuses net t none ds
    refuses_first j n here absent z within had =
        let lim = bound ds j n ds_up here in
        let r = first.refuses j n (came j n here absent) (gone j n lim.0 lim.1 absent (cells_of s j n) refl) in
        refused_up net (cells_of r.before) (cells_of z) (λ a b la lb e.
        let f : cells_of s a b ≡ true = r.part a b la lb e in
        let wanted : t a b ≡ true = second.grows a b la lb f in
        had a b la lb wanted (⊎_elim (λ (g : cells_of none a b ≡ true). inl g) (λ (g : 64 * a + b < 64 * j + n). inr (kept_in a b la lb wanted f, g)) (r.earlier a b la lb e)))
        j n lim.0 lim.1 r.full

    again : Reached net t none (run net ds none) ds
    again = reached net ok t keeps ds ds_up none table (λ j n lj ln e. absurd (nothing j n e)) refuses_first

    refuses_second : Refuses net t (run net ds none) all
    refuses_second j n here absent z within had =
        let lim = bound all j n all_up here in
        let r = second.refuses j n here absent in
        refused_up net (cells_of r.before) (cells_of z) (λ a b la lb e.
        let wanted : t a b ≡ true = r.part a b la lb e in
        had a b la lb wanted (⊎_elim (λ (g : cells_of s a b ≡ true). inl (again.has a b la lb wanted (inr (kept_in a b la lb wanted g)))) (λ (g : 64 * a + b < 64 * j + n). inr (each a b la lb, g)) (r.earlier a b la lb e)))
        j n lim.0 lim.1 r.full

    last : Reached net t (run net ds none) (run net all (run net ds none)) all
    last = reached net ok t keeps all all_up (run net ds none) again.table again.part refuses_second
