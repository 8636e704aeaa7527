-- The counts of a table that grows.
use Rattle.std.proofs.Common.{◌≡◌, ℕ, ◌+◌, ◌*◌, ◌<◌, ◌≤◌, ◌≢◌, ◌⊎◌, Bool, true, false, not, ◌&&◌, ◌==◌, List, length, replicate, get_or, set, nat_lt, refl, ap, ◌∙◌, sym, subst, arith, inl, inr, ⊎_elim, length-set, get_or-set_same, get_or-set_other}
use Prim.Native.Nat.{zero, suc}
use Rattle.std.proofs.lemmas.List.{length-replicate}
use Rattle.std.proofs.lemmas.Bool.{cases_eq, and_parts, eq-eqb, ne_eqb}
use Rattle.gz_alloc.specs.Sums.{when}
use Rattle.gz_alloc.specs.Flow.{Net, IsNet, Cells, items, members, replicas, limit, zone, row, load, in_zone, zone_bound, Differs, cells_of, set_cell}
use Rattle.gz_alloc.specs.Names.{fits}
use Rattle.gz_alloc.specs.Tally.{Tallied, IsTally, added, no_tally}
use Rattle.gz_alloc.proofs.SumLemmas.{sum_to_zero, count_to_le}
use Rattle.gz_alloc.proofs.Counts.{row_other, row_at, load_other, load_at, in_zone_other, in_zone_at, differs_set}
use Rattle.gz_alloc.proofs.TableLemmas.{no_cells}

alike : (n d j : ℕ) → get_or (replicate n d) j d ≡ d
alike zero d j = refl
alike (suc n) d zero = refl
alike (suc n) d (suc j) = alike n d j

-- no pairs
pub tally_none : (net : Net) → IsTally net (no_tally (items net) (members net))
tally_none net = record {
  table = length-replicate (64 * items net) false;
  each_row = length-replicate (items net) 0;
  each_load = length-replicate (members net) 0;
  each_share = length-replicate (64 * items net) 0;
  rows = λ i li. alike (items net) 0 i ∙ sym (sum_to_zero (members net) (λ m. when (x i m) 1) (λ m lm. ap (λ b. when b 1) (no_cells (64 * items net) i m)));
  loads = λ m lm. alike (members net) 0 m ∙ sym (sum_to_zero (items net) (λ i. when (x i m) 1) (λ i li. ap (λ b. when b 1) (no_cells (64 * items net) i m)));
  shares = λ i z li lz. alike (64 * items net) 0 (64 * i + z)
      ∙ sym (sum_to_zero (members net) (λ n. when (x i n && (zone net n == z)) 1) (λ n ln. ap (λ b. when (b && (zone net n == z)) 1) (no_cells (64 * items net) i n)));
}
  where
    x : Cells
    x = cells_of (replicate (64 * items net) false)

-- the place of an item's count in a zone
pub share_within : (net : Net) (t : Tallied) → IsNet net → IsTally net t → (i m : ℕ) → i < items net → m < members net → 64 * i + zone net m < length t.shares
share_within net t ok tally i m li lm = within i (items net) (length t.shares) (zone net m) (members net) li tally.each_share (ok.within m lm) ok.few_members
  where
    within : (a n l b k : ℕ) → a < n → l ≡ 64 * n → b < k → k ≤ 64 → 64 * a + b < l
    within a n l b k p q r s = omega arith

-- a pair that fits isn't there yet
pub fits_missing : (net : Net) (x : Cells) (i m : ℕ) → fits net x i m ≡ true → x i m ≡ false
fits_missing net x i m h =
    not_false (x i m) ((and_parts (not (x i m)) (nat_lt (row net x i) (replicas net i) && (nat_lt (load net x m) (limit net m) && nat_lt (in_zone net x i (zone net m)) (zone_bound (replicas net i)))) h).0)
  where
    not_false : (b : Bool) → not b ≡ true → b ≡ false
    not_false true h = sym h
    not_false false h = refl

-- whether a pair fits, by the counts
pub fits_by_counts : (net : Net) (t : Tallied) → IsNet net → IsTally net t → (i m : ℕ) → i < items net → m < members net → cells_of t.flags i m ≡ false →
    fits net (cells_of t.flags) i m ≡ (nat_lt (get_or t.rows i 0) (replicas net i) && (nat_lt (get_or t.loads m 0) (limit net m) && nat_lt (get_or t.shares (64 * i + zone net m) 0) (zone_bound (replicas net i))))
fits_by_counts net t ok tally i m li lm missing =
    ap (λ b. not b && (nat_lt (row net (cells_of t.flags) i) (replicas net i) && (nat_lt (load net (cells_of t.flags) m) (limit net m) && nat_lt (in_zone net (cells_of t.flags) i (zone net m)) (zone_bound (replicas net i))))) missing
    ∙ ap (λ n. nat_lt n (replicas net i) && (nat_lt (load net (cells_of t.flags) m) (limit net m) && nat_lt (in_zone net (cells_of t.flags) i (zone net m)) (zone_bound (replicas net i)))) (sym (tally.rows i li))
    ∙ ap (λ n. nat_lt (get_or t.rows i 0) (replicas net i) && (nat_lt n (limit net m) && nat_lt (in_zone net (cells_of t.flags) i (zone net m)) (zone_bound (replicas net i)))) (sym (tally.loads m lm))
    ∙ ap (λ n. nat_lt (get_or t.rows i 0) (replicas net i) && (nat_lt (get_or t.loads m 0) (limit net m) && nat_lt n (zone_bound (replicas net i)))) (sym (tally.shares i (zone net m) li (ok.within m lm)))

few : (a b k : ℕ) → a ≡ b → b ≤ k → k ≤ 1024 → a ≤ 1024
few a b k p q r = omega arith

-- no count is great
pub few_row : (net : Net) (t : Tallied) → IsNet net → IsTally net t → (i : ℕ) → i < items net → get_or t.rows i 0 ≤ 1024
few_row net t ok tally i li = few (get_or t.rows i 0) (row net (cells_of t.flags) i) (members net) (tally.rows i li) (count_to_le (members net) (λ m. cells_of t.flags i m)) (wide (members net) ok.few_members)
  where
    wide : (k : ℕ) → k ≤ 64 → k ≤ 1024
    wide k p = omega arith

pub few_load : (net : Net) (t : Tallied) → IsNet net → IsTally net t → (m : ℕ) → m < members net → get_or t.loads m 0 ≤ 1024
few_load net t ok tally m lm = few (get_or t.loads m 0) (load net (cells_of t.flags) m) (items net) (tally.loads m lm) (count_to_le (items net) (λ i. cells_of t.flags i m)) ok.few_items

pub few_share : (net : Net) (t : Tallied) → IsNet net → IsTally net t → (i z : ℕ) → i < items net → z < members net → get_or t.shares (64 * i + z) 0 ≤ 1024
few_share net t ok tally i z li lz =
    few (get_or t.shares (64 * i + z) 0) (in_zone net (cells_of t.flags) i z) (members net) (tally.shares i z li lz) (count_to_le (members net) (λ m. cells_of t.flags i m && (zone net m == z))) (wide (members net) ok.few_members)
  where
    wide : (k : ℕ) → k ≤ 64 → k ≤ 1024
    wide k p = omega arith

-- one pair more
pub tally_added : (net : Net) (t : Tallied) → IsNet net → IsTally net t → (i m : ℕ) → i < items net → m < members net → cells_of t.flags i m ≡ false → IsTally net (added t i m (zone net m))
tally_added net t ok tally i m li lm missing = record {
  table = length-set t.flags (64 * i + m) true ∙ tally.table;
  each_row = length-set t.rows i (get_or t.rows i 0 + 1) ∙ tally.each_row;
  each_load = length-set t.loads m (get_or t.loads m 0 + 1) ∙ tally.each_load;
  each_share = length-set t.shares (64 * i + zm) (get_or t.shares (64 * i + zm) 0 + 1) ∙ tally.each_share;
  rows = λ j lj. ⊎_elim
      (λ (e : j ≡ i). subst (λ k. get_or (set t.rows i (get_or t.rows i 0 + 1)) k 0 ≡ row net y k) (sym e)
      (get_or-set_same t.rows i (get_or t.rows i 0 + 1) 0 (below i (items net) (length t.rows) tally.each_row li) ∙ up (get_or t.rows i 0) (row net x i) (row net y i) 1 (tally.rows i li) refl (row_at net x y i m false true d)))
      (λ (ne : j ≢ i). get_or-set_other t.rows i j (get_or t.rows i 0 + 1) 0 ne ∙ tally.rows j lj ∙ sym (row_other net x y i m false true d j ne))
      (cases_eq j i);
  loads = λ n ln. ⊎_elim
      (λ (e : n ≡ m). subst (λ k. get_or (set t.loads m (get_or t.loads m 0 + 1)) k 0 ≡ load net y k) (sym e)
      (get_or-set_same t.loads m (get_or t.loads m 0 + 1) 0 (below m (members net) (length t.loads) tally.each_load lm) ∙ up (get_or t.loads m 0) (load net x m) (load net y m) 1 (tally.loads m lm) refl (load_at net x y i m false true d)))
      (λ (ne : n ≢ m). get_or-set_other t.loads m n (get_or t.loads m 0 + 1) 0 ne ∙ tally.loads n ln ∙ sym (load_other net x y i m false true d n ln ne))
      (cases_eq n m);
  shares = λ j z lj lz. share j z lj lz (cases_eq j i) (cases_eq z zm);
}
  where
    zm : ℕ
    zm = zone net m

    x : Cells
    x = cells_of t.flags

    y : Cells
    y = cells_of (set_cell t.flags i m true)

    d : Differs net x y i m false true
    d = differs_set net t.flags ok tally.table i m false true li lm missing

    below : (a n l : ℕ) → l ≡ n → a < n → a < l
    below a n l p q = omega arith

    within : (a n l b k : ℕ) → a < n → l ≡ 64 * n → b < k → k ≤ 64 → 64 * a + b < l
    within a n l b k p q r s = omega arith

    up : (a b c v : ℕ) → a ≡ b → v ≡ 1 → c + 0 ≡ b + v → a + 1 ≡ c
    up a b c v p q r = omega arith

    still : (a b c v : ℕ) → a ≡ b → v ≡ 0 → c + 0 ≡ b + v → a ≡ c
    still a b c v p q r = omega arith

    the_item : (j z w k : ℕ) → 64 * j + z ≡ 64 * i + w → w < k → z < k → k ≤ 64 → j ≡ i
    the_item j z w k p q r s = omega arith

    the_zone : (j z w k : ℕ) → 64 * j + z ≡ 64 * i + w → w < k → z < k → k ≤ 64 → z ≡ w
    the_zone j z w k p q r s = omega arith

    grown : List ℕ
    grown = set t.shares (64 * i + zm) (get_or t.shares (64 * i + zm) 0 + 1)

    share : (j z : ℕ) → j < items net → z < members net → (j ≡ i) ⊎ (j ≢ i) → (z ≡ zm) ⊎ (z ≢ zm) → get_or grown (64 * j + z) 0 ≡ in_zone net y j z
    share j z lj lz (inl e) (inl f) = subst (λ k. get_or grown (64 * k + z) 0 ≡ in_zone net y k z) (sym e) (subst (λ k. get_or grown (64 * i + k) 0 ≡ in_zone net y i k) (sym f)
        (get_or-set_same t.shares (64 * i + zm) (get_or t.shares (64 * i + zm) 0 + 1) 0 (within i (items net) (length t.shares) zm (members net) li tally.each_share (ok.within m lm) ok.few_members)
        ∙ up (get_or t.shares (64 * i + zm) 0) (in_zone net x i zm) (in_zone net y i zm) (when (zone net m == zm) 1) (tally.shares i zm li (ok.within m lm)) (ap (λ b. when b 1) (eq-eqb zm zm refl)) (in_zone_at net x y i m false true d zm)))
    share j z lj lz (inl e) (inr ne) = subst (λ k. get_or grown (64 * k + z) 0 ≡ in_zone net y k z) (sym e)
        (get_or-set_other t.shares (64 * i + zm) (64 * i + z) (get_or t.shares (64 * i + zm) 0 + 1) 0 (λ same. ne (the_zone i z zm (members net) same (ok.within m lm) lz ok.few_members))
        ∙ still (get_or t.shares (64 * i + z) 0) (in_zone net x i z) (in_zone net y i z) (when (zone net m == z) 1) (tally.shares i z li lz) (ap (λ b. when b 1) (ne_eqb zm z (λ e. ne (sym e)))) (in_zone_at net x y i m false true d z))
    share j z lj lz (inr ne) _ =
        get_or-set_other t.shares (64 * i + zm) (64 * j + z) (get_or t.shares (64 * i + zm) 0 + 1) 0 (λ same. ne (the_item j z zm (members net) same (ok.within m lm) lz ok.few_members))
        ∙ tally.shares j z lj lz ∙ sym (in_zone_other net x y i m false true d j z ne)
