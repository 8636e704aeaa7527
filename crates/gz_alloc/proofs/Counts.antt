-- The counts of a table in which one pair changes.
use Rattle.std.proofs.Common.{◌≡◌, ℕ, ◌+◌, ◌*◌, ◌<◌, ◌≤◌, ◌≢◌, Bool, false, ◌&&◌, ◌==◌, List, length, ap, arith, get_or-set_same, get_or-set_other}
use Rattle.gz_alloc.specs.Sums.{when}
use Rattle.gz_alloc.specs.Flow.{Net, IsNet, IsTable, Cells, items, members, zone, row, load, in_zone, total, Differs, cells_of, set_cell}
use Rattle.gz_alloc.proofs.SumLemmas.{sum_to_eq, sum_to_but}

shift : (a b c d u v : ℕ) → a + c ≡ b + d → c ≡ u → d ≡ v → a + u ≡ b + v
shift a b c d u v p q r = omega arith

pub row_other : (net : Net) (x y : Cells) (i m : ℕ) (old new : Bool) → Differs net x y i m old new → (j : ℕ) → j ≢ i → row net y j ≡ row net x j
row_other net x y i m old new d j ne = sum_to_eq (members net) (λ n. when (y j n) 1) (λ n. when (x j n) 1) (λ n ln. ap (λ b. when b 1) (d.others j n ln (λ e _. ne e)))

pub row_at : (net : Net) (x y : Cells) (i m : ℕ) (old new : Bool) → Differs net x y i m old new → row net y i + when old 1 ≡ row net x i + when new 1
row_at net x y i m old new d = shift (row net y i) (row net x i) (when (x i m) 1) (when (y i m) 1) (when old 1) (when new 1)
    (sum_to_but (members net) (λ n. when (y i n) 1) (λ n. when (x i n) 1) m d.member (λ n ln ne. ap (λ b. when b 1) (d.others i n ln (λ _ e. ne e))))
    (ap (λ b. when b 1) d.before) (ap (λ b. when b 1) d.after)

pub load_other : (net : Net) (x y : Cells) (i m : ℕ) (old new : Bool) → Differs net x y i m old new → (n : ℕ) → n < members net → n ≢ m → load net y n ≡ load net x n
load_other net x y i m old new d n ln ne = sum_to_eq (items net) (λ j. when (y j n) 1) (λ j. when (x j n) 1) (λ j lj. ap (λ b. when b 1) (d.others j n ln (λ _ e. ne e)))

pub load_at : (net : Net) (x y : Cells) (i m : ℕ) (old new : Bool) → Differs net x y i m old new → load net y m + when old 1 ≡ load net x m + when new 1
load_at net x y i m old new d = shift (load net y m) (load net x m) (when (x i m) 1) (when (y i m) 1) (when old 1) (when new 1)
    (sum_to_but (items net) (λ j. when (y j m) 1) (λ j. when (x j m) 1) i d.item (λ j lj ne. ap (λ b. when b 1) (d.others j m d.member (λ e _. ne e))))
    (ap (λ b. when b 1) d.before) (ap (λ b. when b 1) d.after)

pub in_zone_other : (net : Net) (x y : Cells) (i m : ℕ) (old new : Bool) → Differs net x y i m old new → (j z : ℕ) → j ≢ i → in_zone net y j z ≡ in_zone net x j z
in_zone_other net x y i m old new d j z ne =
    sum_to_eq (members net) (λ n. when (y j n && (zone net n == z)) 1) (λ n. when (x j n && (zone net n == z)) 1) (λ n ln. ap (λ b. when (b && (zone net n == z)) 1) (d.others j n ln (λ e _. ne e)))

pub in_zone_at : (net : Net) (x y : Cells) (i m : ℕ) (old new : Bool) → Differs net x y i m old new → (z : ℕ) →
    in_zone net y i z + when (old && (zone net m == z)) 1 ≡ in_zone net x i z + when (new && (zone net m == z)) 1
in_zone_at net x y i m old new d z =
    shift (in_zone net y i z) (in_zone net x i z) (when (x i m && (zone net m == z)) 1) (when (y i m && (zone net m == z)) 1) (when (old && (zone net m == z)) 1) (when (new && (zone net m == z)) 1)
    (sum_to_but (members net) (λ n. when (y i n && (zone net n == z)) 1) (λ n. when (x i n && (zone net n == z)) 1) m d.member (λ n ln ne. ap (λ b. when (b && (zone net n == z)) 1) (d.others i n ln (λ _ e. ne e))))
    (ap (λ b. when (b && (zone net m == z)) 1) d.before) (ap (λ b. when (b && (zone net m == z)) 1) d.after)

pub total_at : (net : Net) (x y : Cells) (i m : ℕ) (old new : Bool) → Differs net x y i m old new → total net y + when old 1 ≡ total net x + when new 1
total_at net x y i m old new d = join (total net y) (total net x) (row net x i) (row net y i) (when old 1) (when new 1)
    (sum_to_but (items net) (λ j. row net y j) (λ j. row net x j) i d.item (λ j lj ne. row_other net x y i m old new d j ne)) (row_at net x y i m old new d)
  where
    join : (a b c d u v : ℕ) → a + c ≡ b + d → d + u ≡ c + v → a + u ≡ b + v
    join a b c d u v p q = omega arith

-- a table of flags with one changed
pub differs_set : (net : Net) (flags : List Bool) → IsNet net → IsTable net flags → (i m : ℕ) (old new : Bool) → i < items net → m < members net → cells_of flags i m ≡ old →
    Differs net (cells_of flags) (cells_of (set_cell flags i m new)) i m old new
differs_set net flags ok table i m old new li lm e = record {
  item = li;
  member = lm;
  before = e;
  after = get_or-set_same flags (64 * i + m) new false (within (length flags) (items net) (members net) table li lm ok.few_members);
  others = λ j n ln ne. get_or-set_other flags (64 * i + m) (64 * j + n) new false (λ same. ne (the_item j n (members net) same lm ln ok.few_members) (the_member j n (members net) same lm ln ok.few_members));
}
  where
    within : (l n k : ℕ) → l ≡ 64 * n → i < n → m < k → k ≤ 64 → 64 * i + m < l
    within l n k p q r s = omega arith

    the_item : (j n k : ℕ) → 64 * j + n ≡ 64 * i + m → m < k → n < k → k ≤ 64 → j ≡ i
    the_item j n k p q r s = omega arith

    the_member : (j n k : ℕ) → 64 * j + n ≡ 64 * i + m → m < k → n < k → k ≤ 64 → n ≡ m
    the_member j n k p q r s = omega arith
