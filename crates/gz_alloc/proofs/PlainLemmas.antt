-- Tables that agree so far, for the plain search.
use Rattle.std.proofs.Common.{◌≡◌, ℕ, ◌+◌, ◌*◌, ◌<◌, ◌≤◌, ◌≢◌, ◌⊎◌, Bool, true, false, List, length, replicate, ap, ◌∙◌, sym, subst, arith, ⊎_elim, get_or-set_same, get_or-set_other}
use Rattle.std.proofs.lemmas.Bool.{cases_Bool, cases_eq}
use Rattle.gz_alloc.specs.Flow.{Net, IsNet, IsTable, Cells, Keeps, items, members, total, cells_of, set_cell}
use Rattle.gz_alloc.specs.Names.{Asked, net_of, paired, is_problem, IsFeasibleOf, Agree, pairs_of}
use Rattle.gz_alloc.specs.Plain.{IsGreatest, AgreeBefore, IsAttained, IsMostOf}
use Rattle.gz_alloc.proofs.TableLemmas.{agree_keeps, agree_total, agree_back, good_none}
use Rattle.gz_alloc.proofs.PickLemmas.{pairs_feasible}

-- one written pair leaves what stands before it
pub set_before : (net : Net) (flags : List Bool) (i m : ℕ) (b : Bool) → AgreeBefore net (cells_of flags) (cells_of (set_cell flags i m b)) i m
set_before net flags i m b j n lj ln h = sym (get_or-set_other flags (64 * i + m) (64 * j + n) b false (λ same. below (64 * j + n) (64 * i + m) h same))
  where
    below : (a c : ℕ) → a < c → a ≡ c → ⊥
    below a c p q = omega arith

pub agree_trans : (net : Net) (x y z : Cells) (i m : ℕ) → AgreeBefore net x y i m → AgreeBefore net y z i m → AgreeBefore net x z i m
agree_trans net x y z i m p q j n lj ln h = p j n lj ln h ∙ q j n lj ln h

pub agree_sym : (net : Net) (x y : Cells) (i m : ℕ) → AgreeBefore net x y i m → AgreeBefore net y x i m
agree_sym net x y i m p j n lj ln h = sym (p j n lj ln h)

-- what agrees up to a later pair agrees up to this one
pub agree_less : (net : Net) (x y : Cells) (i m k l : ℕ) → 64 * i + m ≤ 64 * k + l → AgreeBefore net x y k l → AgreeBefore net x y i m
agree_less net x y i m k l le p j n lj ln h = p j n lj ln (shorter (64 * j + n) (64 * i + m) (64 * k + l) h le)
  where
    shorter : (a b c : ℕ) → a < b → b ≤ c → a < c
    shorter a b c p q = omega arith

-- past the last item all is said
pub agree_all : (net : Net) (x y : Cells) (i m : ℕ) → IsNet net → items net ≤ i → AgreeBefore net x y i m → Agree net x y
agree_all net x y i m ok le p j n lj ln = p j n lj ln (within j n (items net) (members net) lj ln ok.few_members le)
  where
    within : (j n k l : ℕ) → j < k → n < l → l ≤ 64 → k ≤ i → 64 * j + n < 64 * i + m
    within j n k l p q r s = omega arith

-- the pair is written as the other table has it
pub set_next : (net : Net) (flags : List Bool) (y : Cells) (i m : ℕ) (b : Bool) → IsNet net → IsTable net flags → i < items net → m < members net → y i m ≡ b → AgreeBefore net (cells_of flags) y i m → AgreeBefore net (cells_of (set_cell flags i m b)) y i (m + 1)
set_next net flags y i m b ok table li lm e p j n lj ln h = ⊎_elim
    (λ (same : 64 * j + n ≡ 64 * i + m). here same (the_item (members net) same ln lm ok.few_members) (the_member (members net) same ln lm ok.few_members))
    (λ (ne : 64 * j + n ≢ 64 * i + m). get_or-set_other flags (64 * i + m) (64 * j + n) b false ne ∙ p j n lj ln (less (64 * j + n) (64 * i) m h ne))
    (cases_eq (64 * j + n) (64 * i + m))
  where
    less : (a c d : ℕ) → a < c + (d + 1) → a ≢ c + d → a < c + d
    less a c d p q = omega arith

    the_item : (k : ℕ) → 64 * j + n ≡ 64 * i + m → n < k → m < k → k ≤ 64 → j ≡ i
    the_item k p q r s = omega arith

    the_member : (k : ℕ) → 64 * j + n ≡ 64 * i + m → n < k → m < k → k ≤ 64 → n ≡ m
    the_member k p q r s = omega arith

    inside : (l n k : ℕ) → l ≡ 64 * n → i < n → m < k → k ≤ 64 → 64 * i + m < l
    inside l n k p q r s = omega arith

    here : 64 * j + n ≡ 64 * i + m → j ≡ i → n ≡ m → cells_of (set_cell flags i m b) j n ≡ y j n
    here same ej en = ap (cells_of (set_cell flags i m b) j) en ∙ ap (λ k. cells_of (set_cell flags i m b) k m) ej
        ∙ get_or-set_same flags (64 * i + m) b false (inside (length flags) (items net) (members net) table li lm ok.few_members)
        ∙ sym e ∙ sym (ap (y j) en ∙ ap (λ k. y k m) ej)

-- at the end there is one table that agrees
pub most_of_one : (net : Net) (x : Cells) (i m n : ℕ) → IsNet net → items net ≤ i → (Keeps net x → total net x ≤ n) → IsMostOf net x i m n
most_of_one net x i m n ok le most y keeps agree = subst (λ k. k ≤ n) (agree_total net x y same) (most (agree_keeps net y x (agree_back net x y same) keeps))
  where
    same : Agree net x y
    same = agree_all net x y i m ok le agree

-- what stands before a written pair is kept
pub kept : (net : Net) (f g : List Bool) (i m : ℕ) (b : Bool) → AgreeBefore net (cells_of (set_cell f i m b)) (cells_of g) i (m + 1) → AgreeBefore net (cells_of f) (cells_of g) i m
kept net f g i m b stays = agree_trans net (cells_of f) (cells_of (set_cell f i m b)) (cells_of g) i m (set_before net f i m b)
    (agree_less net (cells_of (set_cell f i m b)) (cells_of g) i m i (m + 1) (more (64 * i) m) stays)
  where
    more : (a c : ℕ) → a + c ≤ a + (c + 1)
    more a c = omega arith

-- both ways of a pair
pub most_of_both : (net : Net) (f g : List Bool) (i m a b : ℕ) → IsNet net → IsTable net f → IsTable net g → i < items net → m < members net →
    AgreeBefore net (cells_of (set_cell f i m false)) (cells_of g) i (m + 1) →
    IsMostOf net (cells_of (set_cell f i m false)) i (m + 1) a → a ≤ b →
    IsMostOf net (cells_of (set_cell g i m true)) i (m + 1) b → IsMostOf net (cells_of f) i m b
most_of_both net f g i m a b ok tf tg li lm stays without le with_it y keeps agree = ⊎_elim
    (λ (e : y i m ≡ true). with_it y keeps (set_next net g y i m true ok tg li lm e (agree_trans net (cells_of g) (cells_of f) y i m (agree_sym net (cells_of f) (cells_of g) i m (kept net f g i m false stays)) agree)))
    (λ (e : y i m ≡ false). both (total net y) a b (without y keeps (set_next net f y i m false ok tf li lm e agree)) le)
    (cases_Bool (y i m))
  where
    both : (x y z : ℕ) → x ≤ y → y ≤ z → x ≤ z
    both x y z p q = omega arith

-- a search over all pairs finds the greatest
greatest : (asked : Asked) → is_problem asked ≡ true → (x : Cells) (n : ℕ) → (n ≡ 0) ⊎ IsAttained (net_of asked) n → IsMostOf (net_of asked) x 0 0 n → IsGreatest asked n
greatest asked ok x n found bound = record {
  attained = ⊎_elim (λ (e : n ≡ 0). of_table (found_none e)) (λ (h : IsAttained (net_of asked) n). of_table h) found;
  most = λ pairs feasible. bound (paired asked pairs) feasible.keeps (λ j k _ _ h. absurd (none (64 * j + k) h));
}
  where
    none : (a : ℕ) → a < 64 * 0 + 0 → ⊥
    none a h = omega arith

    small : (a b : ℕ) → b ≡ 0 → a ≤ b → a ≡ b
    small a b p q = omega arith

    of_table : IsAttained (net_of asked) n → (pairs : List (List ℕ × List ℕ)) × IsFeasibleOf asked pairs n
    of_table h = let f = pairs_feasible asked ok h.0 (h.1.0) in (pairs_of asked h.0, (f.0, f.1 ∙ h.1.1))

    found_none : n ≡ 0 → IsAttained (net_of asked) n
    found_none e = let keeps = (good_none (net_of asked)).keeps in
        (cells_of (replicate (64 * items (net_of asked)) false), (keeps, small (total (net_of asked) (cells_of (replicate (64 * items (net_of asked)) false))) n e (bound (cells_of (replicate (64 * items (net_of asked)) false)) keeps (λ j k _ _ h. absurd (none (64 * j + k) h)))))

pub greatest_at : (asked : Asked) → is_problem asked ≡ true → (net : Net) → net ≡ net_of asked → (x : Cells) (n : ℕ) → (n ≡ 0) ⊎ IsAttained net n → IsMostOf net x 0 0 n → IsGreatest asked n
greatest_at asked ok net e x n found bound = greatest asked ok x n (subst (λ k. (n ≡ 0) ⊎ IsAttained k n) e found) (subst (λ k. IsMostOf k x 0 0 n) e bound)
