-- One more pair, and the moves that make room for it.
use Rattle.std.proofs.Common.{List, length, length-set, ◌*◌, ◌≡◌, ℕ, ◌+◌, ◌<◌, ◌≤◌, ◌≢◌, ◌⊎◌, Bool, true, false, ◌==◌, ap, ◌∙◌, sym, subst, arith, inl, inr, ⊎_elim}
use Rattle.std.proofs.lemmas.Bool.{cases_eq, cases_Bool, eqb-true}
use Rattle.gz_alloc.specs.Sums.{when}
use Rattle.gz_alloc.specs.Flow.{Net, IsNet, Cells, Keeps, items, members, replicas, limit, zone, row, load, in_zone, zone_bound, total, Differs, IsTable, cells_of, set_cell}
use Rattle.gz_alloc.specs.Search.{Marks, target, rank, mover, to, IsMove, IsReady, IsSearch, IsWanted, IsWalk}
use Rattle.gz_alloc.proofs.Counts.{row_other, row_at, load_other, load_at, in_zone_other, in_zone_at, total_at, differs_set}
use Rattle.gz_alloc.proofs.SumLemmas.{count_to_le, sum_to_most}

-- a member's move stays where the pairs that it names stay
move_stays : (net : Net) (x y : Cells) (s : Marks) (n : ℕ) → IsMove net x s n → y (mover s n) n ≡ x (mover s n) n → y (mover s n) (to s n) ≡ x (mover s n) (to s n) → IsMove net y s n
move_stays net x y s n move p q = record {
  can = record {
    item = move.can.item;
    member = move.can.member;
    has_way = move.can.has_way;
    placed = p ∙ move.can.placed;
    missing = q ∙ move.can.missing;
    room = move.can.room;
  };
  earlier = move.earlier;
}

apart : (s : Marks) (m n : ℕ) → rank s m < rank s n → m ≢ n
apart s m n lt e = let same : rank s m ≡ rank s n = ap (rank s) e in omega arith

both : (b : Bool) → b ≡ true → b ≡ false → ⊥
both true p q = let bad : true ≡ false = q in cc
both false p q = let bad : false ≡ true = p in cc

lt_trans : (a b c : ℕ) → a < b → b < c → a < c
lt_trans a b c p q = omega arith

no_lt : (a : ℕ) → a < a → ⊥
no_lt a p = omega arith

-- the wanted pair is put in
pub walk_starts : (net : Net) (x y : Cells) (s : Marks) (b t : ℕ) → IsNet net → Keeps net x → IsSearch net x s → IsWanted net x s b t → Differs net x y b t false true → IsWalk net y s t
walk_starts net x y s b t ok keeps is wanted d = record {
  member = wanted.member;
  has_way = wanted.has_way;
  rows = λ i li. ⊎_elim (λ (e : i ≡ b). subst (λ j. row net y j ≤ replicas net j) (sym e) (one_more (row net y b) (row net x b) (replicas net b) (row_at net x y b t false true d) wanted.less))
      (λ (ne : i ≢ b). same_le (row net y i) (row net x i) (replicas net i) (row_other net x y b t false true d i ne) (keeps.rows i li)) (cases_eq i b);
  zones = λ i n li ln. ⊎_elim (λ (e : i ≡ b). subst (λ j. in_zone net y j (zone net n) ≤ zone_bound (replicas net j)) (sym e) (zoned n ln (cases_Bool (zone net t == zone net n))))
      (λ (ne : i ≢ b). same_le (in_zone net y i (zone net n)) (in_zone net x i (zone net n)) (zone_bound (replicas net i)) (in_zone_other net x y b t false true d i (zone net n) ne) (keeps.zones i n li ln)) (cases_eq i b);
  loads = λ n ln ne. same_le (load net y n) (load net x n) (limit net n) (load_other net x y b t false true d n ln ne) (keeps.loads n ln);
  over = one_over (load net y t) (load net x t) (limit net t) (load_at net x y b t false true d) (keeps.loads t wanted.member);
  ready = λ n ln lt. ready_there n ln lt (is.ready n ln (lt_trans (rank s n) (rank s t) 64 lt wanted.has_way));
  aims = λ b' lb' p lt. aims_there b' ((is.aims b' lb' p).room) p;
  way = ⊎_elim (λ (e : load net x t < limit net t). inl (one_more (load net y t) (load net x t) (limit net t) (load_at net x y b t false true d) e))
      (λ (move : IsMove net x s t). inr (move_stays net x y s t move
      (d.others (mover s t) t wanted.member (λ e _. both (x b t) (ap (λ j. x j t) (sym e) ∙ move.can.placed) wanted.missing))
      (d.others (mover s t) (to s t) move.can.member (λ e _. both (x b t) (ap (λ j. x j t) (sym e) ∙ move.can.placed) wanted.missing))))
      (is.ready t wanted.member wanted.has_way);
}
  where
    one_more : (a b c : ℕ) → a + 0 ≡ b + 1 → b < c → a ≤ c
    one_more a b c p q = omega arith

    one_over : (a b c : ℕ) → a + 0 ≡ b + 1 → b ≤ c → a ≤ c + 1
    one_over a b c p q = omega arith

    same_le : (a b c : ℕ) → a ≡ b → b ≤ c → a ≤ c
    same_le a b c p q = omega arith

    same_lt : (a b c : ℕ) → a ≡ b → b < c → a < c
    same_lt a b c p q = omega arith

    with_room : (a b c v : ℕ) → a + 0 ≡ b + v → v ≡ 1 → b < c → a ≤ c
    with_room a b c v p q r = omega arith

    without : (a b c v : ℕ) → a + 0 ≡ b + v → v ≡ 0 → b ≤ c → a ≤ c
    without a b c v p q r = omega arith

    zoned : (n : ℕ) → n < members net → ((zone net t == zone net n) ≡ true) ⊎ ((zone net t == zone net n) ≡ false) → in_zone net y b (zone net n) ≤ zone_bound (replicas net b)
    zoned n ln (inl e) = with_room (in_zone net y b (zone net n)) (in_zone net x b (zone net n)) (zone_bound (replicas net b)) (when (zone net t == zone net n) 1) (in_zone_at net x y b t false true d (zone net n)) (ap (λ v. when v 1) e)
        (subst (λ z. in_zone net x b z < zone_bound (replicas net b)) (eqb-true (zone net t) (zone net n) e) wanted.room)
    zoned n ln (inr e) = without (in_zone net y b (zone net n)) (in_zone net x b (zone net n)) (zone_bound (replicas net b)) (when (zone net t == zone net n) 1) (in_zone_at net x y b t false true d (zone net n)) (ap (λ v. when v 1) e) (keeps.zones b n wanted.item ln)

    ready_there : (n : ℕ) → n < members net → rank s n < rank s t → IsReady net x s n → IsReady net y s n
    ready_there n ln lt (inl e) = inl (same_lt (load net y n) (load net x n) (limit net n) (load_other net x y b t false true d n ln (apart s n t lt)) e)
    ready_there n ln lt (inr move) = inr (move_stays net x y s n move (d.others (mover s n) n ln (λ _ e. apart s n t lt e)) (d.others (mover s n) (to s n) move.can.member (λ _ e. apart s (to s n) t (lt_trans (rank s (to s n)) (rank s n) (rank s t) move.earlier lt) e)))

    no_target : (b' : ℕ) → target s b' < 64 → b' ≢ b
    no_target b' p e = let same : target s b' ≡ target s b = ap (target s) e in omega (arith, wanted.untargeted)

    aims_there : (b' : ℕ) → in_zone net x b' (zone net (target s b')) < zone_bound (replicas net b') → target s b' < 64 → in_zone net y b' (zone net (target s b')) < zone_bound (replicas net b')
    aims_there b' q p = same_lt (in_zone net y b' (zone net (target s b'))) (in_zone net x b' (zone net (target s b'))) (zone_bound (replicas net b')) (in_zone_other net x y b t false true d b' (zone net (target s b')) (no_target b' p)) q

-- an item moves on
pub walk_goes : (net : Net) (x y w : Cells) (s : Marks) (m : ℕ) → IsNet net → IsWalk net x s m → IsMove net x s m →
    Differs net x y (mover s m) m true false → Differs net y w (mover s m) (to s m) false true → IsWalk net w s (to s m)
walk_goes net x y w s m ok walk move d1 d2 = record {
  member = move.can.member;
  has_way = move.can.has_way;
  rows = λ i li. ⊎_elim (λ (e : i ≡ b). subst (λ j. row net w j ≤ replicas net j) (sym e) (back (row net w b) (row net y b) (row net x b) (replicas net b) (row_at net x y b m true false d1) (row_at net y w b t false true d2) (walk.rows b move.can.item)))
      (λ (ne : i ≢ b). same_le (row net w i) (row net x i) (replicas net i) (row_other net y w b t false true d2 i ne ∙ row_other net x y b m true false d1 i ne) (walk.rows i li)) (cases_eq i b);
  zones = λ i n li ln. ⊎_elim (λ (e : i ≡ b). subst (λ j. in_zone net w j (zone net n) ≤ zone_bound (replicas net j)) (sym e) (zoned n ln move.can.room))
      (λ (ne : i ≢ b). same_le (in_zone net w i (zone net n)) (in_zone net x i (zone net n)) (zone_bound (replicas net i)) (same_zone i (zone net n) ne) (walk.zones i n li ln)) (cases_eq i b);
  loads = λ n ln ne. ⊎_elim (λ (e : n ≡ m). subst (λ j. load net w j ≤ limit net j) (sym e) left) (λ (other : n ≢ m). same_le (load net w n) (load net x n) (limit net n) (same_load n ln other ne) (walk.loads n ln other)) (cases_eq n m);
  over = one_over (load net w t) (load net x t) (limit net t) arrives (walk.loads t move.can.member t_m);
  ready = λ n ln lt. ready_there n ln lt (walk.ready n ln (lt_trans (rank s n) (rank s t) (rank s m) lt move.earlier));
  aims = λ b' lb' p lt. ⊎_elim (λ (e : b' ≡ b). aims_here b' e lb' p lt move.can.room) (λ (ne : b' ≢ b). same_lt (in_zone net w b' (zone net (target s b'))) (in_zone net x b' (zone net (target s b'))) (zone_bound (replicas net b')) (same_zone b' (zone net (target s b')) ne) (aims_before b' lb' p lt)) (cases_eq b' b);
  way = way_there (walk.ready t move.can.member move.earlier);
}
  where
    b : ℕ
    b = mover s m

    t : ℕ
    t = to s m

    t_m : t ≢ m
    t_m = apart s t m move.earlier

    back : (a b c r : ℕ) → b + 1 ≡ c + 0 → a + 0 ≡ b + 1 → c ≤ r → a ≤ r
    back a b c r p q u = omega arith

    same_le : (a b c : ℕ) → a ≡ b → b ≤ c → a ≤ c
    same_le a b c p q = omega arith

    same_lt : (a b c : ℕ) → a ≡ b → b < c → a < c
    same_lt a b c p q = omega arith

    one_over : (a b c : ℕ) → a ≡ b + 1 → b ≤ c → a ≤ c + 1
    one_over a b c p q = omega arith

    same_zone : (i z : ℕ) → i ≢ b → in_zone net w i z ≡ in_zone net x i z
    same_zone i z ne = in_zone_other net y w b t false true d2 i z ne ∙ in_zone_other net x y b m true false d1 i z ne

    moved_zone : (z : ℕ) → in_zone net w b z + when (zone net m == z) 1 ≡ in_zone net x b z + when (zone net t == z) 1
    moved_zone z = join (in_zone net w b z) (in_zone net y b z) (in_zone net x b z) (when (zone net m == z) 1) (when (zone net t == z) 1) (in_zone_at net x y b m true false d1 z) (in_zone_at net y w b t false true d2 z)
      where
        join : (a c e u v : ℕ) → c + u ≡ e + 0 → a + 0 ≡ c + v → a + u ≡ e + v
        join a c e u v p q = omega arith

    in_same_zone : (z : ℕ) → zone net t ≡ zone net m → in_zone net w b z ≡ in_zone net x b z
    in_same_zone z e = join (in_zone net w b z) (in_zone net x b z) (when (zone net m == z) 1) (when (zone net t == z) 1) (moved_zone z) (ap (λ v. when (v == z) 1) e)
      where
        join : (a c u v : ℕ) → a + u ≡ c + v → v ≡ u → a ≡ c
        join a c u v p q = omega arith

    small : (a k : ℕ) → a < k → k ≤ 64 → a < 64
    small a k p q = omega arith

    t_small : t < 64
    t_small = small t (members net) move.can.member ok.few_members

    aimed_room : target s b ≡ t → in_zone net x b (zone net t) < zone_bound (replicas net b)
    aimed_room e = subst (λ j. in_zone net x b (zone net j) < zone_bound (replicas net b)) e (walk.aims b move.can.item (subst (λ j. j < 64) (sym e) t_small) (subst (λ j. rank s j < rank s m) (sym e) move.earlier))

    with_room : (a c r u v : ℕ) → a + u ≡ c + v → v ≡ 1 → c < r → a ≤ r
    with_room a c r u v p q h = omega arith

    without : (a c r u v : ℕ) → a + u ≡ c + v → v ≡ 0 → c ≤ r → a ≤ r
    without a c r u v p q h = omega arith

    zoned : (n : ℕ) → n < members net → (zone net t ≡ zone net m) ⊎ (target s b ≡ t) → in_zone net w b (zone net n) ≤ zone_bound (replicas net b)
    zoned n ln (inl e) = same_le (in_zone net w b (zone net n)) (in_zone net x b (zone net n)) (zone_bound (replicas net b)) (in_same_zone (zone net n) e) (walk.zones b n move.can.item ln)
    zoned n ln (inr e) = ⊎_elim
        (λ (h : (zone net t == zone net n) ≡ true). with_room (in_zone net w b (zone net n)) (in_zone net x b (zone net n)) (zone_bound (replicas net b)) (when (zone net m == zone net n) 1) (when (zone net t == zone net n) 1) (moved_zone (zone net n)) (ap (λ v. when v 1) h)
        (subst (λ z. in_zone net x b z < zone_bound (replicas net b)) (eqb-true (zone net t) (zone net n) h) (aimed_room e)))
        (λ (h : (zone net t == zone net n) ≡ false). without (in_zone net w b (zone net n)) (in_zone net x b (zone net n)) (zone_bound (replicas net b)) (when (zone net m == zone net n) 1) (when (zone net t == zone net n) 1) (moved_zone (zone net n)) (ap (λ v. when v 1) h) (walk.zones b n move.can.item ln))
        (cases_Bool (zone net t == zone net n))

    same_load : (n : ℕ) → n < members net → n ≢ m → n ≢ t → load net w n ≡ load net x n
    same_load n ln nm nt = load_other net y w b t false true d2 n ln nt ∙ load_other net x y b m true false d1 n ln nm

    left : load net w m ≤ limit net m
    left = less (load net w m) (load net y m) (load net x m) (limit net m) (load_other net y w b t false true d2 m walk.member (λ e. t_m (sym e))) (load_at net x y b m true false d1) walk.over
      where
        less : (a c e r : ℕ) → a ≡ c → c + 1 ≡ e + 0 → e ≤ r + 1 → a ≤ r
        less a c e r p q h = omega arith

    arrives : load net w t ≡ load net x t + 1
    arrives = more (load net w t) (load net y t) (load net x t) (load_at net y w b t false true d2) (load_other net x y b m true false d1 t move.can.member t_m)
      where
        more : (a c e : ℕ) → a + 0 ≡ c + 1 → c ≡ e → a ≡ e + 1
        more a c e p q = omega arith

    same_cell : (j n : ℕ) → n < members net → n ≢ m → n ≢ t → w j n ≡ x j n
    same_cell j n ln nm nt = d2.others j n ln (λ _ e. nt e) ∙ d1.others j n ln (λ _ e. nm e)

    same_row : (j n : ℕ) → n < members net → j ≢ b → w j n ≡ x j n
    same_row j n ln ne = d2.others j n ln (λ e _. ne e) ∙ d1.others j n ln (λ e _. ne e)

    ready_there : (n : ℕ) → n < members net → rank s n < rank s t → IsReady net x s n → IsReady net w s n
    ready_there n ln lt (inl e) = inl (same_lt (load net w n) (load net x n) (limit net n) (same_load n ln (apart s n m (lt_trans (rank s n) (rank s t) (rank s m) lt move.earlier)) (apart s n t lt)) e)
    ready_there n ln lt (inr other) =
        let below : rank s (to s n) < rank s t = lt_trans (rank s (to s n)) (rank s n) (rank s t) other.earlier lt in
        inr (move_stays net x w s n other
        (same_cell (mover s n) n ln (apart s n m (lt_trans (rank s n) (rank s t) (rank s m) lt move.earlier)) (apart s n t lt))
        (same_cell (mover s n) (to s n) other.can.member (apart s (to s n) m (lt_trans (rank s (to s n)) (rank s t) (rank s m) below move.earlier)) (apart s (to s n) t below)))

    aims_before : (b' : ℕ) → b' < items net → target s b' < 64 → rank s (target s b') < rank s t → in_zone net x b' (zone net (target s b')) < zone_bound (replicas net b')
    aims_before b' lb' p lt = walk.aims b' lb' p (lt_trans (rank s (target s b')) (rank s t) (rank s m) lt move.earlier)

    aims_here : (b' : ℕ) → b' ≡ b → b' < items net → target s b' < 64 → rank s (target s b') < rank s t → (zone net t ≡ zone net m) ⊎ (target s b ≡ t) → in_zone net w b' (zone net (target s b')) < zone_bound (replicas net b')
    aims_here b' e lb' p lt (inl z) = same_lt (in_zone net w b' (zone net (target s b'))) (in_zone net x b' (zone net (target s b'))) (zone_bound (replicas net b')) (subst (λ j. in_zone net w j (zone net (target s b')) ≡ in_zone net x j (zone net (target s b'))) (sym e) (in_same_zone (zone net (target s b')) z)) (aims_before b' lb' p lt)
    aims_here b' e lb' p lt (inr z) = absurd (no_lt (rank s t) (subst (λ j. rank s j < rank s t) (ap (target s) e ∙ z) lt))

    way_there : IsReady net x s t → (load net w t ≤ limit net t) ⊎ IsMove net w s t
    way_there (inl e) = inl (fits (load net w t) (load net x t) (limit net t) arrives e)
      where
        fits : (a c r : ℕ) → a ≡ c + 1 → c < r → a ≤ r
        fits a c r p q = omega arith
    way_there (inr other) =
        let ne : mover s t ≢ b = λ e. both (x b t) (ap (λ j. x j t) (sym e) ∙ other.can.placed) move.can.missing in
        inr (move_stays net x w s t other (same_row (mover s t) t move.can.member ne) (same_row (mover s t) (to s t) other.can.member ne))

-- a move keeps the number of pairs
pub move_total : (net : Net) (x y w : Cells) (b m t : ℕ) → Differs net x y b m true false → Differs net y w b t false true → total net w ≡ total net x
move_total net x y w b m t d1 d2 = join (total net w) (total net y) (total net x) (total_at net x y b m true false d1) (total_at net y w b t false true d2)
  where
    join : (a c e : ℕ) → c + 1 ≡ e + 0 → a + 0 ≡ c + 1 → a ≡ e
    join a c e p q = omega arith

-- the member that has too many can move one
pub walk_moves : (net : Net) (x : Cells) (s : Marks) (m : ℕ) → IsWalk net x s m → limit net m < load net x m → IsMove net x s m
walk_moves net x s m walk h = ⊎_elim (λ (e : load net x m ≤ limit net m). absurd (no (load net x m) (limit net m) e h)) (λ (move : IsMove net x s m). move) walk.way
  where
    no : (a c : ℕ) → a ≤ c → c < a → ⊥
    no a c p q = omega arith

-- an item moves on, by the flags
pub walk_step : (net : Net) (f g h : List Bool) (s : Marks) (m b t : ℕ) → IsNet net → IsTable net f → IsWalk net (cells_of f) s m → limit net m < load net (cells_of f) m →
    b ≡ mover s m → t ≡ to s m → g ≡ set_cell f b m false → h ≡ set_cell g b t true → IsWalk net (cells_of h) s t × (total net (cells_of h) ≡ total net (cells_of f))
walk_step net f g h s m b t ok table walk over eb et eg eh = (
  subst (λ j. IsWalk net (cells_of h) s j) (sym et) (walk_goes net (cells_of f) (cells_of g) (cells_of h) s m ok walk move first second),
  move_total net (cells_of f) (cells_of g) (cells_of h) (mover s m) m (to s m) first second,
)
  where
    move : IsMove net (cells_of f) s m
    move = walk_moves net (cells_of f) s m walk over

    first : Differs net (cells_of f) (cells_of g) (mover s m) m true false
    first = subst (λ j. Differs net (cells_of f) (cells_of j) (mover s m) m true false) (sym (eg ∙ ap (λ j. set_cell f j m false) eb)) (differs_set net f ok table (mover s m) m true false move.can.item walk.member move.can.placed)

    same_table : IsTable net g
    same_table = ap length eg ∙ length-set f (64 * b + m) false ∙ table

    missing : cells_of g (mover s m) (to s m) ≡ false
    missing = first.others (mover s m) (to s m) move.can.member (λ _ e. apart s (to s m) m move.earlier e) ∙ move.can.missing

    second : Differs net (cells_of g) (cells_of h) (mover s m) (to s m) false true
    second = subst (λ j. Differs net (cells_of g) (cells_of j) (mover s m) (to s m) false true) (sym (eh ∙ ap (λ j. set_cell g j t true) eb ∙ ap (λ j. set_cell g (mover s m) j true) et)) (differs_set net g ok same_table (mover s m) (to s m) false true move.can.item move.can.member missing)

-- one pair more is put in, by the flags
pub start_step : (net : Net) (f g : List Bool) (s : Marks) (b t : ℕ) → IsNet net → IsTable net f → Keeps net (cells_of f) → IsSearch net (cells_of f) s → IsWanted net (cells_of f) s b t →
    g ≡ set_cell f b t true → IsWalk net (cells_of g) s t × (total net (cells_of g) ≡ total net (cells_of f) + 1)
start_step net f g s b t ok table keeps is wanted eg =
    (walk_starts net (cells_of f) (cells_of g) s b t ok keeps is wanted d, more (total net (cells_of g)) (total net (cells_of f)) (total_at net (cells_of f) (cells_of g) b t false true d))
  where
    d : Differs net (cells_of f) (cells_of g) b t false true
    d = subst (λ j. Differs net (cells_of f) (cells_of j) b t false true) (sym eg) (differs_set net f ok table b t false true wanted.item wanted.member wanted.missing)

    more : (a c : ℕ) → a + 0 ≡ c + 1 → a ≡ c + 1
    more a c p = omega arith

-- a table has at most 64 pairs for an item
pub total_most : (net : Net) (x : Cells) → IsNet net → total net x ≤ 64 * items net
total_most net x ok = sum_to_most (items net) (λ i. row net x i) (λ i li. below (row net x i) (members net) (count_to_le (members net) (λ m. x i m)) ok.few_members)
  where
    below : (a k : ℕ) → a ≤ k → k ≤ 64 → a ≤ 64
    below a k p q = omega arith
