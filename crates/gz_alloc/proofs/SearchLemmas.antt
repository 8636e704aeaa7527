-- What a step of the search keeps.
use Rattle.std.proofs.Common.{◌≡◌, ℕ, ◌+◌, ◌<◌, ◌≤◌, ◌≢◌, ◌⊎◌, true, length, get_or, refl, ap, ◌∙◌, sym, subst, arith, nat_lt, inl, inr, ⊎_elim, get_or-set_same, get_or-set_other, length-set}
use Rattle.std.proofs.lemmas.List.{get_or-replicate, length-replicate}
use Rattle.std.proofs.lemmas.Bool.{cases_eq, cases_lt, lt-ltb, le-ltb}
use Rattle.gz_alloc.specs.Sums.{when, count_to}
use Rattle.gz_alloc.specs.Flow.{Net, IsNet, Cells, items, members, limit, zone, load}
use Rattle.gz_alloc.specs.Search.{Marks, target, rank, mover, to, is_open, CanMove, IsMove, IsReady, IsTarget, IsSearch, Grows, IsTaken, EachTaken, IsPassed, open_at, aim_at, IsWhole, Opens, Advances, new_marks, IsPassedAt, IsStart}
use Rattle.gz_alloc.proofs.SumLemmas.{sum_to_but, sum_to_zero, count_to_le, count_to_room}

below_at : (a b : ℕ) → b ≡ a → a < 64 → b < 64
below_at a b e h = omega arith

pub grows_trans : (r s t : Marks) → Grows r s → Grows s t → Grows r t
grows_trans r s t g h = record {
  members = λ m p. h.members m (below_at _ _ (g.members m p) p) ∙ g.members m p;
  items = λ b p. h.items b (below_at _ _ (g.items b p) p) ∙ g.items b p;
  later = λ m p q. ⊎_elim (λ (e : rank s m < 64). at_least r.found (rank s m) (rank t m) (g.later m p e) (h.members m e)) (λ (e : 64 ≤ rank s m). above r.found s.found (rank t m) g.more (h.later m e q)) (cases_lt (rank s m) 64);
  more = above r.found s.found t.found g.more h.more;
}
  where
    at_least : (a b c : ℕ) → a ≤ b → c ≡ b → a ≤ c
    at_least a b c p q = omega arith

    above : (a b c : ℕ) → a ≤ b → b ≤ c → a ≤ c
    above a b c p q = omega arith

-- a way stays a way
pub stays_open : (old new : Marks) → Grows old new → (m : ℕ) → rank old m < 64 → rank new m < 64
stays_open old new g m h = below_at _ _ (g.members m h) h

pub stays_aimed : (old new : Marks) → Grows old new → (b : ℕ) → target old b < 64 → target new b < 64
stays_aimed old new g b h = below_at _ _ (g.items b h) h

pub can_grows : (net : Net) (x : Cells) (old new : Marks) → IsNet net → Grows old new → (m b t : ℕ) → CanMove net x old m b t → CanMove net x new m b t
can_grows net x old new ok g m b t can = record {
  item = can.item;
  member = can.member;
  has_way = stays_open old new g t can.has_way;
  placed = can.placed;
  missing = can.missing;
  room = ⊎_elim (λ (e : zone net t ≡ zone net m). inl e) (λ (e : target old b ≡ t). inr (g.items b (small (target old b) t (members net) e can.member ok.few_members) ∙ e)) can.room;
}
  where
    small : (a t k : ℕ) → a ≡ t → t < k → k ≤ 64 → a < 64
    small a t k e p q = omega arith

pub passed_grows : (net : Net) (x : Cells) (old new : Marks) → Grows old new → (t b : ℕ) → IsPassed net x old t b → IsPassed net x new t b
passed_grows net x old new g t b (inl e) = inl e
passed_grows net x old new g t b (inr (inl e)) = inr (inl (stays_aimed old new g b e))
passed_grows net x old new g t b (inr (inr e)) = inr (inr (e.0, λ m lm p z. stays_open old new g m (e.1 m lm p z)))

pub open_grows : (s : Marks) (m b t : ℕ) → m < length s.ranks → 64 ≤ rank s m → Grows s (open_at s m b t)
open_grows s m b t lm h = record {
  members = λ m' p. get_or-set_other s.ranks m m' s.found 0 (apart m' p);
  items = λ b' p. refl;
  later = λ m' p q. ⊎_elim (λ (e : m' ≡ m). let at : rank (open_at s m b t) m' ≡ s.found = ap (rank (open_at s m b t)) e ∙ get_or-set_same s.ranks m s.found 0 lm in omega arith) (λ (ne : m' ≢ m). let at : rank (open_at s m b t) m' ≡ rank s m' = get_or-set_other s.ranks m m' s.found 0 ne in absurd (omega arith)) (cases_eq m' m);
  more = omega arith;
}
  where
    apart : (m' : ℕ) → rank s m' < 64 → m' ≢ m
    apart m' p e = let same : rank s m' ≡ rank s m = ap (rank s) e in omega arith

-- there is a rank for one more
pub rank_left : (net : Net) (x : Cells) (s : Marks) → IsNet net → IsSearch net x s → (m : ℕ) → m < members net → 64 ≤ rank s m → s.found < 64
rank_left net x s ok is m lm h =
    let room : count_to (members net) (λ m'. is_open s m') + 1 ≤ members net = count_to_room (members net) (λ m'. is_open s m') m lm (le-ltb (rank s m) 64 h) in
    less s.found (count_to (members net) (λ m'. is_open s m')) (members net) is.counted room ok.few_members
  where
    less : (a c k : ℕ) → a ≡ c → c + 1 ≤ k → k ≤ 64 → a < 64
    less a c k e p q = omega arith

pub opened : (net : Net) (x : Cells) (s : Marks) → IsNet net → IsSearch net x s → (m b t : ℕ) → m < members net → 64 ≤ rank s m → rank (open_at s m b t) m < 64
opened net x s ok is m b t lm h = below_at _ _ (get_or-set_same s.ranks m s.found 0 (within m (members net) (length s.ranks) is.each_rank lm)) (rank_left net x s ok is m lm h)
  where
    within : (m k l : ℕ) → l ≡ k → m < k → m < l
    within m k l e p = omega arith

pub open_keeps : (net : Net) (x : Cells) (s : Marks) → IsNet net → IsSearch net x s → (m b t : ℕ) → m < members net → 64 ≤ rank s m →
    (load net x m < limit net m) ⊎ CanMove net x s m b t → IsSearch net x (open_at s m b t)
open_keeps net x s ok is m b t lm h why = record {
  each_target = is.each_target;
  each_rank = length-set s.ranks m s.found ∙ is.each_rank;
  each_mover = length-set s.movers m b ∙ is.each_mover;
  each_to = length-set s.tos m t ∙ is.each_to;
  ready = λ m' lm' p. ⊎_elim (λ (e : m' ≡ m). subst (λ y. IsReady net x new y) (sym e) here) (λ (ne : m' ≢ m). there m' lm' ne (below_at _ _ (sym (other m' ne)) p)) (cases_eq m' m);
  aims = is.aims;
  counted = counts;
  below = λ m' lm' p. ⊎_elim (λ (e : m' ≡ m). first m' e) (λ (ne : m' ≢ m). second m' lm' ne (below_at _ _ (sym (other m' ne)) p)) (cases_eq m' m);
}
  where
    new : Marks
    new = open_at s m b t

    in_list : (l : ℕ) → l ≡ members net → m < l
    in_list l e = omega arith

    grows : Grows s new
    grows = open_grows s m b t (in_list (length s.ranks) is.each_rank) h

    at_m : rank new m ≡ s.found
    at_m = get_or-set_same s.ranks m s.found 0 (in_list (length s.ranks) is.each_rank)

    mover_at : mover new m ≡ b
    mover_at = get_or-set_same s.movers m b 0 (in_list (length s.movers) is.each_mover)

    to_at : to new m ≡ t
    to_at = get_or-set_same s.tos m t 0 (in_list (length s.tos) is.each_to)

    other : (m' : ℕ) → m' ≢ m → rank new m' ≡ rank s m'
    other m' ne = get_or-set_other s.ranks m m' s.found 0 ne

    shift : (a b c d : ℕ) → a ≡ b → c ≡ d → b < d → a < c
    shift a b c d p q r = omega arith

    move_here : CanMove net x s m b t → IsMove net x new m
    move_here can = record {
      can = subst (λ y. CanMove net x new m y (to new m)) (sym mover_at) (subst (λ y. CanMove net x new m b y) (sym to_at) (can_grows net x s new ok grows m b t can));
      earlier = subst (λ y. rank new y < rank new m) (sym to_at) (shift (rank new t) (rank s t) (rank new m) s.found (grows.members t can.has_way) at_m (is.below t can.member can.has_way));
    }

    here : IsReady net x new m
    here = ⊎_elim (λ (e : load net x m < limit net m). inl e) (λ (can : CanMove net x s m b t). inr (move_here can)) why

    move_there : (m' : ℕ) → m' ≢ m → rank s m' < 64 → IsMove net x s m' → IsMove net x new m'
    move_there m' ne p move = record {
      can = subst (λ y. CanMove net x new m' y (to new m')) (sym (get_or-set_other s.movers m m' b 0 ne)) (subst (λ y. CanMove net x new m' (mover s m') y) (sym (get_or-set_other s.tos m m' t 0 ne)) (can_grows net x s new ok grows m' (mover s m') (to s m') move.can));
      earlier = subst (λ y. rank new y < rank new m') (sym (get_or-set_other s.tos m m' t 0 ne)) (shift (rank new (to s m')) (rank s (to s m')) (rank new m') (rank s m') (grows.members (to s m') move.can.has_way) (other m' ne) move.earlier);
    }

    there : (m' : ℕ) → m' < members net → m' ≢ m → rank s m' < 64 → IsReady net x new m'
    there m' lm' ne p = ⊎_elim (λ (e : load net x m' < limit net m'). inl e) (λ (move : IsMove net x s m'). inr (move_there m' ne p move)) (is.ready m' lm' p)

    up : (a b c : ℕ) → a ≡ b → c + 0 ≡ a + 1 → b + 1 ≡ c
    up a b c p q = omega arith

    counts : new.found ≡ count_to (members net) (λ m'. is_open new m')
    counts =
        let but : count_to (members net) (λ m'. is_open new m') + when (is_open s m) 1 ≡ count_to (members net) (λ m'. is_open s m') + when (is_open new m) 1 =
        sum_to_but (members net) (λ m'. when (is_open new m') 1) (λ m'. when (is_open s m') 1) m lm (λ m' lm' ne. ap (λ y. when (nat_lt y 64) 1) (other m' ne)) in
        let closed : when (is_open s m) 1 ≡ 0 = ap (λ y. when y 1) (le-ltb (rank s m) 64 h) in
        let open_now : when (is_open new m) 1 ≡ 1 = ap (λ y. when y 1) (lt-ltb (rank new m) 64 (opened net x s ok is m b t lm h)) in
        add s.found (count_to (members net) (λ m'. is_open s m')) (count_to (members net) (λ m'. is_open new m')) (when (is_open s m) 1) (when (is_open new m) 1) is.counted but closed open_now
      where
        add : (f a c u v : ℕ) → f ≡ a → c + u ≡ a + v → u ≡ 0 → v ≡ 1 → f + 1 ≡ c
        add f a c u v p q r w = omega arith

    first : (m' : ℕ) → m' ≡ m → rank new m' < s.found + 1
    first m' e = let same : rank new m' ≡ s.found = ap (rank new) e ∙ at_m in omega arith

    second : (m' : ℕ) → m' < members net → m' ≢ m → rank s m' < 64 → rank new m' < s.found + 1
    second m' lm' ne p = let same : rank new m' ≡ rank s m' = other m' ne in let low : rank s m' < s.found = is.below m' lm' p in omega arith

pub aim_grows : (s : Marks) (b t : ℕ) → 64 ≤ target s b → Grows s (aim_at s b t)
aim_grows s b t h = record {
  members = λ m p. refl;
  items = λ b' p. get_or-set_other s.targets b b' t 0 (apart b' p);
  later = λ m p q. absurd (omega arith);
  more = omega arith;
}
  where
    apart : (b' : ℕ) → target s b' < 64 → b' ≢ b
    apart b' p e = let same : target s b' ≡ target s b = ap (target s) e in omega arith

pub aim_keeps : (net : Net) (x : Cells) (s : Marks) → IsNet net → IsSearch net x s → (b t : ℕ) → b < items net → 64 ≤ target s b → IsTarget net x b t → IsSearch net x (aim_at s b t)
aim_keeps net x s ok is b t lb h aim = record {
  each_target = length-set s.targets b t ∙ is.each_target;
  each_rank = is.each_rank;
  each_mover = is.each_mover;
  each_to = is.each_to;
  ready = λ m lm p. ⊎_elim (λ (e : load net x m < limit net m). inl e) (λ (move : IsMove net x s m). inr (again m move)) (is.ready m lm p);
  aims = λ b' lb' p. ⊎_elim (λ (e : b' ≡ b). subst (λ y. IsTarget net x y (target new y)) (sym e) (subst (λ y. IsTarget net x b y) (sym at_b) aim)) (λ (ne : b' ≢ b). subst (λ y. IsTarget net x b' y) (sym (other b' ne)) (is.aims b' lb' (below_at _ _ (sym (other b' ne)) p))) (cases_eq b' b);
  counted = is.counted;
  below = is.below;
}
  where
    new : Marks
    new = aim_at s b t

    in_list : (l : ℕ) → l ≡ items net → b < l
    in_list l e = omega arith

    at_b : target new b ≡ t
    at_b = get_or-set_same s.targets b t 0 (in_list (length s.targets) is.each_target)

    other : (b' : ℕ) → b' ≢ b → target new b' ≡ target s b'
    other b' ne = get_or-set_other s.targets b b' t 0 ne

    again : (m : ℕ) → IsMove net x s m → IsMove net x new m
    again m move = record {
      can = can_grows net x s new ok (aim_grows s b t h) m (mover s m) (to s m) move.can;
      earlier = move.earlier;
    }

pub opens : (net : Net) (x : Cells) (s : Marks) → IsNet net → IsSearch net x s → (m b t : ℕ) → m < members net → 64 ≤ rank s m →
    (load net x m < limit net m) ⊎ CanMove net x s m b t → Opens net x s (open_at s m b t)
opens net x s ok is m b t lm h why = record {
  search = open_keeps net x s ok is m b t lm h why;
  grows = open_grows s m b t (in_list (length s.ranks) is.each_rank) h;
  same = refl;
}
  where
    in_list : (l : ℕ) → l ≡ members net → m < l
    in_list l e = omega arith

pub advances_trans : (net : Net) (x : Cells) (r s t : Marks) → Advances net x r s → Advances net x s t → Advances net x r t
advances_trans net x r s t g h = record { search = h.search; grows = grows_trans r s t g.grows h.grows; taken = h.taken }

-- those that were found after members of a rank have greater ranks
pub later_more : (r s new : Marks) → Grows s new → (head : ℕ) → head < s.found → ((m : ℕ) → 64 ≤ rank r m → rank s m < 64 → head < rank s m) →
    (m : ℕ) → 64 ≤ rank r m → rank new m < 64 → head < rank new m
later_more r s new g head h before m p q =
    ⊎_elim (λ (e : rank s m < 64). at head (rank s m) (rank new m) (before m p e) (g.members m e)) (λ (e : 64 ≤ rank s m). above head s.found (rank new m) h (g.later m e q)) (cases_lt (rank s m) 64)
  where
    at : (a b c : ℕ) → a < b → c ≡ b → a < c
    at a b c u v = omega arith

    above : (a b c : ℕ) → a < b → b ≤ c → a < c
    above a b c u v = omega arith

-- each item has passed one more member
pub passed_at_more : (net : Net) (x : Cells) (s new : Marks) → Grows s new → (head n : ℕ) → head < 64 → head < s.found → IsPassedAt net x s head n →
    ((b : ℕ) → b < items net → IsPassed net x new n b) → IsPassedAt net x new head (n + 1)
passed_at_more net x s new g head n h low before here t b lt at lb =
    ⊎_elim (λ (e : t ≡ n). subst (λ y. IsPassed net x new y b) (sym e) (here b lb)) (λ (ne : t ≢ n). earlier (lower t n lt ne)) (cases_eq t n)
  where
    lower : (m n : ℕ) → m < n + 1 → m ≢ n → m < n
    lower m n p q = omega arith

    small : (a b : ℕ) → a ≡ b → b < 64 → a < 64
    small a b p q = omega arith

    no : (a b c : ℕ) → a ≤ b → b ≡ c → c < a → ⊥
    no a b c p q r = omega arith

    earlier : t < n → IsPassed net x new t b
    earlier lt' = ⊎_elim
        (λ (e : rank s t < 64). passed_grows net x s new g t b (before t b lt' (sym (g.members t e) ∙ at) lb))
        (λ (e : 64 ≤ rank s t). absurd (no s.found (rank new t) head (g.later t e (small (rank new t) head at h)) at low))
        (cases_lt (rank s t) 64)

-- the member isn't of the rank
pub passed_at_other : (net : Net) (x : Cells) (s : Marks) (head n : ℕ) → rank s n ≢ head → IsPassedAt net x s head n → IsPassedAt net x s head (n + 1)
passed_at_other net x s head n ne before t b lt at lb =
    ⊎_elim (λ (e : t ≡ n). absurd (ne (ap (rank s) (sym e) ∙ at))) (λ (other : t ≢ n). before t b (lower t n lt other) at lb) (cases_eq t n)
  where
    lower : (m n : ℕ) → m < n + 1 → m ≢ n → m < n
    lower m n p q = omega arith

-- each item has passed the members of one more rank
pub passed_ranks_more : (net : Net) (x : Cells) (s new : Marks) → Grows s new → (head : ℕ) → head < 64 → ((m : ℕ) → 64 ≤ rank s m → rank new m < 64 → head < rank new m) →
    ((r : ℕ) → r < head → IsPassedAt net x s r (members net)) → IsPassedAt net x new head (members net) → (r : ℕ) → r < head + 1 → IsPassedAt net x new r (members net)
passed_ranks_more net x s new g head h later before here r lr t b lt at lb =
    ⊎_elim (λ (e : r ≡ head). here t b lt (at ∙ e) lb) (λ (ne : r ≢ head). earlier (lower r head lr ne)) (cases_eq r head)
  where
    lower : (m n : ℕ) → m < n + 1 → m ≢ n → m < n
    lower m n p q = omega arith

    small : (a b c : ℕ) → a ≡ b → b < c → c < 64 → a < 64
    small a b c p q u = omega arith

    no : (a b c : ℕ) → a < b → b ≡ c → c < a → ⊥
    no a b c p q u = omega arith

    earlier : r < head → IsPassed net x new t b
    earlier lr' = ⊎_elim
        (λ (e : rank s t < 64). passed_grows net x s new g t b (before r lr' t b lt (sym (g.members t e) ∙ at) lb))
        (λ (e : 64 ≤ rank s t). absurd (no head (rank new t) r (later t e (small (rank new t) r head at lr' h)) at lr'))
        (cases_lt (rank s t) 64)

-- the search is at its end after each rank
pub whole_at_end : (net : Net) (x : Cells) (s : Marks) → IsStart net x s → ((r : ℕ) → r < members net → IsPassedAt net x s r (members net)) → IsWhole net x s
whole_at_end net x s start passed = record {
  search = start.search;
  taken = start.taken;
  roomy = start.roomy;
  passed = λ t b lt open_ lb. passed (rank s t) (low (rank s t) s.found (count_to (members net) (λ m. is_open s m)) (members net) (start.search.below t lt open_) start.search.counted (count_to_le (members net) (λ m. is_open s m))) t b lt refl lb;
}
  where
    low : (a f c k : ℕ) → a < f → f ≡ c → c ≤ k → a < k
    low a f c k p q u = omega arith

pub start_grows : (net : Net) (x : Cells) (s new : Marks) → IsStart net x s → Advances net x s new → IsStart net x new
start_grows net x s new start g = record { search = g.search; taken = g.taken; roomy = λ m lm p. stays_open s new g.grows m (start.roomy m lm p) }

-- a search begins
pub begins : (net : Net) (x : Cells) → IsSearch net x (new_marks (items net) (members net))
begins net x = record {
  each_target = length-replicate (items net) 64;
  each_rank = length-replicate (members net) 64;
  each_mover = length-replicate (members net) 0;
  each_to = length-replicate (members net) 0;
  ready = λ m lm p. absurd (no (rank s m) (at m lm) p);
  aims = λ b lb p. absurd (no (target s b) (get_or-replicate (items net) b 64 0 lb) p);
  counted = sym (sum_to_zero (members net) (λ m. when (is_open s m) 1) (λ m lm. ap (λ y. when (nat_lt y 64) 1) (at m lm)));
  below = λ m lm p. absurd (no (rank s m) (at m lm) p);
}
  where
    s : Marks
    s = new_marks (items net) (members net)

    at : (m : ℕ) → m < members net → rank s m ≡ 64
    at m lm = get_or-replicate (members net) m 64 0 lm

    no : (a : ℕ) → a ≡ 64 → a < 64 → ⊥
    no a e p = omega arith

pub begins_untargeted : (net : Net) (b : ℕ) → b < items net → 64 ≤ target (new_marks (items net) (members net)) b
begins_untargeted net b lb = let e : target (new_marks (items net) (members net)) b ≡ 64 = get_or-replicate (items net) b 64 0 lb in omega arith
