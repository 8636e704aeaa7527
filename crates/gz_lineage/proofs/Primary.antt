-- An open primary's rules: it opens, puts entries, and raises its head to what all members hold. Where its epoch is the
-- greatest open one, the journal grows with the head (`becomes_top`). Where a later epoch has opened, some member of this
-- one is frozen at what the later one adopted, so the head can't get past that, and nothing is added (`stays_below`).
use Rattle.gz_lineage.specs.Marks.{Mark, Added, IsPut, MarkLanded, Lawful, judged_at, end_behind, entry_behind}
use Rattle.gz_journal.specs.declared.request.Request.{Request}
use Rattle.gz_lineage.proofs.Landing.{lawful_push, lands_full}
use Rattle.std.proofs.Common.{◌≡◌, ℕ, ◌+◌, ◌<◌, ◌≤◌, max, List, [], ◌∷◌, ◌++◌, length, take, drop, refl, ap, sym, ◌∙◌, arith, true, false, eqb, inl, inr, subst, Option, Some, None}
use Rattle.gz_lineage.specs.Prefix.{IsPrefix}
use Rattle.gz_lineage.specs.Lists.{In, Each, names as names_of, all_at}
use Rattle.gz_lineage.specs.Nodes.{Route, Part, Node, Message, Letter, Outcome, Closed, Opening, Adopting, Syncing, Open, Adopted, Replicate, Held, Head, Done}
use Rattle.gz_lineage.specs.Rules.{image_of}
use Rattle.gz_lineage.specs.Safety.{IsVouched}
use Rattle.gz_lineage.proofs.Prefixes.{pre_refl, pre_push, pre_take, pre_trans, pre_both, pre_take_of, pre_nil, len_take_le, len_take, pre_shorter}
use Rattle.gz_lineage.specs.Rules
use Rattle.gz_lineage.specs.Safety
use Rattle.gz_lineage.proofs.Listed.{each_map, each_in, each_append, names_all}
use Rattle.gz_lineage.proofs.Facts.{RouteOk, HeadOk, ReachOk, AllHeld, CappedDead, IsTop, Plain, Global, IsOpen, PartOk, BodyOk, NodeOk, MessageOk, LetterOk, AllOk, Kept}
use Rattle.gz_lineage.proofs.History.{Keys, Ghost, IsMember, Grows, Only}
use Rattle.std.proofs.lemmas.Bool.{ltb-true, leb-true, eqb-true, cond_both, true≢false, cases_lt, cases_order, cases_eq}
use Rattle.std.specs.Prelude.{nat_lt, nat_le}
use Rattle.std.proofs.lemmas.List.{drop-append-le, length_push, get_or_push, take_all}
use Rattle.gz_lineage.proofs.Frame.{copy_up, reach_up, adopted_up}
use Rattle.gz_lineage.proofs.Moves.{upd_here, upd_other, upd_each, set_end, end_here, end_node, end_epoch, end_more, end_frozen, moved, grows_moved, only_moved, le_same, global_moved, opened_to, kept_after, still, grown_short, grown_long}
use Rattle.gz_lineage.proofs.Moves.{upd}
use Rattle.gz_lineage.proofs.Members.{to_each_ok, each_all}

-- the spool stays where the head rises
pub with_head_spool : (n : ℕ) (st : Node) (r : Route) (held : List (ℕ × ℕ)) (queue : List ℕ) (h : ℕ) → (Rules.with_head n st r held queue h).node.spool ≡ st.spool
with_head_spool n st r held queue h = cond_both (nat_lt st.head h) _ _ (λ (o : Outcome). o.node.spool ≡ st.spool) (λ _. refl) (λ _. refl)

-- what a least end is at most
pub least_own : (k : ℕ) (ps : List (ℕ × ℕ)) → Rules.least k ps ≤ k
least_own k [] = omega arith
least_own k (p ∷ ps) = omega (arith, least_own k ps)

less_says : (e k j : ℕ) → j ≤ k → (b : Message) → Safety.Says e k b → Safety.Says e j b
less_says e k j l (Held d x) a = (a.0, omega (arith, a.1))
less_says e k j l (Adopted d x) a = (a.0, omega (arith, a.1))
less_says e k j l _ a = a

pub less_reach : (g : Ghost) (e m k j : ℕ) → j ≤ k → ReachOk g e m k → ReachOk g e m j
less_reach g e m k j l a = record { adopted = a.adopted; reach = omega (arith, a.reach); vouched = (a.vouched.0, a.vouched.1, a.vouched.2, less_says e k j l a.vouched.0.body a.vouched.3) }

least_reach : (g : Ghost) (e j k : ℕ) (ps : List (ℕ × ℕ)) → AllHeld g e ps → j ≤ Rules.least k ps → Each (λ m. ReachOk g e m j) (names_of ps)
least_reach g e j k [] a l = tt
least_reach g e j k (p ∷ ps) a l = (less_reach g e p.0 p.1 j (omega arith) a.0, least_reach g e j k ps a.1 (omega arith))

-- what covers a head covers each place below it
head_below : (g : Ghost) (e h k : ℕ) → k ≤ h → HeadOk g e h → HeadOk g e k
head_below g e h k l a = record { fits = omega (arith, a.fits); prefix = pre_trans (pre_shorter k h (g.text e) l) a.prefix }

answers_ok : (K : Keys) (g : Ghost) (self e head : ℕ) (qs : List ℕ) → ((k : ℕ) → k ≤ head → MessageOk K g self Rules.keys (Done e k)) → AllOk K g (Rules.answers self e head qs)
answers_ok K g self e head [] f = tt
answers_ok K g self e head (q ∷ qs) f = cond_both (nat_le q head) _ _ (AllOk K g) (λ x. (f q (leb-true q head x), answers_ok K g self e head qs f)) (λ _. answers_ok K g self e head qs f)

-- a primary of epoch e whose head covers this prefix of its text
pub record Raised (K : Keys) (g : Ghost) (n e : ℕ) (prefix : List Mark) : Type 0 where
  pub t : ℕ
  pub j : List Mark
  pub grows : Grows g (opened_to g t j)
  pub only : Only K n g (opened_to g t j)
  pub global : Global K (opened_to g t j)
  pub journal : j ≡ g.journal ++ drop (length g.journal) prefix
  pub covers : IsPrefix prefix j
  pub below : e ≤ t
  pub least : t ≤ max g.top e
  pub top : e ≡ t → j ≡ prefix

grows_opened : (g : Ghost) (t : ℕ) (j : List Mark) → g.top ≤ t → IsPrefix g.journal j → Grows g (opened_to g t j)
grows_opened g t j l p = record {
  prom = le_same g.prom;
  adop = le_same g.adop;
  ends = λ m. le_same (g.ends m);
  frozen = λ m e l. refl;
  text = λ e. pre_refl (g.text e);
  made = λ e h. (h, refl, refl);
  top = l;
  journal = p;
  taken = λ l i. i;
  gone = λ m h. h;
}

global_opened : (K : Keys) (g : Ghost) (t : ℕ) (j : List Mark) → Grows g (opened_to g t j) → 0 < t → IsTop K (opened_to g t j) →
    ((e s : ℕ) → g.made e ≡ true → K.synced s ≡ true → s < e → CappedDead K g s e → s ≡ t → IsPrefix j (g.text e) × (length j ≤ g.base e)) →
    ((e : ℕ) → K.known e ≡ true → K.dead e ≡ true → t ≤ K.opened e → length j ≤ K.floor e) → Global K g → Global K (opened_to g t j)
global_opened K g t j up pos top cd dd a = record {
  known = a.known;
  before = a.before;
  synced = λ s y. let x = a.synced s y in (x.0, adopted_up K g (opened_to g t j) up s x.1);
  opened = a.opened;
  witness = a.witness;
  dead = λ e k d. let x = a.dead e k d in record {
    gone = x.gone;
    below = omega (arith, x.below, up.top);
    top = dd e k d;
    real = λ p. let y = x.real p in record { synced = y.synced; base = y.base; within = pre_trans y.within up.journal };
  };
  capped = λ e s m y l. elim (a.capped e s m y l) [
    | inl c ↦ inl (record { by = c.by; member = c.member; gone = c.gone; short = c.short; fits = c.fits; within = c.within })
    | inr c ↦ inr (record { gone = c.gone; top = cd e s m y l c })
  ];
  base = a.base;
  made = a.made;
  puts = a.puts;
  lawful = a.lawful;
  unopened = λ e m l. a.unopened e m (omega (arith, up.top));
  born = a.born;
  birth = λ b m p s. let x = a.birth b m p s in (x.0, pre_trans x.1 up.journal, x.2);
  since = a.since;
  pick = λ e m p. elim (a.pick e m p) [
    | inl x ↦ inl x
    | inr x ↦ inr (record { from = x.from; less = x.less; enough = x.enough; made = x.made; same = x.same; within = x.within })
  ];
  by_lead = a.by_lead;
  unmade = a.unmade;
  nothing = a.nothing;
  none_open = λ z. absurd (omega arith);
  top = λ _. top;
}

-- what was journal before is in each later epoch's text
pub journal_in : (K : Keys) (g : Ghost) → Global K g → (e : ℕ) → g.made e ≡ true → g.top < e → IsPrefix g.journal (g.text e) × (length g.journal ≤ g.base e)
journal_in K g gl e m l = elim (cases_lt 0 g.top) [
  | inl x ↦ (let t : IsTop K g = gl.top x in elim (gl.capped e g.top m t.synced l) [
    | inl c ↦ (let p : length g.journal ≤ g.ends c.by g.top = t.reach c.by c.member in
        let q : IsPrefix g.journal (take (g.ends c.by g.top) (g.text g.top)) = pre_both t.within (pre_take (g.ends c.by g.top) (g.text g.top)) (omega (arith, len_take (g.ends c.by g.top) (g.text g.top) c.fits)) in
        (pre_trans q c.within, omega (arith, c.short)))
    | inr c ↦ c.top refl
  ])
  | inr x ↦ (let z : g.journal ≡ [] = gl.none_open (omega arith) in rw z (pre_nil (g.text e), omega arith))
]

module _ (K : Keys) (g : Ghost) (n e h : ℕ) (spool : List Mark) (gl : Global K g)
    (synced : K.synced e ≡ true) (lead : K.lead e ≡ n) (whole : spool ≡ g.text e) (base : g.base e ≤ h) (fits : h ≤ length spool)
    (reach : (m : ℕ) → IsMember K e m → h ≤ g.ends m e) (runs : g.gone n ≡ false) where
  positive : 0 < e
  positive = (gl.known e (gl.synced e synced).0).0

  -- n runs, and leads e
  not_gone : (s : ℕ) → s ≡ e → ((m : ℕ) → IsMember K s m → g.gone m ≡ true) → ⊥
  not_gone s x y = true≢false (sym (y (K.lead s) (inl refl)) ∙ ap (λ d. g.gone (K.lead d)) x ∙ ap g.gone lead ∙ runs)

  becomes_top : g.top ≤ e → IsPrefix g.journal (take h spool) → Raised K g n e (take h spool)
  becomes_top l p = let up : Grows g (opened_to g e (take h spool)) = grows_opened g e (take h spool) l p in record {
    t = e;
    j = take h spool;
    grows = up;
    only = record { node = λ m d. (refl, refl, λ x. refl); text = λ d x. (refl, refl); top = λ d. absurd (d lead) };
    global = global_opened K g e (take h spool) up positive (record {
      synced = synced;
      within = rw whole (pre_take h (g.text e));
      base = rw len_take base;
      reach = λ m i. rw len_take (reach m i);
    })
        (λ d s m y x c z. absurd (not_gone s z c.gone))
        (λ d k x z. let q = gl.dead d k x in absurd (not_gone e refl (λ m i. q.gone e m synced (omega (arith, q.below)) z i)))
        gl;
    journal = sym (grown_long g.journal (take h spool) p);
    covers = pre_refl (take h spool);
    below = omega arith;
    least = omega arith;
    top = λ _. refl;
  }

  stays_below : e < g.top → Raised K g n e (take h spool)
  stays_below l =
      let t : IsTop K g = gl.top (omega arith) in
      elim (gl.capped g.top e (gl.synced g.top t.synced).1.made synced l) [
        | inl c ↦ (let p : IsPrefix (take (g.ends c.by e) (g.text e)) g.journal = pre_both c.within t.within (omega (arith, len_take_le (g.ends c.by e) (g.text e), c.short, t.base)) in
            let q : IsPrefix (take h spool) g.journal = rw whole (pre_trans (pre_shorter h (g.ends c.by e) (g.text e) (reach c.by c.member)) p) in
            let up : Grows g (opened_to g g.top g.journal) = grows_opened g g.top g.journal (omega arith) (pre_refl g.journal) in
            record {
              t = g.top;
              j = g.journal;
              grows = up;
              only = record { node = λ m d. (refl, refl, λ x. refl); text = λ d x. (refl, refl); top = λ d. (refl, refl) };
              global = gl;
              journal = sym (grown_short g.journal (take h spool) q);
              covers = q;
              below = omega arith;
              least = omega arith;
              top = λ x. absurd (omega arith);
            })
        | inr c ↦ absurd (not_gone e refl c.gone)
      ]

-- a node at the new ghost with its head at h
module _ (K : Keys) (g : Ghost) (n : ℕ) (st : Node) (b : BodyOk K g n st) (h : ℕ) (fits : h ≤ length st.spool) (r : Route)
    (synced : K.synced r.epoch ≡ true) (route : RouteOk K r) (mine : r.lead ≡ n) (whole : st.spool ≡ g.text r.epoch) (adopted : st.adopted ≡ r.epoch) (promised : st.promised ≡ r.epoch)
    (made : g.made r.epoch ≡ true) (base : g.base r.epoch ≤ h) (x : Raised K g n r.epoch (take h st.spool)) where
  head_covers : HeadOk (opened_to g x.t x.j) r.epoch h
  head_covers = record { fits = rw whole at fits; prefix = rw (← whole) x.covers }

  open_node : (held : List (ℕ × ℕ)) (queue : List ℕ) → AllHeld g r.epoch held → names_of held ≡ r.others → NodeOk K (opened_to g x.t x.j) n (record st { head = h; part = Open r held queue })
  open_node held queue told all = record {
    body = record {
      promised = b.promised;
      adopted = b.adopted;
      order = b.order;
      copy = copy_up K g (opened_to g x.t x.j) x.grows st.adopted st.spool b.copy;
      reach = b.reach;
      member = b.member;
      image = record { fits = fits; prefix = x.covers };
      later = b.later;
    };
    part = record {
      route = route;
      mine = mine;
      promised = promised;
      adopted = adopted;
      whole = whole;
      made = made;
      base = base;
      synced = synced;
      told = each_map (λ p y. reach_up K g (opened_to g x.t x.j) x.grows r.epoch p.0 p.1 y) held told;
      all = all;
      below = x.below;
      top = x.top;
    };
  }

  opens_kept : (held : List (ℕ × ℕ)) (queue : List ℕ) (ls : List Letter) → AllHeld g r.epoch held → names_of held ≡ r.others → AllOk K (opened_to g x.t x.j) ls → Global K g →
      Kept K g n (record { node = record st { head = h; part = Open r held queue }; sends = ls })
  opens_kept held queue ls told all ok gl = record { after = opened_to g x.t x.j; grows = x.grows; only = x.only; global = x.global; node = open_node held queue told all; sends = ok; journal = x.journal; top = x.least; taken = refl; gone = λ m. refl; texts = λ e. inl refl }

module _ (K : Keys) (g : Ghost) (n : ℕ) (st : Node) (gl : Global K g) (b : BodyOk K g n st) (runs : g.gone n ≡ false) where
  module _ (r : Route) (held : List (ℕ × ℕ)) (queue : List ℕ) (a : IsOpen K g n st r held) (h : ℕ) (low : h ≤ Rules.least (length st.spool) held) where
    all_reach : (m : ℕ) → IsMember K r.epoch m → h ≤ g.ends m r.epoch
    all_reach m i = elim i [
      | inl x ↦ (let y : m ≡ n = x ∙ a.route.lead ∙ a.mine in
          let z : length st.spool ≡ g.ends n r.epoch = rw a.adopted at b.reach in
          rw y (omega (arith, least_own (length st.spool) held)))
      | inr x ↦ (let y : In m r.others = rw a.route.others at x in
          (each_in (λ m. ReachOk g r.epoch m h) r.others m (rw a.all at (least_reach g r.epoch h (length st.spool) held a.told low)) y).reach)
    ]

    to_others : (j : ℕ) → j ≤ h → Each (IsVouched g.taken r.epoch j) (K.others r.epoch)
    to_others j l = rw (a.route.others, ← a.all) (each_map (λ m x. x.vouched) (names_of held) (least_reach g r.epoch j (length st.spool) held a.told (omega arith)))

    raises_to : st.head < h → Raised K g n r.epoch (take h st.spool)
    raises_to more =
        let fits : h ≤ length st.spool = omega (arith, least_own (length st.spool) held) in
        elim (cases_order r.epoch g.top) [
          | inl x ↦ becomes_top K g n r.epoch h st.spool gl a.synced (a.route.lead ∙ a.mine) a.whole (omega (arith, a.base)) fits all_reach runs (omega arith)
              (rw (a.top x) (pre_shorter st.head h st.spool (omega arith)))
          | inr y ↦ elim y [
            | inl z ↦ stays_below K g n r.epoch h st.spool gl a.synced (a.route.lead ∙ a.mine) a.whole (omega (arith, a.base)) fits all_reach runs z
            | inr z ↦ absurd (omega (arith, a.below))
          ]
        ]

    -- the head rises
    pub with_head_kept : Kept K g n (Rules.with_head n st r held queue h)
    with_head_kept = cond_both (nat_lt st.head h) _ _ (Kept K g n)
        (λ t. let more : st.head < h = ltb-true st.head h t in
        let fits : h ≤ length st.spool = omega (arith, least_own (length st.spool) held) in
        let base : g.base r.epoch ≤ h = omega (arith, a.base) in
        let x = raises_to more in
        opens_kept K g n st b h fits r a.synced a.route a.mine a.whole a.adopted a.promised a.made base x held (Rules.waiting h queue) _ a.told a.all
        (each_append (LetterOk K (opened_to g x.t x.j)) _ _
        (answers_ok K (opened_to g x.t x.j) n r.epoch h queue (λ k l. (
          a.route.known,
          to_others k l,
          head_below (opened_to g x.t x.j) r.epoch h k l (head_covers K g n st b h fits r a.synced a.route a.mine a.whole a.adopted a.promised a.made base x),
        )))
        (to_each_ok K (opened_to g x.t x.j) n (Head r.epoch h) r.others (each_all _ r.others (λ m. head_covers K g n st b h fits r a.synced a.route a.mine a.whole a.adopted a.promised a.made base x))))
        gl)
        (λ _. still K g n (record st { part = Open r held queue }) [] gl
        (record {
          body = record { promised = b.promised; adopted = b.adopted; order = b.order; copy = b.copy; reach = b.reach; member = b.member; image = b.image; later = b.later };
          part = record { route = a.route; mine = a.mine; promised = a.promised; adopted = a.adopted; whole = a.whole; made = a.made; base = a.base; synced = a.synced; told = a.told; all = a.all; below = a.below; top = a.top };
        })
        tt (sym (grown_short g.journal (take st.head st.spool) b.image.prefix)))

  held_raised : (e m k : ℕ) (ps : List (ℕ × ℕ)) → ReachOk g e m k → AllHeld g e ps → AllHeld g e (Rules.raised m k ps)
  held_raised e m k [] l a = tt
  held_raised e m k (p ∷ ps) l a = (
    cond_both (eqb m p.0) (p.0, max p.1 k) p (λ q. ReachOk g e q.0 q.1)
        (λ x. let h : m ≡ p.0 = eqb-true m p.0 x in
        let l' : ReachOk g e p.0 k = rw h at l in
        elim (cases_lt p.1 k) [
          | inl y ↦ (let z : max p.1 k ≡ k = omega arith in rw z l')
          | inr y ↦ (let z : max p.1 k ≡ p.1 = omega arith in rw z a.0)
        ])
        (λ _. a.0),
    held_raised e m k ps l a.1,
  )

  names_raised : (m k : ℕ) (ps : List (ℕ × ℕ)) → names_of (Rules.raised m k ps) ≡ names_of ps
  names_raised m k [] = refl
  names_raised m k (p ∷ ps) =
      cond_both (eqb m p.0) (p.0, max p.1 k) p (λ q. q.0 ∷ names_of (Rules.raised m k ps) ≡ p.0 ∷ names_of ps)
      (λ _. ap (λ l. p.0 ∷ l) (names_raised m k ps)) (λ _. ap (λ l. p.0 ∷ l) (names_raised m k ps))

  -- a member holds
  pub keeps_held : (from e reach : ℕ) → ReachOk g e from reach → (p : Part) → PartOk K g n st p → Kept K g n (Rules.idle st) → Kept K g n (Rules.on_held n st from e reach p)
  keeps_held from e reach m Closed a i = i
  keeps_held from e reach m (Opening r reports names) a i = i
  keeps_held from e reach m (Adopting r reached) a i = i
  keeps_held from e reach m (Syncing r) a i = i
  keeps_held from e reach m (Open r held queue) a i = cond_both (eqb e r.epoch) _ _ (Kept K g n)
      (λ x. let d : e ≡ r.epoch = eqb-true e r.epoch x in
      with_head_kept r (Rules.raised from reach held) queue
      (record {
        route = a.route;
        mine = a.mine;
        promised = a.promised;
        adopted = a.adopted;
        whole = a.whole;
        made = a.made;
        base = a.base;
        synced = a.synced;
        told = held_raised r.epoch from reach held (rw d at m) a.told;
        all = names_raised from reach held ∙ a.all;
        below = a.below;
        top = a.top;
      })
      (Rules.least (length st.spool) (Rules.raised from reach held)) (omega arith))
      (λ _. i)

module _ (K : Keys) (g : Ghost) (n : ℕ) (st : Node) (gl : Global K g) (b : BodyOk K g n st) (runs : g.gone n ≡ false) where
  all_held : (e k : ℕ) (ms : List ℕ) → Each (λ m. ReachOk g e m k) ms → AllHeld g e (all_at k ms)
  all_held e k [] a = tt
  all_held e k (m ∷ ms) a = (a.0, all_held e k ms a.1)

  -- it opens
  pub keeps_txn_ok : (e : ℕ) → K.synced e ≡ true → (p : Part) → PartOk K g n st p → Kept K g n (Rules.idle st) → Kept K g n (Rules.on_txn_ok n st e p)
  keeps_txn_ok e y Closed a i = i
  keeps_txn_ok e y (Opening r reports names) a i = i
  keeps_txn_ok e y (Adopting r reached) a i = i
  keeps_txn_ok e y (Open r held queue) a i = i
  keeps_txn_ok e y (Syncing r) a i = cond_both (eqb e r.epoch) _ _ (Kept K g n)
      (λ t. let d : e ≡ r.epoch = eqb-true e r.epoch t in
      let synced : K.synced r.epoch ≡ true = rw d at y in
      let lead : K.lead r.epoch ≡ n = a.route.lead ∙ a.mine in
      let h = length st.spool in
      let fits : h ≤ length st.spool = omega arith in
      let base : g.base r.epoch ≤ h = omega (arith, a.base) in
      let w : take h st.spool ≡ st.spool = take_all h st.spool fits in
      let reach : (m : ℕ) → IsMember K r.epoch m → h ≤ g.ends m r.epoch = λ m i. elim i [
        | inl z ↦ rw z (omega (arith, a.everyone.lead.1, a.base))
        | inr z ↦ (let q = each_in (λ m. ReachOk g r.epoch m (g.base r.epoch)) (K.others r.epoch) m a.everyone.others z in omega (arith, q.reach, a.base))
      ] in
      let x : Raised K g n r.epoch (take h st.spool) = elim (cases_order r.epoch g.top) [
        | inl z ↦ (let t = gl.top (let p = (gl.known r.epoch (gl.synced r.epoch synced).0).0 in omega arith) in
            let q : IsPrefix g.journal (take h st.spool) = rw (w, a.whole, z) t.within in
            becomes_top K g n r.epoch h st.spool gl synced lead a.whole base fits reach runs (omega arith) q)
        | inr z ↦ elim z [
          | inl l ↦ stays_below K g n r.epoch h st.spool gl synced lead a.whole base fits reach runs l
          | inr l ↦ becomes_top K g n r.epoch h st.spool gl synced lead a.whole base fits reach runs (omega arith)
              (rw (w, a.whole) (journal_in K g gl r.epoch a.everyone.made l).0)
        ]
      ] in
      rw d (opens_kept K g n st b h fits r synced a.route a.mine a.whole a.adopted a.promised a.everyone.made base x (all_at h r.others) [] _
      (all_held r.epoch h r.others (rw (a.base, a.route.others) at a.everyone.others))
      (names_all h r.others)
      (to_each_ok K (opened_to g x.t x.j) n (Head r.epoch h) r.others (each_all _ r.others (λ m. head_covers K g n st b h fits r synced a.route a.mine a.whole a.adopted a.promised a.everyone.made base x)))
      gl))
      (λ _. i)

  pub keeps_txn_no : (e : ℕ) (p : Part) → PartOk K g n st p → Kept K g n (Rules.idle st) → Kept K g n (Rules.on_txn_no n st e p)
  keeps_txn_no e Closed a i = i
  keeps_txn_no e (Opening r reports names) a i = i
  keeps_txn_no e (Adopting r reached) a i = i
  keeps_txn_no e (Open r held queue) a i = i
  keeps_txn_no e (Syncing r) a i = cond_both (eqb e r.epoch) _ _ (Kept K g n)
      (λ _. still K g n (record st { part = Closed }) [] gl (record { body = record { promised = b.promised; adopted = b.adopted; order = b.order; copy = b.copy; reach = b.reach; member = b.member; image = b.image; later = b.later }; part = tt }) tt refl)
      (λ _. i)

  -- an entry is put
  keeps_puts : (x : Mark) → IsPut x → MarkLanded st.spool x → (p : Part) → PartOk K g n st p → Kept K g n (Rules.idle st) → Kept K g n (Rules.puts n st x p)
  keeps_puts x plain law Closed a i = i
  keeps_puts x plain law (Opening r reports names) a i = i
  keeps_puts x plain law (Adopting r reached) a i = i
  keeps_puts x plain law (Syncing r) a i = i
  keeps_puts x plain law (Open r held queue) a i =
      let e = r.epoch in
      let new : Node = record st { spool = st.spool ++ x ∷ [] } in
      let k = length new.spool in
      let kk : k ≡ length st.spool + 1 = length_push st.spool x in
      let ends = set_end g.ends n e k in
      let text = upd g.text e (st.spool ++ x ∷ []) in
      let h : Ghost = moved g g.prom g.adop ends text in
      let reach : length st.spool ≡ g.ends n e = rw a.adopted at b.reach in
      let here : text e ≡ st.spool ++ x ∷ [] = upd_here g.text e (st.spool ++ x ∷ []) in
      let up : Grows g h = grows_moved g g.prom g.adop ends text (le_same g.prom) (le_same g.adop) (end_more g.ends n e k (omega arith))
      (end_frozen g.ends g.prom n e k (omega (arith, b.promised, a.promised)))
      (λ d. upd_each g.text e (st.spool ++ x ∷ []) (λ c l. IsPrefix (g.text c) l) (rw (← a.whole) (pre_push (x ∷ []) (pre_refl st.spool))) d (λ _. pre_refl (g.text d))) in
      let only : Only K n g h = only_moved K n g g.prom g.adop ends text (λ m d. (refl, refl, λ c. end_node g.ends n e k m c d))
      (λ d y. upd_other g.text e (st.spool ++ x ∷ []) d (λ z. y (ap K.lead z ∙ a.route.lead ∙ a.mine))) in
      let pos = (gl.known e a.route.known).0 in
      let gl' : Global K h = global_moved K g g.prom g.adop ends text up
      (λ d u. upd_other g.text e (st.spool ++ x ∷ []) d (λ z. true≢false (sym a.made ∙ ap g.made (sym z) ∙ u)) ∙ gl.unmade d u)
      (upd_other g.text e (st.spool ++ x ∷ []) 0 (λ z. omega arith) ∙ gl.nothing.1)
      (λ d m. upd_each g.text e (st.spool ++ x ∷ []) (λ c l. g.made c ≡ true → Plain (drop (g.base c) l))
      (λ m. rw (drop-append-le (g.base e) st.spool (x ∷ []) (omega (arith, a.base, b.image.fits)))
      (each_append IsPut (drop (g.base e) st.spool) (x ∷ []) (rw a.whole (gl.puts e m)) (plain, tt))) d (λ _ m. gl.puts d m) m)
      (λ d m l. rw (upd_other g.text e (st.spool ++ x ∷ []) d (λ z. omega (arith, a.below))) (gl.unopened d m l))
      (λ d. upd_each g.text e (st.spool ++ x ∷ []) (λ c l. Lawful l) (lawful_push st.spool x (subst Lawful (sym a.whole) (gl.lawful e)) law) d (λ _. gl.lawful d)) gl in
      let body : BodyOk K h n new = record {
        promised = b.promised;
        adopted = b.adopted;
        order = b.order;
        copy = record { made = b.copy.made; known = b.copy.known; base = omega (arith, b.copy.base, kk); within = rw (a.adopted, here) (pre_refl (st.spool ++ x ∷ [])) };
        reach = rw a.adopted (sym (end_here g.ends n e k));
        member = b.member;
        image = record { fits = omega (arith, b.image.fits, kk); prefix = rw (pre_take_of st.head (pre_push (x ∷ []) (pre_refl st.spool)) b.image.fits) b.image.prefix };
        later = λ d l. end_epoch g.ends n e k n d (λ w. omega arith) ∙ b.later d l;
      } in
      let opened : IsOpen K h n new r held = record {
        route = a.route;
        mine = a.mine;
        promised = a.promised;
        adopted = a.adopted;
        whole = sym here;
        made = a.made;
        base = a.base;
        synced = a.synced;
        told = each_map (λ p y. reach_up K g h up e p.0 p.1 y) held a.told;
        all = a.all;
        below = a.below;
        top = λ t. a.top t ∙ sym (pre_take_of st.head (pre_push (x ∷ []) (pre_refl st.spool)) b.image.fits);
      } in
      let in_text : length st.spool < length (text e) = rw (here, kk) (omega arith) in
      kept_after K g h n _ _ up only refl refl refl (λ m. refl)
      (λ d. elim (cases_eq d e) [
        | inl z ↦ inr (ap text z ∙ here ∙ sym (with_head_spool n new r held (queue ++ (length st.spool + 1) ∷ []) (Rules.least k held)))
        | inr z ↦ inl (upd_other g.text e (st.spool ++ x ∷ []) d z)
      ])
      (to_each_ok K h n (Replicate e (length st.spool) x st.head) r.others (each_all _ r.others (λ m. (
        in_text,
        rw here (get_or_push st.spool x x (length st.spool) refl),
        record { fits = omega (arith, b.image.fits); prefix = rw (here, pre_take_of st.head (pre_push (x ∷ []) (pre_refl st.spool)) b.image.fits) b.image.prefix },
        a.made,
        omega (arith, a.base, b.image.fits),
      ))))
      (with_head_kept K h n new gl' body runs r held (queue ++ (length st.spool + 1) ∷ []) opened (Rules.least k held) (omega arith))

  -- an append that is judged here
  keeps_if : (r : Request) (o : Option ℕ) → end_behind st.spool r ≡ o → (p : Part) → PartOk K g n st p → Kept K g n (Rules.idle st) → Kept K g n (Rules.puts_if n st r p o)
  keeps_if r None e p a i = i
  keeps_if r (Some end) e p a i = keeps_puts (Added (entry_behind st.spool r)) (lands_full r (judged_at st.spool r).landed end e) (record { request = r; end = end; lands = e; entry = refl }) p a i

  pub keeps_append : (r : Request) (p : Part) → PartOk K g n st p → Kept K g n (Rules.idle st) → Kept K g n (Rules.on_append n st r p)
  keeps_append r p a i = keeps_if r (end_behind st.spool r) refl p a i
