-- The invariant of a run: the history exists, and all facts hold of it and of the state. Here are its record and the
-- steps that move no broker: a letter is taken without effect, sent, lost, or a broker stops.
use Rattle.gz_lineage.specs.Marks.{Mark}
use Rattle.std.proofs.Common.{◌≡◌, ℕ, ◌<◌, ◌≤◌, List, [], ◌∷◌, ◌++◌, length, take, refl, ap, sym, ◌∙◌, arith, Bool, true, false, ◌⊎◌, inl, inr}
use Rattle.gz_lineage.specs.Prefix.{IsPrefix}
use Rattle.gz_lineage.specs.Lists.{In, Each}
use Rattle.gz_lineage.specs.Nodes.{Route, Part, Node, Letter, Closed, Opening, Adopting, Syncing, Open}
use Rattle.gz_lineage.specs.World.{grown, risen}
use Rattle.gz_lineage.proofs.Prefixes.{pre_refl, pre_trans}
use Rattle.gz_lineage.proofs.Listed.{each_append, in_append_left}
use Rattle.gz_lineage.proofs.Facts.{RouteOk, Global, PartOk, NodeOk, LetterOk, AllOk}
use Rattle.gz_lineage.proofs.History.{Keys, Ghost, Grows, Only}
use Rattle.std.proofs.lemmas.List.{append-nil}
use Rattle.gz_lineage.proofs.Frame.{grows_refl, adopted_up, letters_up, node_other}
use Rattle.gz_lineage.proofs.Moves.{le_same, grown_short}
use Rattle.gz_lineage.specs.World
use Rattle.gz_lineage.specs.World.{World as Worlds, State, Moved, Event, Converge, Crash, Write, Deliver, Drop, Flush, Repeat, Renew, Resend, Give, node_at, fresh, grown_all}
use Rattle.std.proofs.lemmas.Bool.{not-true}
use Rattle.std.specs.Prelude.{slice_set, slice_index_or}
use Rattle.std.specs.List.{remove}
use Rattle.std.specs.Prelude.{suc, zero, not}

-- Some history fits the world: all facts hold of it, of each broker and of each letter; it has the world's journal,
-- routes, sync key and stopped brokers; and what the store has is a prefix of the journal, with all that it had where an
-- epoch was begun from it (`floors`).
pub record Inv (w : Worlds) : Type 0 where
  pub K : Keys
  pub g : Ghost
  pub global : Global K g
  pub nodes : (n : ℕ) → NodeOk K g n (node_at w.state.nodes n)
  pub flight : AllOk K g w.state.flight
  pub said : AllOk K g w.said
  pub taken : g.taken ≡ w.taken
  pub journal : g.journal ≡ w.journal
  pub routes : Each (RouteOk K) w.state.routes
  pub latest : K.latest ≡ World.latest w.state.routes
  pub sync : (s : ℕ) → K.synced s ≡ true → s ≤ w.state.sync
  pub sync_is : 0 < w.state.sync → K.synced w.state.sync ≡ true
  pub stored : IsPrefix w.state.stored w.journal
  pub floors : (e : ℕ) → K.known e ≡ true → K.dead e ≡ true → K.floor e ≤ length w.state.stored
  pub gone : (m : ℕ) → g.gone m ≡ not (slice_index_or w.state.runs m false)
  pub top : g.top ≡ w.top
  pub syncs : (s : ℕ) → K.synced s ≡ true → In s w.syncs
  pub synced_of : (s : ℕ) → In s w.syncs → 0 < s → K.synced s ≡ true
  pub found : (e : ℕ) → K.known e ≡ true → (o : Route) × In o w.state.routes × (o.epoch ≡ e)

-- The invariant holds after a step, and history has gone on. A list that moved is now some broker's spool.
pub record Went {w : Worlds} (i : Inv w) (v : Worlds) : Type 0 where
  pub after : Inv v
  pub grows : Grows i.g after.g
  pub texts : (e : ℕ) → (after.g.text e ≡ i.g.text e) ⊎ ((n : ℕ) × (after.g.text e ≡ (node_at v.state.nodes n).spool))

pub each_remove : {A : Type 0} (P : A → Type 0) (xs : List A) (k : ℕ) → Each P xs → Each P (remove xs k)
each_remove P [] zero a = tt
each_remove P [] (suc k) a = tt
each_remove P (x ∷ xs) zero a = a.1
each_remove P (x ∷ xs) (suc k) a = (a.0, each_remove P xs k a.1)

-- a journal that has what all heads cover stays
pub grown_same : (j : List Mark) (st : Node) (p : Part) → IsPrefix (take st.head st.spool) j → grown j st p ≡ j
grown_same j st Closed f = refl
grown_same j st (Opening r reports names) f = refl
grown_same j st (Adopting r reached) f = refl
grown_same j st (Syncing r) f = refl
grown_same j st (Open r held queue) f = grown_short j (take st.head st.spool) f

pub all_same : (j : List Mark) (nodes : List Node) → ((n : ℕ) → IsPrefix (take (node_at nodes n).head (node_at nodes n).spool) j) → grown_all j nodes ≡ j
all_same j [] f = refl
all_same j (st ∷ sts) f = rw (grown_same j st st.part (f 0)) (all_same j sts (λ n. f (suc n)))

-- one node adds to it
pub one_grows : (j j' : List Mark) (nodes : List Node) (k : ℕ) (st : Node) → k < length nodes → ((n : ℕ) → (n ≡ k → ⊥) → IsPrefix (take (node_at nodes n).head (node_at nodes n).spool) j) →
    IsPrefix j j' → IsPrefix (take st.head st.spool) j' → j' ≡ grown j st st.part → grown_all j (slice_set nodes k st) ≡ j'
one_grows j j' [] k st l f p q e = absurd (omega arith)
one_grows j j' (x ∷ nodes) zero st l f p q e = ap (λ y. grown_all y nodes) (sym e) ∙ (all_same j' nodes (λ n. pre_trans (f (suc n) (λ z. omega arith)) p))
one_grows j j' (x ∷ nodes) (suc k) st l f p q e =
    ap (λ y. grown_all y (slice_set nodes k st)) (grown_same j x x.part (f 0 (λ z. omega arith))) ∙ one_grows j j' nodes k st (omega arith) (λ n d. f (suc n) (λ z. d (omega arith))) p q e

-- no primary is open above the greatest epoch that was open
pub part_low : (K : Keys) (g : Ghost) (n : ℕ) (st : Node) (p : Part) → PartOk K g n st p → risen g.top p ≡ g.top
part_low K g n st Closed a = refl
part_low K g n st (Opening r reports names) a = refl
part_low K g n st (Adopting r reached) a = refl
part_low K g n st (Syncing r) a = refl
part_low K g n st (Open r held queue) a = omega (arith, a.below)

pub risen_is : (t u : ℕ) (p : Part) → t ≤ u → u ≤ risen t p → risen u p ≡ u → u ≡ risen t p
risen_is t u Closed a b e = omega arith
risen_is t u (Opening r reports names) a b e = omega arith
risen_is t u (Adopting r reached) a b e = omega arith
risen_is t u (Syncing r) a b e = omega arith
risen_is t u (Open r held queue) a b e = omega arith

pub risen_less : (t u : ℕ) (p : Part) → t ≤ u → risen t p ≡ t → risen u p ≡ u
risen_less t u Closed a e = refl
risen_less t u (Opening r reports names) a e = refl
risen_less t u (Adopting r reached) a e = refl
risen_less t u (Syncing r) a e = refl
risen_less t u (Open r held queue) a e = omega arith

pub all_low : (t : ℕ) (nodes : List Node) → ((n : ℕ) → risen t (node_at nodes n).part ≡ t) → World.risen_all t nodes ≡ t
all_low t [] f = refl
all_low t (st ∷ sts) f = rw (f 0) (all_low t sts (λ n. f (suc n)))

pub one_rises : (t u : ℕ) (nodes : List Node) (k : ℕ) (st : Node) → k < length nodes → ((n : ℕ) → (n ≡ k → ⊥) → risen t (node_at nodes n).part ≡ t) →
    t ≤ u → u ≡ risen t st.part → World.risen_all t (slice_set nodes k st) ≡ u
one_rises t u [] k st l f p e = absurd (omega arith)
one_rises t u (x ∷ nodes) zero st l f p e = ap (λ y. World.risen_all y nodes) (sym e) ∙ all_low u nodes (λ n. risen_less t u (node_at nodes n).part p (f (suc n) (λ z. omega arith)))
one_rises t u (x ∷ nodes) (suc k) st l f p e =
    ap (λ y. World.risen_all y (slice_set nodes k st)) (f 0 (λ z. omega arith)) ∙ one_rises t u nodes k st (omega arith) (λ n d. f (suc n) (λ z. d (omega arith))) p e

pub lows : (w : Worlds) (i : Inv w) (n : ℕ) → risen w.top (node_at w.state.nodes n).part ≡ w.top
lows w i n = rw i.top at (part_low i.K i.g n (node_at w.state.nodes n) (node_at w.state.nodes n).part (i.nodes n).part)

pub same_top : (w : Worlds) (i : Inv w) → i.g.top ≡ World.risen_all w.top w.state.nodes
same_top w i = i.top ∙ sym (all_low w.top w.state.nodes (lows w i))

-- `sync/` is as it was
pub syncs_more : (w : Worlds) (i : Inv w) (s : ℕ) → i.K.synced s ≡ true → In s (w.state.sync ∷ w.syncs)
syncs_more w i s y = inr (i.syncs s y)

pub synced_more : (w : Worlds) (i : Inv w) (s : ℕ) → In s (w.state.sync ∷ w.syncs) → 0 < s → i.K.synced s ≡ true
synced_more w i s j p = elim j [ inl x ↦ rw x (i.sync_is (omega arith)) | inr x ↦ i.synced_of s x p ]

-- one more letter is taken
pub take_ghost : (g : Ghost) (l : Letter) → Grows g (record g { taken = g.taken ++ l ∷ [] })
take_ghost g l = record {
  prom = le_same g.prom;
  adop = le_same g.adop;
  ends = λ m. le_same (g.ends m);
  frozen = λ m e l. refl;
  text = λ e. pre_refl (g.text e);
  made = λ e h. (h, refl, refl);
  top = omega arith;
  journal = pre_refl g.journal;
  taken = λ x i. in_append_left g.taken (l ∷ []) x i;
  gone = λ m h. h;
}

pub take_only : (K : Keys) (n : ℕ) (g : Ghost) (l : Letter) → Only K n g (record g { taken = g.taken ++ l ∷ [] })
take_only K n g l = record { node = λ m d. (refl, refl, λ e. refl); text = λ e d. (refl, refl); top = λ d. (refl, refl) }

pub take_global : (K : Keys) (g : Ghost) (l : Letter) → Global K g → Global K (record g { taken = g.taken ++ l ∷ [] })
take_global K g l a = let h = record g { taken = g.taken ++ l ∷ [] } in record {
  known = a.known;
  before = a.before;
  synced = λ s y. let x = a.synced s y in (x.0, adopted_up K g h (take_ghost g l) s x.1);
  opened = a.opened;
  witness = a.witness;
  dead = λ e k d. let x = a.dead e k d in record { gone = x.gone; below = x.below; top = x.top; real = λ p. let y = x.real p in record { synced = y.synced; base = y.base; within = y.within } };
  capped = λ e s m y k. elim (a.capped e s m y k) [
    | inl c ↦ inl (record { by = c.by; member = c.member; gone = c.gone; short = c.short; fits = c.fits; within = c.within })
    | inr c ↦ inr (record { gone = c.gone; top = c.top })
  ];
  puts = a.puts;
  lawful = a.lawful;
  unopened = a.unopened;
  born = a.born;
  birth = a.birth;
  since = a.since;
  pick = λ e m p. elim (a.pick e m p) [
    | inl x ↦ inl x
    | inr x ↦ inr (record { from = x.from; less = x.less; enough = x.enough; made = x.made; same = x.same; within = x.within })
  ];
  base = a.base;
  made = a.made;
  by_lead = a.by_lead;
  unmade = a.unmade;
  nothing = a.nothing;
  none_open = a.none_open;
  top = λ x. let t = a.top x in record { synced = t.synced; within = t.within; base = t.base; reach = t.reach };
}

-- a node that nothing moves
pub take_node : (K : Keys) (g : Ghost) (l : Letter) (m : ℕ) (st : Node) → NodeOk K g m st → NodeOk K (record g { taken = g.taken ++ l ∷ [] }) m st
take_node K g l m st a = node_other K (suc m) g (record g { taken = g.taken ++ l ∷ [] }) (take_ghost g l) (take_only K (suc m) g l) m st (λ e. omega arith) a

pub prefixes : (w : Worlds) (i : Inv w) (n : ℕ) → IsPrefix (take (node_at w.state.nodes n).head (node_at w.state.nodes n).spool) w.journal
prefixes w i n = rw i.journal at (i.nodes n).body.image.prefix

-- a letter is taken, and the nodes stay. The store may have more
unfoldable pub takes : (w : Worlds) (i : Inv w) (l : Letter) (flight sends : List Letter) (stored : List Mark) → AllOk i.K i.g flight → AllOk i.K i.g sends → IsPrefix stored w.journal → length w.state.stored ≤ length stored →
    Inv (World.recorded w (World.sent (record w.state { stored = stored }) flight l sends))
takes w i l flight sends stored a b p more =
    let h : Ghost = record i.g { taken = i.g.taken ++ l ∷ [] } in
    let up : Grows i.g h = take_ghost i.g l in
    record {
      K = i.K;
      g = h;
      global = take_global i.K i.g l i.global;
      nodes = λ n. take_node i.K i.g l n (node_at w.state.nodes n) (i.nodes n);
      flight = letters_up i.K i.g h up (flight ++ sends) (each_append (LetterOk i.K i.g) flight sends a b);
      said = letters_up i.K i.g h up (w.said ++ sends) (each_append (LetterOk i.K i.g) w.said sends i.said b);
      taken = ap (λ x. x ++ l ∷ []) i.taken;
      journal = i.journal ∙ sym (all_same w.journal w.state.nodes (prefixes w i));
      routes = i.routes;
      latest = i.latest;
      sync = i.sync;
      sync_is = i.sync_is;
      stored = rw (all_same w.journal w.state.nodes (prefixes w i)) p;
      floors = λ e k d. omega (arith, i.floors e k d);
      gone = i.gone;
      top = same_top w i;
      syncs = syncs_more w i;
      synced_of = synced_more w i;
      found = i.found;
    }

pub takes_went : (w : Worlds) (i : Inv w) (l : Letter) (flight sends : List Letter) (stored : List Mark) → AllOk i.K i.g flight → AllOk i.K i.g sends → IsPrefix stored w.journal → length w.state.stored ≤ length stored →
    Went i (World.recorded w (World.sent (record w.state { stored = stored }) flight l sends))
unfolding takes
takes_went w i l flight sends stored a b p more = record { after = takes w i l flight sends stored a b p more; grows = take_ghost i.g l; texts = λ e. inl refl }

-- nothing is taken, and the nodes stay
pub sends_more : (w : Worlds) (i : Inv w) (flight sends : List Letter) → AllOk i.K i.g flight → AllOk i.K i.g sends →
    Inv (World.recorded w (record { state = record w.state { flight = flight ++ sends }; taken = []; sends = sends }))
sends_more w i flight sends a b = record {
  K = i.K;
  g = i.g;
  global = i.global;
  nodes = i.nodes;
  flight = each_append (LetterOk i.K i.g) flight sends a b;
  said = each_append (LetterOk i.K i.g) w.said sends i.said b;
  taken = i.taken ∙ sym (append-nil w.taken);
  journal = i.journal ∙ sym (all_same w.journal w.state.nodes (prefixes w i));
  routes = i.routes;
  latest = i.latest;
  sync = i.sync;
  sync_is = i.sync_is;
  stored = rw (all_same w.journal w.state.nodes (prefixes w i)) i.stored;
  floors = i.floors;
  gone = i.gone;
  top = same_top w i;
  syncs = syncs_more w i;
  synced_of = synced_more w i;
  found = i.found;
}

pub stays : (w : Worlds) (i : Inv w) (flight : List Letter) → AllOk i.K i.g flight → Inv (World.recorded w (World.still (record w.state { flight = flight })))
stays w i flight a = record {
  K = i.K;
  g = i.g;
  global = i.global;
  nodes = i.nodes;
  flight = a;
  said = rw append-nil i.said;
  taken = i.taken ∙ sym (append-nil w.taken);
  journal = i.journal ∙ sym (all_same w.journal w.state.nodes (prefixes w i));
  routes = i.routes;
  latest = i.latest;
  sync = i.sync;
  sync_is = i.sync_is;
  stored = rw (all_same w.journal w.state.nodes (prefixes w i)) i.stored;
  floors = i.floors;
  gone = i.gone;
  top = same_top w i;
  syncs = syncs_more w i;
  synced_of = synced_more w i;
  found = i.found;
}

pub sends_went : (w : Worlds) (i : Inv w) (flight sends : List Letter) → AllOk i.K i.g flight → AllOk i.K i.g sends →
    Went i (World.recorded w (record { state = record w.state { flight = flight ++ sends }; taken = []; sends = sends }))
unfolding sends_more
sends_went w i flight sends a b = record { after = sends_more w i flight sends a b; grows = grows_refl i.g; texts = λ e. inl refl }

pub stays_went : (w : Worlds) (i : Inv w) (flight : List Letter) → AllOk i.K i.g flight → Went i (World.recorded w (World.still (record w.state { flight = flight })))
unfolding stays
stays_went w i flight a = record { after = stays w i flight a; grows = grows_refl i.g; texts = λ e. inl refl }

pub stopped_set : (runs : List Bool) (n m : ℕ) → slice_index_or runs m false ≡ false → slice_index_or (slice_set runs n false) m false ≡ false
stopped_set [] n m e = e
stopped_set (x ∷ runs) zero zero e = refl
stopped_set (x ∷ runs) zero (suc m) e = e
stopped_set (x ∷ runs) (suc n) zero e = e
stopped_set (x ∷ runs) (suc n) (suc m) e = stopped_set runs n m e

-- a node stops
pub stops : (w : Worlds) (i : Inv w) (n : ℕ) → Went i (World.recorded w (World.still (record w.state { runs = slice_set w.state.runs n false })))
stops w i n =
    let runs = slice_set w.state.runs n false in
    let h : Ghost = record i.g { gone = λ m. not (slice_index_or runs m false) } in
    let up : Grows i.g h = record {
      prom = le_same i.g.prom;
      adop = le_same i.g.adop;
      ends = λ m. le_same (i.g.ends m);
      frozen = λ m e l. refl;
      text = λ e. pre_refl (i.g.text e);
      made = λ e h. (h, refl, refl);
      top = omega arith;
      journal = pre_refl i.g.journal;
      taken = λ x i. i;
      gone = λ m h. ap not (stopped_set w.state.runs n m (not-true (slice_index_or w.state.runs m false) (sym (i.gone m) ∙ h)));
    } in
    let only : Only i.K (suc n) i.g h = record { node = λ m d. (refl, refl, λ e. refl); text = λ e d. (refl, refl); top = λ d. (refl, refl) } in
    let a = i.global in
    record {
      grows = up;
      texts = λ e. inl refl;
      after = record {
        K = i.K;
        g = h;
        global = record {
          known = a.known;
          before = a.before;
          synced = λ s y. let x = a.synced s y in (x.0, adopted_up i.K i.g h up s x.1);
          opened = a.opened;
          witness = a.witness;
          dead = λ e k d. let x = a.dead e k d in record {
            gone = λ s m y l k j. up.gone m (x.gone s m y l k j);
            below = x.below;
            top = x.top;
            real = λ p. let y = x.real p in record { synced = y.synced; base = y.base; within = y.within };
          };
          capped = λ e s m y k. elim (a.capped e s m y k) [
            | inl c ↦ inl (record { by = c.by; member = c.member; gone = c.gone; short = c.short; fits = c.fits; within = c.within })
            | inr c ↦ inr (record { gone = λ m j. up.gone m (c.gone m j); top = c.top })
          ];
          puts = a.puts;
          lawful = a.lawful;
          unopened = a.unopened;
          born = a.born;
          birth = a.birth;
          since = a.since;
          pick = λ e m p. elim (a.pick e m p) [
            | inl x ↦ inl x
            | inr x ↦ inr (record { from = x.from; less = x.less; enough = x.enough; made = x.made; same = x.same; within = x.within })
          ];
          base = a.base;
          made = a.made;
          by_lead = a.by_lead;
          unmade = a.unmade;
          nothing = a.nothing;
          none_open = a.none_open;
          top = λ x. let t = a.top x in record { synced = t.synced; within = t.within; base = t.base; reach = t.reach };
        };
        nodes = λ m. node_other i.K (suc m) i.g h up (record { node = λ k d. (refl, refl, λ e. refl); text = λ e d. (refl, refl); top = λ d. (refl, refl) }) m (node_at w.state.nodes m) (λ e. omega arith) (i.nodes m);
        flight = letters_up i.K i.g h up w.state.flight i.flight;
        said = rw append-nil (letters_up i.K i.g h up w.said i.said);
        taken = i.taken ∙ sym (append-nil w.taken);
        journal = i.journal ∙ sym (all_same w.journal w.state.nodes (prefixes w i));
        routes = i.routes;
        latest = i.latest;
        sync = i.sync;
        sync_is = i.sync_is;
        stored = rw (all_same w.journal w.state.nodes (prefixes w i)) i.stored;
        floors = i.floors;
        gone = λ m. refl;
        top = same_top w i;
        syncs = syncs_more w i;
        synced_of = synced_more w i;
        found = i.found;
      };
    }
