-- The key space's history goes on: a route is written, or the sync key gets the present epoch. A new route brings what
-- handover gives of it. The sync key's new epoch is one whose image all members have adopted, and no later epoch is there
-- yet, so no choice has to cap it.
use Rattle.gz_lineage.specs.Marks.{Mark}
use Rattle.std.proofs.Common.{◌≡◌, ℕ, ◌<◌, ◌≤◌, List, ◌∷◌, refl, ap, sym, ◌∙◌, arith, Bool, true, false, Option, Some, None, subst, inl, inr}
use Rattle.gz_lineage.specs.Lists.{In}
use Rattle.gz_lineage.specs.Nodes.{Route, Report, Part, Node, Message, Letter, Closed, Opening, Adopting, Syncing, Open, Changed, Promise, Promised, Adopt, Adopted, Txn, TxnOk, Replicate, Held, Head, Done, Ask, Names, Put}
use Rattle.gz_lineage.proofs.Listed.{slots_map, each_map}
use Rattle.gz_lineage.proofs.Facts.{RouteOk, Copy, ReportOk, AllAdopted, Capped, DeadAt, NamesOk, Told, IsTop, Global, PartOk, NodeOk, MessageOk, AllOk}
use Rattle.gz_lineage.proofs.History.{Keys, Ghost, IsMember}
use Rattle.std.proofs.lemmas.Bool.{cases_eq}
use Rattle.gz_lineage.proofs.Moves.{upd_here, upd_other, upd_each}
use Rattle.gz_lineage.proofs.Moves.{upd}

pub record KeysGrow (K L : Keys) : Type 0 where
  pub keep : (e : ℕ) → K.known e ≡ true → (L.known e ≡ true) × (L.lead e ≡ K.lead e) × (L.others e ≡ K.others e) × (L.opened e ≡ K.opened e) × (L.witness e ≡ K.witness e) × (L.dead e ≡ K.dead e) × (L.floor e ≡ K.floor e) × (L.low e ≡ K.low e)
  pub synced : (s : ℕ) → K.synced s ≡ true → L.synced s ≡ true

module _ (K L : Keys) (g : Ghost) (up : KeysGrow K L) where
  member_k : (e m : ℕ) → K.known e ≡ true → IsMember K e m → IsMember L e m
  member_k e m k i = let u = up.keep e k in rw (u.1, u.2) i

  pub member_back : (e m : ℕ) → K.known e ≡ true → IsMember L e m → IsMember K e m
  member_back e m k i = let u = up.keep e k in rw (← u.1, ← u.2) i

  pub route_k : (r : Route) → RouteOk K r → RouteOk L r
  route_k r a = let u = up.keep r.epoch a.known in record { known = u.0; lead = u.1 ∙ a.lead; others = u.2 ∙ a.others; opened = u.3 ∙ a.opened }

  copy_k : (e : ℕ) (xs : List Mark) → Copy K g e xs → Copy L g e xs
  copy_k e xs a = record { made = a.made; known = λ l. (up.keep e (a.known l)).0; base = a.base; within = a.within }

  report_k : (e m : ℕ) (r : Report) → ReportOk K g e m r → ReportOk L g e m r
  report_k e m r a = let u = up.keep e a.known in record {
    known = u.0;
    bound = a.bound;
    promised = a.promised;
    copy = copy_k r.adopted r.image.entries a.copy;
    reach = a.reach;
    member = λ l. member_k r.adopted m (a.copy.known l) (a.member l);
    witness = λ d w. rw u.3 (a.witness (sym u.5 ∙ d) (w ∙ u.4));
    image = a.image;
  }

  pub adopted_k : (e : ℕ) → K.known e ≡ true → AllAdopted K g e → AllAdopted L g e
  adopted_k e k a = let u = up.keep e k in record { made = a.made; lead = rw u.1 a.lead; others = rw u.2 a.others }

  names_k : (e : ℕ) (text : List Mark) → K.known e ≡ true → NamesOk K g e text → NamesOk L g e text
  names_k e text k a = let u = up.keep e k in record { within = a.within; floor = λ d. rw u.6 (a.floor (sym u.5 ∙ d)) }

  told_k : (e : ℕ) (o : Option (List Mark)) → K.known e ≡ true → Told K g e o → Told L g e o
  told_k e None k a = tt
  told_k e (Some text) k a = names_k e text k a

  -- where no epoch up to o was synced since
  pub dead_k : (o f w : ℕ) → ((s : ℕ) → L.synced s ≡ true → s ≤ o → (K.synced s ≡ true) × (K.known s ≡ true)) → DeadAt K g o f w → DeadAt L g o f w
  dead_k o f w back a = record {
    gone = λ s m y l k i. let z = back s y k in a.gone s m z.0 l k (member_back s m z.1 i);
    below = a.below;
    top = a.top;
    real = λ p. let y = a.real p in record { synced = up.synced w y.synced; base = y.base; within = y.within };
  }

  message_k : (from to : ℕ) (b : Message) → MessageOk K g from to b → MessageOk L g from to b
  message_k from to (Changed r) a = route_k r a
  message_k from to (Promise e) a = (up.keep e a).0
  message_k from to (Promised e report) a = report_k e from report a
  message_k from to (Adopt e image) a = ((up.keep e a.0).0, member_k e to a.0 a.1, copy_k e image.entries a.2, a.3, a.4)
  message_k from to (Adopted e reach) a = a
  message_k from to (Txn e) a = ((up.keep e a.0).0, adopted_k e a.0 a.1)
  message_k from to (TxnOk e) a = up.synced e a
  message_k from to (Replicate e offset x head) a = a
  message_k from to (Held e reach) a = a
  message_k from to (Head e head) a = a
  message_k from to (Done e reach) a = let u = up.keep e a.0 in (u.0, rw u.2 a.1, a.2)
  message_k from to (Ask e) a = (up.keep e a).0
  message_k from to (Names e text) a = ((up.keep e a.0).0, names_k e text a.0 a.1)
  message_k from to (Put text) a = a
  message_k from to _ a = a

  pub letters_k : (ls : List Letter) → AllOk K g ls → AllOk L g ls
  letters_k ls a = each_map (λ l. message_k l.from l.to l.body) ls a

  part_k : (m : ℕ) (st : Node) (p : Part) → PartOk K g m st p → PartOk L g m st p
  part_k m st Closed a = tt
  part_k m st (Opening r reports names) a = record { route = route_k r a.route; mine = a.mine; promised = a.promised; unmade = a.unmade; told = slots_map (λ k x. report_k r.epoch k x) reports a.told; all = a.all; stored = told_k r.epoch names a.route.known a.stored }
  part_k m st (Adopting r reached) a = record { route = route_k r a.route; mine = a.mine; promised = a.promised; adopted = a.adopted; whole = a.whole; made = a.made; base = a.base; told = a.told; all = a.all }
  part_k m st (Syncing r) a = record { route = route_k r a.route; mine = a.mine; promised = a.promised; adopted = a.adopted; whole = a.whole; base = a.base; everyone = adopted_k r.epoch a.route.known a.everyone }
  part_k m st (Open r held queue) a = record { route = route_k r a.route; mine = a.mine; promised = a.promised; adopted = a.adopted; whole = a.whole; made = a.made; base = a.base; synced = up.synced r.epoch a.synced; told = a.told; all = a.all; below = a.below; top = a.top }

  pub node_k : (m : ℕ) (st : Node) → NodeOk K g m st → NodeOk L g m st
  node_k m st a = let b = a.body in record {
    body = record { promised = b.promised; adopted = b.adopted; order = b.order; copy = copy_k st.adopted st.spool b.copy; reach = b.reach; member = λ l. member_k st.adopted m (b.copy.known l) (b.member l); image = b.image; later = b.later };
    part = part_k m st st.part a.part;
  }

  pub capped_k : (s e : ℕ) → K.known s ≡ true → Capped K g s e → Capped L g s e
  capped_k s e k (inl c) = inl (record { by = c.by; member = member_k s c.by k c.member; gone = c.gone; short = c.short; fits = c.fits; within = c.within })
  capped_k s e k (inr c) = inr (record { gone = λ m i. c.gone m (member_back s m k i); top = c.top })

  pub top_k : K.known g.top ≡ true → IsTop K g → IsTop L g
  top_k k t = record { synced = up.synced g.top t.synced; within = t.within; base = t.base; reach = λ m i. t.reach m (member_back g.top m k i) }

-- `sync/` is set to the present epoch
module _ (K : Keys) (g : Ghost) (gl : Global K g) (e : ℕ) (now : e ≡ K.latest) (k : K.known e ≡ true) (all : AllAdopted K g e) where
  abbrev pub after_sync : Keys
  after_sync = record K { synced = upd K.synced e true }

  pub sync_grows : KeysGrow K after_sync
  sync_grows = record { keep = λ d k. (k, refl, refl, refl, refl, refl, refl, refl); synced = λ s y. upd_each K.synced e true (λ d (v : Bool). v ≡ true) refl s (λ _. y) }

  synced_before : (s : ℕ) → (s ≡ e → ⊥) → after_sync.synced s ≡ true → K.synced s ≡ true
  synced_before s d y = sym (upd_other K.synced e true s d) ∙ y

  pub sync_global : Global after_sync g
  sync_global = record {
    known = gl.known;
    before = gl.before;
    synced = λ s y. elim (cases_eq s e) [
      | inl x ↦ (rw x k, subst (λ d. AllAdopted after_sync g d) (sym x) (adopted_k K after_sync g sync_grows e k all))
      | inr x ↦ (let z = gl.synced s (synced_before s x y) in (z.0, adopted_k K after_sync g sync_grows s z.0 z.1))
    ];
    opened = λ d s kd y l. elim (cases_eq s e) [
      | inl x ↦ absurd (let z = gl.known d kd in omega arith)
      | inr x ↦ gl.opened d s kd (synced_before s x y) l
    ];
    witness = gl.witness;
    dead = λ d k x. let z = gl.dead d k x in dead_k K after_sync g sync_grows (K.opened d) (K.floor d) (K.low d)
        (λ s y l. elim (cases_eq s e) [
          | inl v ↦ absurd (let p = gl.known d k in let q = gl.before d k in omega arith)
          | inr v ↦ (let b = synced_before s v y in (b, (gl.synced s b).0))
        ]) z;
    capped = λ d s m y l. elim (cases_eq s e) [
      | inl x ↦ absurd (let z = gl.known d (gl.made d m (omega arith)) in omega arith)
      | inr x ↦ (let z = synced_before s x y in capped_k K after_sync g sync_grows s d (gl.synced s z).0 (gl.capped d s m z l))
    ];
    puts = gl.puts;
    lawful = gl.lawful;
    unopened = gl.unopened;
    born = gl.born;
    birth = gl.birth;
    since = gl.since;
    pick = λ d m p. elim (gl.pick d m p) [
      | inl x ↦ inl x
      | inr x ↦ inr (record { from = x.from; less = x.less; enough = x.enough; made = x.made; same = x.same; within = x.within })
    ];
    base = gl.base;
    made = gl.made;
    by_lead = gl.by_lead;
    unmade = gl.unmade;
    nothing = gl.nothing;
    none_open = gl.none_open;
    top = λ l. let t = gl.top l in top_k K after_sync g sync_grows (gl.synced g.top t.synced).0 t;
  }

-- a route is written
module _ (K : Keys) (g : Ghost) (gl : Global K g) (r : Route) (more : K.latest < r.epoch) (sync : (s : ℕ) → K.synced s ≡ true → s ≤ r.opened) (old : r.opened ≤ K.latest)
    (m : ℕ) (dd : Bool) (ff ll : ℕ) (held : dd ≡ false → 0 < r.opened → In m (r.lead ∷ r.others) × (r.opened ≤ g.adop m)) (saved : dd ≡ true → DeadAt K g r.opened ff ll) where
  abbrev pub after_route : Keys
  after_route = record K { known = upd K.known r.epoch true; lead = upd K.lead r.epoch r.lead; others = upd K.others r.epoch r.others; opened = upd K.opened r.epoch r.opened; witness = upd K.witness r.epoch m; dead = upd K.dead r.epoch dd; floor = upd K.floor r.epoch ff; low = upd K.low r.epoch ll; latest = r.epoch }

  not_new : (e : ℕ) → K.known e ≡ true → e ≡ r.epoch → ⊥
  not_new e k x = let z = gl.known e k in omega arith

  pub route_grows : KeysGrow K after_route
  route_grows = record {
    keep = λ e k. let d = not_new e k in (upd_other K.known r.epoch true e d ∙ k, upd_other K.lead r.epoch r.lead e d, upd_other K.others r.epoch r.others e d, upd_other K.opened r.epoch r.opened e d, upd_other K.witness r.epoch m e d, upd_other K.dead r.epoch dd e d, upd_other K.floor r.epoch ff e d, upd_other K.low r.epoch ll e d);
    synced = λ s y. y;
  }

  pub route_new : RouteOk after_route r
  route_new = record { known = upd_here K.known r.epoch true; lead = upd_here K.lead r.epoch r.lead; others = upd_here K.others r.epoch r.others; opened = upd_here K.opened r.epoch r.opened }

  known_before : (e : ℕ) → (e ≡ r.epoch → ⊥) → after_route.known e ≡ true → K.known e ≡ true
  known_before e d k = sym (upd_other K.known r.epoch true e d) ∙ k

  synced_known : {o : ℕ} (s : ℕ) → K.synced s ≡ true → s ≤ o → (K.synced s ≡ true) × (K.known s ≡ true)
  synced_known s y l = (y, (gl.synced s y).0)

  pub route_global : Global after_route g
  route_global = record {
    known = λ e k. elim (cases_eq e r.epoch) [
      | inl x ↦ (omega arith, omega arith)
      | inr x ↦ (let z = gl.known e (known_before e x k) in (z.0, omega arith))
    ];
    before = λ e k. elim (cases_eq e r.epoch) [
      | inl x ↦ rw (x, upd_here K.opened r.epoch r.opened) (omega arith)
      | inr x ↦ rw upd_other (gl.before e (known_before e x k))
    ];
    synced = λ s y. let z = gl.synced s y in ((route_grows.keep s z.0).0, adopted_k K after_route g route_grows s z.0 z.1);
    opened = λ e s k y l. elim (cases_eq e r.epoch) [
      | inl x ↦ rw (x, upd_here K.opened r.epoch r.opened) (sync s y)
      | inr x ↦ rw upd_other (gl.opened e s (known_before e x k) y l)
    ];
    witness = λ e k. elim (cases_eq e r.epoch) [
      | inl x ↦ rw (x, upd_here K.opened r.epoch r.opened, upd_here K.witness r.epoch m, upd_here K.dead r.epoch dd, upd_here K.lead r.epoch r.lead, upd_here K.others r.epoch r.others) held
      | inr x ↦ (let u = route_grows.keep e (known_before e x k) in rw (u.1, u.2, u.3, u.4, u.5) (gl.witness e (known_before e x k)))
    ];
    dead = λ e k d. elim (cases_eq e r.epoch) [
      | inl x ↦ (let t : dd ≡ true = sym (upd_here K.dead r.epoch dd) ∙ ap (λ z. upd K.dead r.epoch dd z) (sym x) ∙ d in let z = saved t in
          rw (x, upd_here K.opened r.epoch r.opened, upd_here K.floor r.epoch ff, upd_here K.low r.epoch ll) (dead_k K after_route g route_grows r.opened ff ll synced_known z))
      | inr x ↦ (let kb = known_before e x k in let u = route_grows.keep e kb in let z = gl.dead e kb (sym u.5 ∙ d) in
          rw (u.3, u.6, u.7) (dead_k K after_route g route_grows (K.opened e) (K.floor e) (K.low e) synced_known z))
    ];
    capped = λ e s d y l. capped_k K after_route g route_grows s e (gl.synced s y).0 (gl.capped e s d y l);
    base = gl.base;
    made = λ e d l. (route_grows.keep e (gl.made e d l)).0;
    puts = gl.puts;
    lawful = gl.lawful;
    unopened = gl.unopened;
    birth = gl.birth;
    since = gl.since;
    born = λ e m p. let z = gl.born e m p in let u = route_grows.keep (g.born e) z.1 in (z.0, u.0, u.5 ∙ z.2);
    pick = λ e m p. elim (gl.pick e m p) [
      | inl x ↦ inl x
      | inr x ↦ inr (let u = route_grows.keep e (gl.made e m p) in record { from = x.from; less = x.less; enough = rw u.3 x.enough; made = x.made; same = x.same; within = x.within })
    ];
    by_lead = λ e d l. let u = route_grows.keep e (gl.made e d l) in rw u.1 (gl.by_lead e d l);
    unmade = gl.unmade;
    nothing = gl.nothing;
    none_open = gl.none_open;
    top = λ l. let t = gl.top l in top_k K after_route g route_grows (gl.synced g.top t.synced).0 t;
  }
