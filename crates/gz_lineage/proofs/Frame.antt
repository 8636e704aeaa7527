-- What holds goes on to hold. Each fact is kept when history goes on (`_up`), and the facts of a broker are kept by the
-- steps of another one (`_other`). So a rule has to be proved only of the broker that takes it.
use Rattle.gz_lineage.specs.Marks.{Mark}
use Rattle.std.proofs.Common.{◌≡◌, ℕ, List, refl, ap, sym, ◌∙◌, arith, Option, Some, None}
use Rattle.gz_lineage.specs.Nodes.{Route, Image, Report, Part, Node, Message, Letter, Closed, Opening, Adopting, Syncing, Open, Changed, Promise, Promised, Adopt, Adopted, Txn, TxnOk, Replicate, Held, Head, Done, Ask, Names, Put}
use Rattle.gz_lineage.specs.Rules.{image_of}
use Rattle.gz_lineage.specs.Safety.{IsVouched}
use Rattle.gz_lineage.proofs.Prefixes.{pre_refl, pre_len, pre_trans, pre_take_of, pre_read}
use Rattle.gz_lineage.proofs.Listed.{slots_map, each_map}
use Rattle.gz_lineage.proofs.Facts.{RouteOk, HeadOk, ImageOk, Copy, ReportOk, ReachOk, AllAdopted, NamesOk, Told, PartOk, BodyOk, NodeOk, MessageOk, AllOk}
use Rattle.gz_lineage.proofs.History.{Keys, Ghost, Grows, Only}

pub grows_refl : (g : Ghost) → Grows g g
grows_refl g = record {
  prom = λ m. omega arith;
  adop = λ m. omega arith;
  ends = λ m e. omega arith;
  frozen = λ m e l. refl;
  text = λ e. pre_refl (g.text e);
  made = λ e h. (h, refl, refl);
  top = omega arith;
  journal = pre_refl g.journal;
  taken = λ l i. i;
  gone = λ m h. h;
}

pub grows_trans : {g h k : Ghost} → Grows g h → Grows h k → Grows g k
grows_trans {g} {h} {k} a b = record {
  prom = λ m. omega (arith, a.prom m, b.prom m);
  adop = λ m. omega (arith, a.adop m, b.adop m);
  ends = λ m e. omega (arith, a.ends m e, b.ends m e);
  frozen = λ m e l. b.frozen m e (omega (arith, a.prom m)) ∙ a.frozen m e l;
  text = λ e. pre_trans (a.text e) (b.text e);
  made = λ e m. let x = a.made e m in let y = b.made e x.0 in (y.0, y.1 ∙ x.1, y.2 ∙ x.2);
  top = omega (arith, a.top, b.top);
  journal = pre_trans a.journal b.journal;
  taken = λ l i. b.taken l (a.taken l i);
  gone = λ m h. b.gone m (a.gone m h);
}

pub only_refl : (K : Keys) (n : ℕ) (g : Ghost) → Only K n g g
only_refl K n g = record { node = λ m d. (refl, refl, λ e. refl); text = λ e d. (refl, refl); top = λ d. (refl, refl) }

pub only_trans : {K : Keys} {n : ℕ} {g h k : Ghost} → Only K n g h → Only K n h k → Only K n g k
only_trans {K} {n} {g} {h} {k} a b = record {
  node = λ m d. let x = a.node m d in let y = b.node m d in (y.0 ∙ x.0, y.1 ∙ x.1, λ e. y.2 e ∙ x.2 e);
  text = λ e d. let x = a.text e d in let y = b.text e d in (y.0 ∙ x.0, y.1 ∙ x.1);
  top = λ d. let y = b.top d in let x = a.top (λ e. d (ap K.lead y.0 ∙ e)) in (y.0 ∙ x.0, y.1 ∙ x.1);
}

module _ (K : Keys) (g h : Ghost) (up : Grows g h) where
  pub head_up : (e k : ℕ) → HeadOk g e k → HeadOk h e k
  head_up e k a = record {
    fits = omega (arith, pre_len (up.text e), a.fits);
    prefix = rw (pre_take_of k (up.text e) a.fits) (pre_trans a.prefix up.journal);
  }

  pub image_up : (i : Image) → ImageOk g i → ImageOk h i
  image_up i a = record { fits = a.fits; prefix = pre_trans a.prefix up.journal }

  pub copy_up : (e : ℕ) (xs : List Mark) → Copy K g e xs → Copy K h e xs
  copy_up e xs a = let m = up.made e a.made in record { made = m.0; known = a.known; base = rw m.1 a.base; within = pre_trans a.within (up.text e) }

  pub vouched_up : (e k m : ℕ) → IsVouched g.taken e k m → IsVouched h.taken e k m
  vouched_up e k m a = (a.0, up.taken a.0 a.1, a.2, a.3)

  pub reach_up : (e m k : ℕ) → ReachOk g e m k → ReachOk h e m k
  reach_up e m k a = record { adopted = omega (arith, up.adop m, a.adopted); reach = omega (arith, up.ends m e, a.reach); vouched = vouched_up e k m a.vouched }

  pub report_up : (e m : ℕ) (r : Report) → ReportOk K g e m r → ReportOk K h e m r
  report_up e m r a = record {
    known = a.known;
    bound = a.bound;
    promised = omega (arith, up.prom m, a.promised);
    copy = copy_up r.adopted r.image.entries a.copy;
    reach = λ l. a.reach l ∙ sym (up.frozen m r.adopted (omega (arith, a.promised)));
    member = a.member;
    witness = a.witness;
    image = image_up r.image a.image;
  }

  pub adopted_up : (e : ℕ) → AllAdopted K g e → AllAdopted K h e
  adopted_up e a = let m = up.made e a.made in record {
    made = m.0;
    lead = (omega (arith, up.adop (K.lead e), a.lead.0), rw m.1 (omega (arith, up.ends (K.lead e) e, a.lead.1)));
    others = rw m.1 (each_map (λ m r. reach_up e m (g.base e) r) (K.others e) a.others);
  }

  pub names_up : (e : ℕ) (text : List Mark) → NamesOk K g e text → NamesOk K h e text
  names_up e text a = record { within = pre_trans a.within up.journal; floor = a.floor }

  pub told_up : (e : ℕ) (o : Option (List Mark)) → Told K g e o → Told K h e o
  told_up e None a = tt
  told_up e (Some text) a = names_up e text a

  pub message_up : (from to : ℕ) (b : Message) → MessageOk K g from to b → MessageOk K h from to b
  message_up from to (Changed r) a = a
  message_up from to (Promise e) a = a
  message_up from to (Promised e report) a = report_up e from report a
  message_up from to (Adopt e image) a = (a.0, a.1, copy_up e image.entries a.2, a.3 ∙ sym (up.made e a.2.made).1, image_up image a.4)
  message_up from to (Adopted e reach) a = let m = up.made e a.3 in (omega (arith, up.adop from, a.0), omega (arith, up.ends from e, a.1), rw m.1 a.2, m.0)
  message_up from to (Txn e) a = (a.0, adopted_up e a.1)
  message_up from to (TxnOk e) a = a
  message_up from to (Replicate e offset x head) a = (omega (arith, pre_len (up.text e), a.0), pre_read offset x (up.text e) a.0 ∙ a.1, head_up e head a.2, (up.made e a.3).0, (let u = up.made e a.3 in rw u.1 a.4))
  message_up from to (Held e reach) a = (omega (arith, up.adop from, a.0), omega (arith, up.ends from e, a.1))
  message_up from to (Head e head) a = head_up e head a
  message_up from to (Done e reach) a = (a.0, each_map (λ m. vouched_up e reach m) (K.others e) a.1, head_up e reach a.2)
  message_up from to (Ask e) a = a
  message_up from to (Names e text) a = (a.0, names_up e text a.1)
  message_up from to (Put text) a = pre_trans a up.journal
  message_up from to _ a = a

  pub letters_up : (ls : List Letter) → AllOk K g ls → AllOk K h ls
  letters_up ls a = each_map (λ l. message_up l.from l.to l.body) ls a

-- a node that didn't take the step
module _ (K : Keys) (n : ℕ) (g h : Ghost) (up : Grows g h) (only : Only K n g h) (m : ℕ) (st : Node) (d : m ≡ n → ⊥) where
  body_other : BodyOk K g m st → BodyOk K h m st
  body_other b = let s = only.node m d in record {
    promised = b.promised ∙ sym s.0;
    adopted = b.adopted ∙ sym s.1;
    order = b.order;
    copy = copy_up K g h up st.adopted st.spool b.copy;
    reach = b.reach ∙ sym (s.2 st.adopted);
    member = b.member;
    image = image_up K g h up (image_of st) b.image;
    later = λ e l. s.2 e ∙ b.later e l;
  }

  -- an epoch that m leads
  mine : (r : Route) → RouteOk K r → r.lead ≡ m → (h.text r.epoch ≡ g.text r.epoch) × (h.made r.epoch ≡ g.made r.epoch)
  mine r o e = only.text r.epoch (λ x. d (sym e ∙ sym o.lead ∙ x))

  part_other : (p : Part) → PartOk K g m st p → PartOk K h m st p
  part_other Closed a = tt
  part_other (Opening r reports names) a = let s = mine r a.route a.mine in record {
    route = a.route;
    mine = a.mine;
    promised = a.promised;
    unmade = s.1 ∙ a.unmade;
    told = slots_map (λ k x. report_up K g h up r.epoch k x) reports a.told;
    all = a.all;
    stored = told_up K g h up r.epoch names a.stored;
  }
  part_other (Adopting r reached) a = let s = mine r a.route a.mine in let u = up.made r.epoch a.made in record {
    route = a.route;
    mine = a.mine;
    promised = a.promised;
    adopted = a.adopted;
    whole = a.whole ∙ sym s.0;
    made = u.0;
    base = u.1 ∙ a.base;
    told = slots_map (λ k x y. (reach_up K g h up r.epoch k x y.0, rw u.1 y.1)) reached a.told;
    all = a.all;
  }
  part_other (Syncing r) a = let s = mine r a.route a.mine in let u = up.made r.epoch a.everyone.made in record {
    route = a.route;
    mine = a.mine;
    promised = a.promised;
    adopted = a.adopted;
    whole = a.whole ∙ sym s.0;
    base = u.1 ∙ a.base;
    everyone = adopted_up K g h up r.epoch a.everyone;
  }
  part_other (Open r held queue) a = let s = mine r a.route a.mine in let u = up.made r.epoch a.made in record {
    route = a.route;
    mine = a.mine;
    promised = a.promised;
    adopted = a.adopted;
    whole = a.whole ∙ sym s.0;
    made = u.0;
    base = rw u.1 a.base;
    synced = a.synced;
    told = each_map (λ p x. reach_up K g h up r.epoch p.0 p.1 x) held a.told;
    all = a.all;
    below = omega (arith, a.below, up.top);
    top = λ e. let t = only.top (λ x. d (sym a.mine ∙ sym a.route.lead ∙ ap K.lead e ∙ x)) in t.1 ∙ a.top (e ∙ t.0);
  }

  pub node_other : NodeOk K g m st → NodeOk K h m st
  node_other a = record { body = body_other a.body; part = part_other st.part a.part }
