-- A member's rules: a promise is asked for, an image is to be adopted, an entry is replicated, a head is told. A promise
-- freezes what the member holds in earlier epochs. An image or an entry comes from the epoch's list, so the spool stays a
-- prefix of it. A head is told only of what is the journal's.
use Rattle.gz_lineage.specs.Marks.{Mark}
use Rattle.std.proofs.Common.{◌≡◌, ℕ, ◌+◌, ◌<◌, ◌≤◌, min, max, List, [], ◌∷◌, ◌++◌, length, take, refl, ap, sym, ◌∙◌, arith, true, eqb, subst, inl, inr}
use Rattle.gz_lineage.specs.Prefix.{IsPrefix}
use Rattle.gz_lineage.specs.Lists.{Each}
use Rattle.gz_lineage.specs.Nodes.{Image, Part, Node, Message, Letter, Closed, Opening, Adopting, Syncing, Open, Adopt, Adopted, Replicate}
use Rattle.gz_lineage.specs.Rules.{image_of}
use Rattle.gz_lineage.specs.World.{grown}
use Rattle.gz_lineage.proofs.Prefixes.{pre_refl, pre_len, pre_push, pre_trans, pre_take_of, pre_next, len_take, pre_shorter}
use Rattle.gz_lineage.specs.Rules
use Rattle.gz_lineage.proofs.Listed.{slots_map}
use Rattle.gz_lineage.proofs.Facts.{HeadOk, ImageOk, Copy, ReportOk, Global, PartOk, BodyOk, NodeOk, MessageOk, AllOk, Kept}
use Rattle.gz_lineage.proofs.History.{Keys, Ghost, IsMember, Grows, Only}
use Rattle.std.proofs.lemmas.Bool.{ltb-false, eqb-true, eqb-false, cond_both, true≢false, cases_lt}
use Rattle.std.specs.Prelude.{nat_lt}
use Rattle.std.proofs.lemmas.List.{length_push}
use Rattle.gz_lineage.proofs.Frame.{head_up, image_up, copy_up, report_up, told_up}
use Rattle.gz_lineage.proofs.Moves.{upd_here, upd_other, upd_more, set_end, end_here, end_node, end_epoch, end_more, end_frozen, moved, grows_moved, only_moved, le_same, global_moved, kept_after, still, grown_short}
use Rattle.gz_lineage.proofs.Moves.{upd}

-- answers that close a queue say nothing
pub closing_ok : (K : Keys) (g : Ghost) (self promised : ℕ) (p : Part) → AllOk K g (Rules.closing self promised p)
closing_ok K g self promised Closed = tt
closing_ok K g self promised (Opening r reports names) = tt
closing_ok K g self promised (Adopting r reached) = tt
closing_ok K g self promised (Syncing r) = tt
closing_ok K g self promised (Open r held queue) = go queue
  where
    go : (qs : List ℕ) → AllOk K g (Rules.shut_queue self promised qs)
    go [] = tt
    go (q ∷ qs) = (tt, go qs)

pub to_each_ok : (K : Keys) (g : Ghost) (self : ℕ) (b : Message) (ms : List ℕ) → Each (λ m. MessageOk K g self m b) ms → AllOk K g (Rules.to_each self b ms)
to_each_ok K g self b [] h = tt
to_each_ok K g self b (m ∷ ms) h = (h.0, to_each_ok K g self b ms h.1)

-- what does not depend on the receiver
pub each_all : {A : Type 0} (P : A → Type 0) (xs : List A) → ((x : A) → P x) → Each P xs
each_all P [] f = tt
each_all P (x ∷ xs) f = (f x, each_all P xs f)

-- what a node reports that promised e
pub report_of : (K : Keys) (g : Ghost) (n : ℕ) (st : Node) → Global K g → BodyOk K g n st → (e : ℕ) → K.known e ≡ true → st.adopted ≤ e → e ≤ g.prom n → ReportOk K g e n (record { adopted = st.adopted; image = image_of st })
report_of K g n st gl body e k l p = record {
  known = k;
  bound = l;
  promised = p;
  copy = body.copy;
  reach = λ _. body.reach;
  member = body.member;
  witness = λ d w. elim (cases_lt 0 (K.opened e)) [
    | inl o ↦ (let x = gl.witness e k d o in rw (body.adopted, w) x.1)
    | inr o ↦ omega arith
  ];
  image = body.image;
}

module _ (K : Keys) (g : Ghost) (n : ℕ) (st : Node) (gl : Global K g) (ok : NodeOk K g n st) where
  -- the journal is where the open primary's head is, or past it
  pub same_journal : (p : Part) → PartOk K g n st p → g.journal ≡ grown g.journal st p
  same_journal Closed a = refl
  same_journal (Opening r reports names) a = refl
  same_journal (Adopting r reached) a = refl
  same_journal (Syncing r) a = refl
  same_journal (Open r held queue) a = sym (grown_short g.journal (take st.head st.spool) ok.body.image.prefix)

  pub answer : (ls : List Letter) → AllOk K g ls → Kept K g n (record { node = st; sends = ls })
  answer ls a = still K g n st ls gl ok a (same_journal st.part ok.part)

  pub idles : Kept K g n (Rules.idle st)
  idles = answer [] tt

  -- a node promises, and closes what it led
  pub promises : (e : ℕ) → st.promised ≤ e → (h : Ghost) × (h ≡ moved g (upd g.prom n e) g.adop g.ends g.text) × Grows g h × Only K n g h × Global K h × NodeOk K h n (record st { promised = e; part = Closed })
  promises e l =
      let h = moved g (upd g.prom n e) g.adop g.ends g.text in
      let up : Grows g h = grows_moved g (upd g.prom n e) g.adop g.ends g.text (upd_more g.prom n e (omega (arith, ok.body.promised))) (le_same g.adop) (λ m. le_same (g.ends m)) (λ m d l. refl) (λ d. pre_refl (g.text d)) in (
        h,
        refl,
        up,
        only_moved K n g (upd g.prom n e) g.adop g.ends g.text (λ m d. (upd_other g.prom n e m d, refl, λ _. refl)) (λ d x. refl),
        global_moved K g (upd g.prom n e) g.adop g.ends g.text up gl.unmade gl.nothing.1 gl.puts gl.unopened gl.lawful gl,
        record {
          body = record {
            promised = sym (upd_here g.prom n e);
            adopted = ok.body.adopted;
            order = omega (arith, ok.body.order);
            copy = copy_up K g h up st.adopted st.spool ok.body.copy;
            reach = ok.body.reach;
            member = ok.body.member;
            image = image_up K g h up (image_of st) ok.body.image;
            later = ok.body.later;
          };
          part = tt;
        },
      )

  -- a promise is asked for
  pub keeps_promise : (from e : ℕ) → K.known e ≡ true → Kept K g n (Rules.on_promise n st from e)
  keeps_promise from e k = cond_both (nat_lt e st.promised) _ _ (Kept K g n)
      (λ _. answer _ (tt, tt))
      (λ x. let le : st.promised ≤ e = ltb-false e st.promised x in
      cond_both (nat_lt st.promised e) _ _ (Kept K g n)
      (λ y. let p = promises e le in
      kept_after K g p.0 n _ _ p.2 p.3 (ap (λ (q : Ghost). q.journal) p.1) (ap (λ (q : Ghost). q.top) p.1) (ap (λ (q : Ghost). q.taken) p.1) (λ m. ap (λ (q : Ghost). q.gone m) p.1) (λ d. inl (ap (λ (q : Ghost). q.text d) p.1)) (closing_ok K p.0 n e st.part) (still K p.0 n (record st { promised = e; part = Closed }) _ p.4 p.5 (report_of K p.0 n (record st { promised = e; part = Closed }) p.4 p.5.body e k (omega (arith, ok.body.order)) (omega (arith, p.5.body.promised)), tt) refl))
      (λ y. answer _ (report_of K g n st gl ok.body e k (omega (arith, ok.body.order)) (omega (arith, ok.body.promised, ltb-false st.promised e y)), tt)))

  -- the spool is another image, in a new epoch
  pub takes_image : (e : ℕ) (image : Image) (part : Part) → st.promised ≤ e → (st.adopted ≡ e → ⊥) → K.known e ≡ true → IsMember K e n → Copy K g e image.entries → ImageOk g image →
      (h : Ghost) × (h ≡ moved g (upd g.prom n e) (upd g.adop n e) (set_end g.ends n e (length image.entries)) g.text) × Grows g h × Only K n g h × Global K h
      × BodyOk K h n (record { promised = e; adopted = e; spool = image.entries; head = image.head; part = part })
  takes_image e image part l d k m c i =
      let prom = upd g.prom n e in
      let adop = upd g.adop n e in
      let ends = set_end g.ends n e (length image.entries) in
      let less : st.adopted < e = omega (arith, ok.body.order) in
      let up : Grows g (moved g prom adop ends g.text) = grows_moved g prom adop ends g.text
      (upd_more g.prom n e (omega (arith, ok.body.promised))) (upd_more g.adop n e (omega (arith, ok.body.adopted)))
      (end_more g.ends n e (length image.entries) (omega (arith, ok.body.later e less)))
      (end_frozen g.ends g.prom n e (length image.entries) (omega (arith, ok.body.promised))) (λ d. pre_refl (g.text d)) in (
        moved g prom adop ends g.text,
        refl,
        up,
        only_moved K n g prom adop ends g.text (λ m d. (upd_other g.prom n e m d, upd_other g.adop n e m d, λ x. end_node g.ends n e (length image.entries) m x d)) (λ d x. refl),
        global_moved K g prom adop ends g.text up gl.unmade gl.nothing.1 gl.puts gl.unopened gl.lawful gl,
        record {
          promised = sym (upd_here g.prom n e);
          adopted = sym (upd_here g.adop n e);
          order = omega arith;
          copy = copy_up K g (moved g prom adop ends g.text) up e image.entries c;
          reach = sym (end_here g.ends n e (length image.entries));
          member = λ _. m;
          image = image_up K g (moved g prom adop ends g.text) up image i;
          later = λ x l. end_epoch g.ends n e (length image.entries) n x (λ y. omega arith) ∙ ok.body.later x (omega arith);
        },
      )

  -- what a member that adopted says
  says_adopted : (h : Ghost) (e : ℕ) (st' : Node) → st'.adopted ≡ e → BodyOk K h n st' → MessageOk K h n n (Adopted e (length st'.spool))
  says_adopted h e st' x b = rw (← x) (omega (arith, b.adopted), omega (arith, b.reach), b.copy.base, b.copy.made)

  -- who adopts what another made leads nothing
  pub leads_nothing : (e : ℕ) → st.promised ≡ e → (st.adopted ≡ e → ⊥) → g.made e ≡ true → (p : Part) → PartOk K g n st p → p ≡ Closed
  leads_nothing e s d m Closed a = refl
  leads_nothing e s d m (Opening r reports names) a = absurd (true≢false (sym m ∙ ap g.made (sym s ∙ a.promised) ∙ a.unmade))
  leads_nothing e s d m (Adopting r reached) a = absurd (d (a.adopted ∙ sym a.promised ∙ s))
  leads_nothing e s d m (Syncing r) a = absurd (d (a.adopted ∙ sym a.promised ∙ s))
  leads_nothing e s d m (Open r held queue) a = absurd (d (a.adopted ∙ sym a.promised ∙ s))

  -- an image is adopted
  pub keeps_adopt : (from e : ℕ) (image : Image) → MessageOk K g from n (Adopt e image) → Kept K g n (Rules.on_adopt n st from e image)
  keeps_adopt from e image a = cond_both (nat_lt e st.promised) _ _ (Kept K g n)
      (λ _. answer _ (tt, tt))
      (λ x. let le : st.promised ≤ e = ltb-false e st.promised x in
      cond_both (eqb st.adopted e) _ _ (Kept K g n)
      (λ y. answer _ (says_adopted g e st (eqb-true st.adopted e y) ok.body, tt))
      (λ y. let d : st.adopted ≡ e → ⊥ = eqb-false st.adopted e y in
      cond_both (nat_lt st.promised e) _ _ (Kept K g n)
      (λ z. let p = takes_image e image Closed le d a.0 a.1 a.2 a.4 in
      let new : Node = record { promised = e; adopted = e; spool = image.entries; head = image.head; part = Closed } in
      kept_after K g p.0 n _ _ p.2 p.3 (ap (λ (q : Ghost). q.journal) p.1) (ap (λ (q : Ghost). q.top) p.1) (ap (λ (q : Ghost). q.taken) p.1) (λ m. ap (λ (q : Ghost). q.gone m) p.1) (λ d. inl (ap (λ (q : Ghost). q.text d) p.1)) (closing_ok K p.0 n e st.part)
      (still K p.0 n new _ p.4 (record { body = p.5; part = tt }) (says_adopted p.0 e new refl p.5, tt) refl))
      (λ z. let q = ltb-false st.promised e z in
      let same : st.promised ≡ e = omega arith in
      let p = takes_image e image st.part le d a.0 a.1 a.2 a.4 in
      let new : Node = record { promised = e; adopted = e; spool = image.entries; head = image.head; part = st.part } in
      let shut : st.part ≡ Closed = leads_nothing e same d a.2.made st.part ok.part in
      rw same (kept_after K g p.0 n [] _ p.2 p.3 (ap (λ (q : Ghost). q.journal) p.1) (ap (λ (q : Ghost). q.top) p.1) (ap (λ (q : Ghost). q.taken) p.1) (λ m. ap (λ (q : Ghost). q.gone m) p.1) (λ d. inl (ap (λ (q : Ghost). q.text d) p.1)) tt
      (still K p.0 n new _ p.4 (record { body = p.5; part = subst (λ x. PartOk K p.0 n new x) (sym shut) tt }) (says_adopted p.0 e new refl p.5, tt)
      (subst (λ x. p.0.journal ≡ grown p.0.journal new x) (sym shut) refl))))))

  -- a node raises its head to what it has of a text
  prefix_of : (h : ℕ) → HeadOk g st.adopted h → (k : ℕ) → k ≤ length st.spool → k ≤ h → IsPrefix (take k st.spool) g.journal
  prefix_of h a k l m = rw (← (pre_take_of k ok.body.copy.within l)) (pre_trans (pre_shorter k h (g.text st.adopted) m) a.prefix)

  image_raised : (h : ℕ) → HeadOk g st.adopted h → ImageOk g (image_of (Rules.raise st h))
  image_raised h a = record {
    fits = omega (arith, ok.body.image.fits);
    prefix = elim (cases_lt st.head (min h (length st.spool))) [
      | inl l ↦ (let x : max st.head (min h (length st.spool)) ≡ min h (length st.spool) = omega arith in rw x (prefix_of h a (min h (length st.spool)) (omega arith) (omega arith)))
      | inr l ↦ (let x : max st.head (min h (length st.spool)) ≡ st.head = omega arith in rw x ok.body.image.prefix)
    ];
  }

  part_raised : (h : ℕ) → HeadOk g st.adopted h → (p : Part) → PartOk K g n st p → PartOk K g n (Rules.raise st h) p
  part_raised h a Closed x = tt
  part_raised h a (Opening r reports names) x = record { route = x.route; mine = x.mine; promised = x.promised; unmade = x.unmade; told = x.told; all = x.all; stored = x.stored }
  part_raised h a (Adopting r reached) x = record { route = x.route; mine = x.mine; promised = x.promised; adopted = x.adopted; whole = x.whole; made = x.made; base = x.base; told = x.told; all = x.all }
  part_raised h a (Syncing r) x = record { route = x.route; mine = x.mine; promised = x.promised; adopted = x.adopted; whole = x.whole; base = x.base; everyone = x.everyone }
  part_raised h a (Open r held queue) x = record {
    route = x.route;
    mine = x.mine;
    promised = x.promised;
    adopted = x.adopted;
    whole = x.whole;
    made = x.made;
    base = omega (arith, x.base);
    synced = x.synced;
    told = x.told;
    all = x.all;
    below = x.below;
    top = λ e. let t = x.top e in
        let l : h ≤ st.head = omega (arith, pre_len a.prefix, len_take h (g.text st.adopted) a.fits, ap length t, len_take st.head st.spool ok.body.image.fits) in
        let y : max st.head (min h (length st.spool)) ≡ st.head = omega arith in rw y t;
  }

  pub raises : (h : ℕ) → HeadOk g st.adopted h → NodeOk K g n (Rules.raise st h)
  raises h a = record {
    body = record {
      promised = ok.body.promised;
      adopted = ok.body.adopted;
      order = ok.body.order;
      copy = ok.body.copy;
      reach = ok.body.reach;
      member = ok.body.member;
      image = image_raised h a;
      later = ok.body.later;
    };
    part = part_raised h a st.part ok.part;
  }

  raise_kept : (h : ℕ) → HeadOk g st.adopted h → (ls : List Letter) → AllOk K g ls → Kept K g n (record { node = Rules.raise st h; sends = ls })
  raise_kept h a ls s = let k = raises h a in still K g n (Rules.raise st h) ls gl k s (raised_journal st.part k.part)
    where
      raised_journal : (p : Part) → PartOk K g n (Rules.raise st h) p → g.journal ≡ grown g.journal (Rules.raise st h) p
      raised_journal Closed a = refl
      raised_journal (Opening r reports names) a = refl
      raised_journal (Adopting r reached) a = refl
      raised_journal (Syncing r) a = refl
      raised_journal (Open r held queue) x = sym (grown_short g.journal (take (Rules.raise st h).head st.spool) (image_raised h a).prefix)

  -- a head is told
  pub keeps_head : (e h : ℕ) → HeadOk g e h → Kept K g n (Rules.on_head st e h)
  keeps_head e h a = cond_both (eqb st.adopted e) _ _ (Kept K g n)
      (λ x. let d : st.adopted ≡ e = eqb-true st.adopted e x in raise_kept h (rw d a) [] tt)
      (λ _. idles)

-- an entry is replicated
module _ (K : Keys) (g : Ghost) (n : ℕ) (st : Node) (gl : Global K g) (ok : NodeOk K g n st) where
  -- where a replica's entry goes in, it is no primary's
  not_open : (offset : ℕ) → length st.spool ≡ offset → offset < length (g.text st.adopted) → (p : Part) → PartOk K g n st p → (h : Ghost) → (st' : Node) → st'.promised ≡ st.promised → st'.adopted ≡ st.adopted → Grows g h → ((d : ℕ) → h.made d ≡ g.made d) → PartOk K h n st' p × (h.journal ≡ grown h.journal st' p)
  not_open offset e l Closed a h st' s t up f = (tt, refl)
  not_open offset e l (Opening r reports names) a h st' s t up f = (record { route = a.route; mine = a.mine; promised = s ∙ a.promised; unmade = f r.epoch ∙ a.unmade; told = slots_map (λ k x. report_up K g h up r.epoch k x) reports a.told; all = a.all; stored = told_up K g h up r.epoch names a.stored }, refl)
  not_open offset e l (Adopting r reached) a h st' s t up f = absurd (let x : length st.spool ≡ length (g.text st.adopted) = ap length a.whole ∙ ap (λ d. length (g.text d)) (sym a.adopted) in omega arith)
  not_open offset e l (Syncing r) a h st' s t up f = absurd (let x : length st.spool ≡ length (g.text st.adopted) = ap length a.whole ∙ ap (λ d. length (g.text d)) (sym a.adopted) in omega arith)
  not_open offset e l (Open r held queue) a h st' s t up f = absurd (let x : length st.spool ≡ length (g.text st.adopted) = ap length a.whole ∙ ap (λ d. length (g.text d)) (sym a.adopted) in omega arith)

  pub keeps_replicate : (from e offset : ℕ) (x : Mark) (head : ℕ) → MessageOk K g from n (Replicate e offset x head) → Kept K g n (Rules.on_replicate n st from e offset x head)
  keeps_replicate from e offset x head a = cond_both (nat_lt e st.promised) _ _ (Kept K g n)
      (λ _. answer K g n st gl ok _ (tt, tt))
      (λ p. cond_both (eqb st.adopted e) _ _ (Kept K g n)
      (λ y. let same : st.adopted ≡ e = eqb-true st.adopted e y in
      let le : st.promised ≤ e = ltb-false e st.promised p in
      cond_both (nat_lt (length st.spool) offset) _ _ (Kept K g n)
      (λ _. answer K g n st gl ok _ (tt, tt))
      (λ q. cond_both (eqb offset (length st.spool)) _ _ (Kept K g n)
      (λ z. let at : offset ≡ length st.spool = eqb-true offset (length st.spool) z in
      let ends = set_end g.ends n e (offset + 1) in
      let h : Ghost = moved g g.prom g.adop ends g.text in
      let reach : length st.spool ≡ g.ends n e = rw same at ok.body.reach in
      let up : Grows g h = grows_moved g g.prom g.adop ends g.text (le_same g.prom) (le_same g.adop) (end_more g.ends n e (offset + 1) (omega arith))
      (end_frozen g.ends g.prom n e (offset + 1) (omega (arith, ok.body.promised))) (λ d. pre_refl (g.text d)) in
      let only : Only K n g h = only_moved K n g g.prom g.adop ends g.text (λ m d. (refl, refl, λ x. end_node g.ends n e (offset + 1) m x d)) (λ d x. refl) in
      let new : Node = record st { spool = st.spool ++ x ∷ [] } in
      let body : BodyOk K h n new = record {
        promised = ok.body.promised;
        adopted = ok.body.adopted;
        order = ok.body.order;
        copy = record {
          made = ok.body.copy.made;
          known = ok.body.copy.known;
          base = rw length_push (omega (arith, ok.body.copy.base));
          within = pre_next x ok.body.copy.within (rw same (omega arith)) (rw (same, ← at) a.1);
        };
        reach = rw (length_push, same) (omega (arith, end_here g.ends n e (offset + 1)));
        member = ok.body.member;
        image = record { fits = rw length_push (omega (arith, ok.body.image.fits)); prefix = rw (pre_take_of st.head (pre_push (x ∷ []) (pre_refl st.spool)) ok.body.image.fits) ok.body.image.prefix };
        later = λ d l. end_epoch g.ends n e (offset + 1) n d (λ w. omega arith) ∙ ok.body.later d l;
      } in
      let part = not_open offset (sym at) (rw same a.0) st.part ok.part h new refl refl up (λ d. refl) in
      kept_after K g h n [] _ up only refl refl refl (λ m. refl) (λ d. inl refl) tt
      (raise_kept K h n new (global_moved K g g.prom g.adop ends g.text up gl.unmade gl.nothing.1 gl.puts gl.unopened gl.lawful gl) (record { body = body; part = part.0 }) head (rw same (head_up K g h up e head a.2)) _ ((omega (arith, ok.body.adopted), omega (arith, end_here g.ends n e (offset + 1))), tt)))
      (λ z. raise_kept K g n st gl ok head (rw same a.2) _ ((omega (arith, ok.body.adopted), omega (arith, rw same at ok.body.reach)), tt))))
      (λ _. answer K g n st gl ok _ (tt, tt)))
