-- A primary waits for reports and for the store's answer, and chooses. Where handover gave a witness, the witness reports
-- or is the primary itself, so that some report counts; where it gave none, all was saved and what the store has will do.
use Rattle.gz_lineage.specs.Marks.{Mark}
use Rattle.std.proofs.Common.{◌≡◌, ℕ, ◌<◌, ◌≤◌, List, [], ◌∷◌, refl, ap, sym, ◌∙◌, arith, true, false, Option, Some, None, eqb, ◌⊎◌, inl, inr}
use Rattle.gz_lineage.specs.Lists.{In, Each, names as names_of}
use Rattle.gz_lineage.specs.Nodes.{Route, Report, Part, Node, Closed, Opening, Adopting, Syncing, Open, Promise}
use Rattle.gz_lineage.specs.Rules.{image_of}
use Rattle.gz_lineage.specs.Rules
use Rattle.gz_lineage.specs.Lists
use Rattle.gz_lineage.proofs.Listed.{Slots, Slot, slots_map, each_append, slots_fill, slots_empty, names_fill, names_slots}
use Rattle.gz_lineage.proofs.Facts.{RouteOk, ReportOk, ReachOk, NamesOk, Global, IsOpening, PartOk, BodyOk, NodeOk, LetterOk, Kept}
use Rattle.gz_lineage.proofs.History.{Keys, Ghost}
use Rattle.std.proofs.lemmas.Bool.{ltb-true, leb-true, leb-false, eqb-true, cond_both, and_parts, false≢true, cases_lt, cases_Bool}
use Rattle.std.specs.Prelude.{nat_lt, nat_le, is_some, ◌&&◌, ◌==◌}
use Rattle.gz_lineage.proofs.Moves.{kept_after, still}
use Rattle.gz_lineage.proofs.Members.{closing_ok, to_each_ok, each_all, report_of, idles, promises}
use Rattle.gz_lineage.proofs.Opening.{Fit, fit_report, fit_store, adopts_kept, adopting_kept, like}

-- the choice of an image
module _ (K : Keys) (g : Ghost) (e o : ℕ) where
  -- some report is good enough
  abbrev Good : Option Report → Type 0
  Good None = Unit {0}
  Good (Some q) = (m : ℕ) × ReportOk K g e m q × (o ≤ q.adopted)

  larger_good : (m : ℕ) (q : Report) → ReportOk K g e m q → o ≤ q.adopted → (x : Option Report) → Good x → Good (Rules.larger q x)
  larger_good m q a l None x = (m, a, l)
  larger_good m q a l (Some y) x = cond_both (Rules.beats y q) (Some y) (Some q) Good (λ _. x) (λ _. (m, a, l))

  better_good : (m : ℕ) (p : Option Report) → Slots (ReportOk K g e) ((m, p) ∷ []) → (x : Option Report) → Good x → Good (Rules.better o p x)
  better_good m None a x y = y
  better_good m (Some q) a x y = cond_both (nat_le o q.adopted) (Rules.larger q x) x Good (λ t. larger_good m q a.0 (leb-true o q.adopted t) x y) (λ _. y)

  best_good : (ps : List (ℕ × Option Report)) → Slots (ReportOk K g e) ps → Good (Rules.best o ps)
  best_good [] a = tt
  best_good (p ∷ ps) a = better_good p.0 p.1 (a.0, tt) (Rules.best o ps) (best_good ps a.1)

  -- one that is good enough is not passed over
  larger_some : (q : Report) (x : Option Report) → Rules.larger q x ≡ None → ⊥
  larger_some q None z = cc
  larger_some q (Some y) z = cond_both (Rules.beats y q) (Some y) (Some q) (λ v. v ≡ None → ⊥) (λ _ w. cc) (λ _ w. cc) z

  better_some : (q : Report) (x : Option Report) → o ≤ q.adopted → Rules.better o (Some q) x ≡ None → ⊥
  better_some q x l = cond_both (nat_le o q.adopted) (Rules.larger q x) x (λ v. v ≡ None → ⊥) (λ _. larger_some q x) (λ t. absurd (let w = leb-false o q.adopted t in omega arith))

  better_keeps : (p : Option Report) (x : Option Report) → (x ≡ None → ⊥) → Rules.better o p x ≡ None → ⊥
  better_keeps None x f = f
  better_keeps (Some q) x f = cond_both (nat_le o q.adopted) (Rules.larger q x) x (λ v. v ≡ None → ⊥) (λ _. larger_some q x) (λ _. f)

  -- the slot of m has a report that is good enough
  best_some : (m : ℕ) (ps : List (ℕ × Option Report)) → Lists.full ps ≡ true → Slots (λ k (q : Report). k ≡ m → o ≤ q.adopted) ps → In m (names_of ps) → Rules.best o ps ≡ None → ⊥
  best_some m [] f a i = absurd i
  best_some m (p ∷ ps) f a i = elim i [
    | inl x ↦ here p.1 (and_parts (is_some p.1) (Lists.full ps) f).0 a.0 (sym x)
    | inr x ↦ better_keeps p.1 (Rules.best o ps) (best_some m ps (and_parts (is_some p.1) (Lists.full ps) f).1 a.1 x)
  ]
    where
      here : (v : Option Report) → is_some v ≡ true → Slot (λ k (q : Report). k ≡ m → o ≤ q.adopted) p.0 v → p.0 ≡ m → Rules.better o v (Rules.best o ps) ≡ None → ⊥
      here None s y w = absurd (false≢true s)
      here (Some q) s y w = better_some q (Rules.best o ps) (y w)

-- promises, and the choice
module _ (K : Keys) (g : Ghost) (n : ℕ) (st : Node) (gl : Global K g) (b : BodyOk K g n st) where
  fit_of : (e : ℕ) (names : List Mark) (v : Option Report) → K.known e ≡ true → g.made e ≡ false → NamesOk K g e names → Good K g e (K.opened e) v → ((v ≡ None → ⊥) ⊎ (K.dead e ≡ true)) → Fit K g e (Rules.image_taken names v)
  fit_of e names None k u a y (inl f) = absurd (f refl)
  fit_of e names None k u a y (inr d) = fit_store K g gl e names k d a
  fit_of e names (Some q) k u a y f = fit_report K g gl e y.0 q y.1 u y.2

  pub opening_kept : (r : Route) (reports : List (ℕ × Option Report)) (names : Option (List Mark)) → IsOpening K g n st r reports names → Kept K g n (Rules.opening_at n st r reports names)
  opening_kept r reports None a = still K g n (record st { part = Opening r reports None }) [] gl
      (record { body = like K g n st gl b (Opening r reports None); part = record { route = a.route; mine = a.mine; promised = a.promised; unmade = a.unmade; told = a.told; all = a.all; stored = tt } })
      tt refl
  opening_kept r reports (Some names) a = cond_both (Lists.full reports) _ _ (Kept K g n)
      (λ x. let own : Report = record { adopted = st.adopted; image = image_of st } in
      let mine : ReportOk K g r.epoch n own = report_of K g n st gl b r.epoch a.route.known (omega (arith, b.order, a.promised)) (omega (arith, b.promised, a.promised)) in
      let o : K.opened r.epoch ≡ r.opened = a.route.opened in
      let v = Rules.better r.opened (Some own) (Rules.best r.opened reports) in
      let good : Good K g r.epoch (K.opened r.epoch) v = rw o (better_good K g r.epoch r.opened n (Some own) (mine, tt) (Rules.best r.opened reports) (best_good K g r.epoch r.opened reports a.told)) in
      let some : (v ≡ None → ⊥) ⊎ (K.dead r.epoch ≡ true) = elim (cases_Bool (K.dead r.epoch)) [
        | inl d ↦ inr d
        | inr d ↦ inl (elim (cases_lt 0 r.opened) [
          | inl l ↦ (let w = gl.witness r.epoch a.route.known d (rw o l) in
              elim w.0 [
                | inl y ↦ (let z : K.witness r.epoch ≡ n = y ∙ a.route.lead ∙ a.mine in
                    better_some K g r.epoch r.opened own (Rules.best r.opened reports) (rw o at (mine.witness d (sym z))))
                | inr y ↦ better_keeps K g r.epoch r.opened (Some own) (Rules.best r.opened reports)
                    (best_some K g r.epoch r.opened (K.witness r.epoch) reports x
                    (slots_map {Q = λ k (q : Report). k ≡ K.witness r.epoch → r.opened ≤ q.adopted} (λ k q u z. rw o at (u.witness d z)) reports a.told)
                    (rw (a.all, ← a.route.others) y))
              ])
          | inr l ↦ better_some K g r.epoch r.opened own (Rules.best r.opened reports) (omega arith)
        ])
      ] in
      adopts_kept K g n st gl b r a.route a.mine a.promised a.unmade (Rules.image_taken names v) (fit_of r.epoch names v a.route.known a.unmade a.stored good some))
      (λ _. still K g n (record st { part = Opening r reports (Some names) }) [] gl
      (record { body = like K g n st gl b (Opening r reports (Some names)); part = record { route = a.route; mine = a.mine; promised = a.promised; unmade = a.unmade; told = a.told; all = a.all; stored = a.stored } })
      tt refl)

  -- the store tells
  pub keeps_names : (e : ℕ) (text : List Mark) → NamesOk K g e text → (p : Part) → PartOk K g n st p → Kept K g n (Rules.idle st) → Kept K g n (Rules.on_names n st e text p)
  keeps_names e text m Closed a i = i
  keeps_names e text m (Adopting r reached) a i = i
  keeps_names e text m (Syncing r) a i = i
  keeps_names e text m (Open r held queue) a i = i
  keeps_names e text m (Opening r reports (Some names)) a i = i
  keeps_names e text m (Opening r reports None) a i = cond_both (eqb e r.epoch) _ _ (Kept K g n)
      (λ x. let d : e ≡ r.epoch = eqb-true e r.epoch x in
      opening_kept r reports (Some text) (record { route = a.route; mine = a.mine; promised = a.promised; unmade = a.unmade; told = a.told; all = a.all; stored = rw d at m }))
      (λ _. i)

  -- a promise comes with a report
  pub keeps_promised : (from e : ℕ) (q : Report) → ReportOk K g e from q → (p : Part) → PartOk K g n st p → Kept K g n (Rules.idle st) → Kept K g n (Rules.on_promised n st from e q p)
  keeps_promised from e q m Closed a i = i
  keeps_promised from e q m (Adopting r reached) a i = i
  keeps_promised from e q m (Syncing r) a i = i
  keeps_promised from e q m (Open r held queue) a i = i
  keeps_promised from e q m (Opening r reports names) a i = cond_both (eqb e r.epoch) _ _ (Kept K g n)
      (λ x. let d : e ≡ r.epoch = eqb-true e r.epoch x in
      opening_kept r (Lists.fill from q reports) names (record {
        route = a.route;
        mine = a.mine;
        promised = a.promised;
        unmade = a.unmade;
        told = slots_fill (ReportOk K g r.epoch) from q reports (rw d at m) a.told;
        all = names_fill from q reports ∙ a.all;
        stored = a.stored;
      }))
      (λ _. i)

  -- all have adopted
  pub keeps_adopted : (from e reach : ℕ) → ReachOk g e from reach → g.base e ≤ reach → (p : Part) → PartOk K g n st p → Kept K g n (Rules.idle st) → Kept K g n (Rules.on_adopted n st from e reach p)
  keeps_adopted from e reach m l Closed a i = i
  keeps_adopted from e reach m l (Opening r reports names) a i = i
  keeps_adopted from e reach m l (Syncing r) a i = i
  keeps_adopted from e reach m l (Open r held queue) a i = i
  keeps_adopted from e reach m l (Adopting r reached) a i = cond_both (eqb e r.epoch) _ _ (Kept K g n)
      (λ x. let d : e ≡ r.epoch = eqb-true e r.epoch x in
      adopting_kept K g n st gl b r (Lists.fill from reach reached) (record {
        route = a.route;
        mine = a.mine;
        promised = a.promised;
        adopted = a.adopted;
        whole = a.whole;
        made = a.made;
        base = a.base;
        told = slots_fill _ from reach reached (rw d at m, rw d at l) a.told;
        all = names_fill from reach reached ∙ a.all;
      }))
      (λ _. i)

-- a route is taken
pub keeps_changed : (K : Keys) (g : Ghost) (n : ℕ) (st : Node) (gl : Global K g) (ok : NodeOk K g n st) (r : Route) → RouteOk K r → Kept K g n (Rules.on_changed n st r)
keeps_changed K g n st gl ok r a = cond_both ((n == r.lead) && nat_lt st.promised r.epoch) _ _ (Kept K g n)
    (λ x. let t = and_parts (n == r.lead) (nat_lt st.promised r.epoch) x in
    let mine : n ≡ r.lead = eqb-true n r.lead t.0 in
    let more : st.promised < r.epoch = ltb-true st.promised r.epoch t.1 in
    let le : st.promised ≤ r.epoch = omega arith in
    let p = promises K g n st gl ok r.epoch le in
    let unmade : g.made r.epoch ≡ false = elim (cases_Bool (g.made r.epoch)) [
      | inl y ↦ absurd (let z = gl.by_lead r.epoch y (gl.known r.epoch a.known).0 in let w : K.lead r.epoch ≡ n = a.lead ∙ sym mine in let v : r.epoch ≤ g.prom n = rw w at z in omega (arith, ok.body.promised))
      | inr y ↦ y
    ] in
    let h : Ghost = p.0 in
    kept_after K g h n _ _ p.2 p.3 (ap (λ (q : Ghost). q.journal) p.1) (ap (λ (q : Ghost). q.top) p.1) (ap (λ (q : Ghost). q.taken) p.1) (λ m. ap (λ (q : Ghost). q.gone m) p.1) (λ d. inl (ap (λ (q : Ghost). q.text d) p.1))
    (each_append (LetterOk K h) _ _ (closing_ok K h n r.epoch st.part) (a.known, to_each_ok K h n (Promise r.epoch) r.others (each_all _ r.others (λ m. a.known))))
    (still K h n (record st { promised = r.epoch; part = Opening r (Lists.slots_for r.others) None }) [] p.4
    (record {
      body = record { promised = p.5.body.promised; adopted = p.5.body.adopted; order = p.5.body.order; copy = p.5.body.copy; reach = p.5.body.reach; member = p.5.body.member; image = p.5.body.image; later = p.5.body.later };
      part = record { route = a; mine = sym mine; promised = refl; unmade = rw p.1 unmade; told = slots_empty _ r.others; all = names_slots Report r.others; stored = tt };
    })
    tt refl))
    (λ _. idles K g n st gl ok)
