-- Where handover ends. A step that is neither a crash nor a converge keeps it (`goes_on`): what a member adopted stays
-- adopted, and where all is saved nobody is left who could open or add (`not_alive`). A converge keeps it where it keeps
-- the members (`calm_route`).
use Rattle.gz_lineage.specs.Marks.{Mark}
use Rattle.std.proofs.Common.{◌≡◌, ℕ, ◌+◌, ◌<◌, ◌≤◌, List, [], ◌∷◌, ◌++◌, length, refl, ap, sym, ◌∙◌, arith, Bool, true, false, Option, Some, None, eqb, subst, ◌⊎◌, inl, inr}
use Rattle.gz_lineage.specs.Lists.{In, Each}
use Rattle.gz_lineage.specs.Nodes.{Route, Message, Letter, Txn, Ask, Put}
use Rattle.gz_lineage.specs.Rules
use Rattle.gz_lineage.specs.World
use Rattle.gz_lineage.specs.World.{World as Worlds, State, Moved, Event, Converge, Crash, Write, Deliver, Drop, Flush, Repeat, Renew, Resend, Give, node_at, grown_all, risen_all}
use Rattle.gz_lineage.specs.Handover.{IsSaved, HandoverAt, HandoverThroughout, HaveStopped, IsCalm, KeepsRoute, CalmThroughout}
use Rattle.gz_lineage.proofs.Listed.{each_in, in_at}
use Rattle.gz_lineage.proofs.Facts.{RouteOk, ReachOk, AllAdopted, MessageOk, LetterOk}
use Rattle.gz_lineage.proofs.History.{Keys}
use Rattle.gz_lineage.proofs.Invariant.{Inv, all_same, all_low, lows, prefixes, synced_more}
use Rattle.gz_lineage.proofs.NodeSteps.{step_kept, step_journal, step_top}
use Rattle.gz_lineage.proofs.KeySpace.{saved_at}
use Rattle.gz_lineage.proofs.Run.{event_ok, begins}
use Rattle.std.proofs.lemmas.Bool.{ltb-true, eqb-true, cond_both, and_parts, true≢false, cases_eq, cases_lt, cases_Bool}
use Rattle.std.specs.Prelude.{nat_lt, ◌&&◌, not, slice_get, slice_index_or}
use Rattle.std.specs.List.{remove}
use Rattle.std.proofs.lemmas.List.{get_or-set_same, get_or-set_other}

-- some member runs, or all have stopped
some_run : (runs : List Bool) (ms : List ℕ) → ((m : ℕ) × In m ms × (slice_index_or runs m false ≡ true)) ⊎ HaveStopped runs ms
some_run runs [] = inr tt
some_run runs (m ∷ ms) = elim (cases_Bool (slice_index_or runs m false)) [
  | inl x ↦ inl (m, inl refl, x)
  | inr x ↦ elim (some_run runs ms) [ inl y ↦ inl (y.0, inr y.1, y.2) | inr y ↦ inr (x, y) ]
]

-- the lead of an epoch that may still count runs
pub record Alive (w : Worlds) (i : Inv w) : Type 0 where
  pub epoch : ℕ
  pub synced : i.K.synced epoch ≡ true
  pub late : w.top ≤ epoch
  pub runs : slice_index_or w.state.runs (i.K.lead epoch) false ≡ true

-- a step that is neither a crash nor a converge
pub record Steady (w : Worlds) (i : Inv w) (m : Moved) : Type 0 where
  pub runs : m.state.runs ≡ w.state.runs
  pub routes : m.state.routes ≡ w.state.routes
  pub stored : length w.state.stored ≤ length m.state.stored
  pub adopted : (n : ℕ) → (node_at w.state.nodes n).adopted ≤ (node_at m.state.nodes n).adopted
  pub sync : (m.state.sync ≡ w.state.sync) ⊎ ((m.state.sync ≡ World.latest w.state.routes) × AllAdopted i.K i.g (World.latest w.state.routes))
  pub journal : ((grown_all w.journal m.state.nodes ≡ w.journal) × (risen_all w.top m.state.nodes ≡ w.top)) ⊎ Alive w i

-- where all is saved, nobody opens or adds
not_alive : (w : Worlds) (i : Inv w) → IsSaved w w.state.routes → Alive w i → ⊥
not_alive w i h a =
    let gone = (saved_at w i h).gone a.epoch (i.K.lead a.epoch) a.synced (omega (arith, i.top, a.late)) (i.sync a.epoch a.synced) (inl refl) in
    true≢false (sym gone ∙ i.gone (i.K.lead a.epoch) ∙ ap not a.runs)

-- the members of the route that all have adopted
all_members : (w : Worlds) (i : Inv w) (r : Route) (m : ℕ) → RouteOk i.K r → AllAdopted i.K i.g r.epoch → In m (r.lead ∷ r.others) → r.epoch ≤ (node_at w.state.nodes m).adopted
all_members w i r m ok all j = elim j [
  | inl x ↦ (let y : m ≡ i.K.lead r.epoch = x ∙ sym ok.lead in let z : r.epoch ≤ i.g.adop m = rw y all.lead.0 in omega (arith, (i.nodes m).body.adopted))
  | inr x ↦ (let z = (each_in (λ k. ReachOk i.g r.epoch k (i.g.base r.epoch)) (i.K.others r.epoch) m all.others (rw ok.others x)).adopted in omega (arith, (i.nodes m).body.adopted))
]

-- routes of one epoch are the same
same_route : (K : Keys) (o r : Route) → RouteOk K o → RouteOk K r → o.epoch ≡ r.epoch → (o.lead ≡ r.lead) × (o.others ≡ r.others)
same_route K o r a b e = (sym a.lead ∙ ap K.lead e ∙ b.lead, sym a.others ∙ ap K.others e ∙ b.others)

none_synced : (w : Worlds) (i : Inv w) → w.state.sync ≡ 0 → (s : ℕ) → i.K.synced s ≡ true → ⊥
none_synced w i z s y = let a = i.sync s y in let b = (i.global.known s (i.global.synced s y).0).0 in absurd (omega arith)

no_journal : (w : Worlds) (i : Inv w) → w.state.sync ≡ 0 → w.journal ≡ []
no_journal w i z = sym i.journal ∙ elim (cases_lt 0 i.g.top) [
  | inl x ↦ absurd (none_synced w i z i.g.top (i.global.top x).synced)
  | inr x ↦ i.global.none_open (omega arith)
]

pub goes_on : (w : Worlds) (i : Inv w) (m : Moved) → Steady w i m → (rs : List Route) → rs ≡ w.state.routes → HandoverAt w rs → HandoverAt (World.recorded w m) rs
goes_on w i m q [] e h = tt
goes_on w i m q (r ∷ rs) e h =
    let v = World.recorded w m in
    let oks : Each (RouteOk i.K) (r ∷ rs) = subst (λ x. Each (RouteOk i.K) x) (sym e) i.routes in
    let routes : IsSaved w (r ∷ rs) → IsSaved w w.state.routes = λ x. subst (λ y. IsSaved w y) e x in
    elim q.sync [
      | inl same ↦ elim h [
        | inl x ↦ inl (same ∙ x)
        | inr y ↦ elim y [
          | inl x ↦ inr (inl (x.0, x.1, rw q.runs x.2, rw same (omega (arith, x.3, q.adopted x.0))))
          | inr x ↦ elim q.journal [
            | inr a ↦ absurd (not_alive w i (routes x) a)
            | inl j ↦ inr (inr (
              (λ o k l n.
                  let pos = (i.global.known o.epoch (each_in (RouteOk i.K) (r ∷ rs) o oks k).known).0 in
                  let z : In o.epoch w.syncs = i.syncs o.epoch (synced_more w i o.epoch (rw same at l) pos) in
                  subst (λ b. HaveStopped b (o.lead ∷ o.others)) (sym q.runs) (x.0 o k z (omega (arith, n, j.1)))),
              rw j.0 (omega (arith, x.1, q.stored)),
            ))
          ]
        ]
      ]
      | inr new ↦ (let now : m.state.sync ≡ r.epoch = new.0 ∙ ap World.latest (sym e) in
          let all : AllAdopted i.K i.g r.epoch = rw (← e) at new.1 in
          elim (some_run w.state.runs (r.lead ∷ r.others)) [
            | inl x ↦ inr (inl (x.0, x.1, rw q.runs x.2, rw now (omega (arith, all_members w i r x.0 oks.0 all x.1, q.adopted x.0))))
            | inr x ↦ (let here : (o : Route) → In o (r ∷ rs) → o.epoch ≡ r.epoch → HaveStopped m.state.runs (o.lead ∷ o.others) =
                λ o k y. (let p = same_route i.K o r (each_in (RouteOk i.K) (r ∷ rs) o oks k) oks.0 y in subst (λ b. HaveStopped b (o.lead ∷ o.others)) (sym q.runs) (subst (λ b. HaveStopped w.state.runs (b ∷ o.others)) (sym p.0) (subst (λ b. HaveStopped w.state.runs (r.lead ∷ b)) (sym p.1) x))) in
                elim h [
                  | inl y ↦ elim q.journal [
                    | inr a ↦ absurd (none_synced w i y a.epoch a.synced)
                    | inl j ↦ inr (inr (
                      (λ o k l n. elim l [
                        | inl z ↦ here o k (z ∙ now)
                        | inr z ↦ (let pos = (i.global.known o.epoch (each_in (RouteOk i.K) (r ∷ rs) o oks k).known).0 in absurd (none_synced w i y o.epoch (i.synced_of o.epoch z pos)))
                      ]),
                      rw (j.0, no_journal w i y) (omega arith),
                    ))
                  ]
                  | inr y ↦ elim y [
                    | inl z ↦ absurd (true≢false (sym z.2 ∙ each_in (λ p. slice_index_or w.state.runs p false ≡ false) (r.lead ∷ r.others) z.0 x z.1))
                    | inr s ↦ elim q.journal [
                      | inr a ↦ absurd (not_alive w i (routes s) a)
                      | inl j ↦ inr (inr (
                        (λ o k l n. elim l [
                          | inl z ↦ here o k (z ∙ now)
                          | inr z ↦ subst (λ b. HaveStopped b (o.lead ∷ o.others)) (sym q.runs) (s.0 o k z (omega (arith, n, j.1)))
                        ]),
                        rw j.0 (omega (arith, s.1, q.stored)),
                      ))
                    ]
                  ]
                ])
          ])
    ]

-- where the nodes stay
steady : (w : Worlds) (i : Inv w) (flight : List Letter) (taken sends : List Letter) (stored : List Mark) → length w.state.stored ≤ length stored →
    Steady w i (record { state = record w.state { flight = flight; stored = stored }; taken = taken; sends = sends })
steady w i flight taken sends stored l = record {
  runs = refl;
  routes = refl;
  stored = l;
  adopted = λ n. omega arith;
  sync = inl refl;
  journal = inl (all_same w.journal w.state.nodes (prefixes w i), all_low w.top w.state.nodes (lows w i));
}

steady_node : (w : Worlds) (i : Inv w) (flight : List Letter) (l : Letter) → LetterOk i.K i.g l → slice_index_or w.state.runs l.to false ≡ true → l.to < length w.state.nodes →
    Steady w i (World.step_node w.state flight l (Rules.take_message l.to (node_at w.state.nodes l.to) l.from l.body))
steady_node w i flight l a runs less =
    let out = Rules.take_message l.to (node_at w.state.nodes l.to) l.from l.body in
    let k = step_kept w i l a runs in
    let journal = step_journal w i l out k less in
    let top = step_top w i l out k less in
    record {
      runs = refl;
      routes = refl;
      stored = omega arith;
      sync = inl refl;
      adopted = λ n. elim (cases_eq n l.to) [
        | inl x ↦ rw (x, get_or-set_same) (omega (arith, (i.nodes l.to).body.adopted, k.grows.adop l.to, k.node.body.adopted))
        | inr x ↦ rw get_or-set_other (omega arith)
      ];
      journal = elim (cases_eq (i.K.lead k.after.top) l.to) [
        | inr x ↦ (let y = k.only.top x in inl (sym journal ∙ y.1 ∙ i.journal, sym top ∙ y.0 ∙ i.top))
        | inl x ↦ elim (cases_lt 0 k.after.top) [
          | inl p ↦ inr (record { epoch = k.after.top; synced = (k.global.top p).synced; late = omega (arith, k.grows.top, i.top); runs = rw x runs })
          | inr p ↦ (let z : i.g.top ≡ 0 = omega (arith, k.grows.top) in
              inl (sym journal ∙ k.global.none_open (omega arith) ∙ sym (i.global.none_open z) ∙ i.journal, sym top ∙ omega (arith, i.top)))
        ]
      ];
    }

steady_keys : (w : Worlds) (i : Inv w) (flight : List Letter) (l : Letter) (b : Message) → MessageOk i.K i.g l.from l.to b → Steady w i (World.step_keys w.state flight l b)
steady_keys w i flight l (Txn e) a = cond_both (eqb e (World.latest w.state.routes)) _ _ (Steady w i)
    (λ x. let now : e ≡ World.latest w.state.routes = eqb-true e (World.latest w.state.routes) x in
    let s = steady w i flight [] [] w.state.stored (omega arith) in
    record { runs = refl; routes = refl; stored = omega arith; adopted = λ n. omega arith; journal = s.journal; sync = inr (now, rw now at a.1) })
    (λ _. steady w i _ _ _ w.state.stored (omega arith))
steady_keys w i flight l (Ask e) a = steady w i _ _ _ w.state.stored (omega arith)
steady_keys w i flight l (Put text) a = steady w i _ _ _ _
    (cond_both (nat_lt (length w.state.stored) (length text)) text w.state.stored (λ x. length w.state.stored ≤ length x) (λ x. let y = ltb-true (length w.state.stored) (length text) x in omega arith) (λ _. omega arith))
steady_keys w i flight l _ a = steady w i _ _ _ w.state.stored (omega arith)

steady_delivery : (w : Worlds) (i : Inv w) (k : ℕ) (o : Option Letter) → ((l : Letter) → o ≡ Some l → LetterOk i.K i.g l) → Steady w i (World.delivery w.state k o)
steady_delivery w i k None a = steady w i w.state.flight [] [] w.state.stored (omega arith)
steady_delivery w i k (Some l) a =
    cond_both (eqb l.to Rules.keys) _ _ (Steady w i)
    (λ _. steady_keys w i (remove w.state.flight k) l l.body (a l refl))
    (λ _. cond_both (slice_index_or w.state.runs l.to false && nat_lt l.to (length w.state.nodes)) _ _ (Steady w i)
    (λ x. let p = and_parts (slice_index_or w.state.runs l.to false) (nat_lt l.to (length w.state.nodes)) x in steady_node w i (remove w.state.flight k) l (a l refl) p.0 (ltb-true l.to (length w.state.nodes) p.1))
    (λ _. steady w i _ _ _ w.state.stored (omega arith)))

-- neither a crash nor a converge
abbrev pub IsQuiet : Event → Type 0
IsQuiet (Converge more lead others) = ⊥
IsQuiet (Crash n) = ⊥
IsQuiet _ = Unit {0}

steady_again : (w : Worlds) (i : Inv w) (o : Option Letter) → Steady w i (World.again w o)
steady_again w i None = steady w i _ _ _ w.state.stored (omega arith)
steady_again w i (Some l) = steady w i _ _ _ w.state.stored (omega arith)

steady_event : (w : Worlds) (i : Inv w) (e : Event) → IsQuiet e → Steady w i (World.step w e)
steady_event w i (Converge more lead others) q = absurd q
steady_event w i (Crash n) q = absurd q
steady_event w i (Write to x) q = steady w i _ _ _ w.state.stored (omega arith)
steady_event w i (Deliver k) q = steady_delivery w i k (slice_get w.state.flight k) (λ l e. each_in (LetterOk i.K i.g) w.state.flight l i.flight (in_at w.state.flight k l e))
steady_event w i (Drop k) q = steady w i _ _ _ w.state.stored (omega arith)
steady_event w i (Repeat k) q = steady_again w i (slice_get w.said k)
steady_event w i (Renew k n) q = steady_again w i (World.renewed (slice_get w.said k) (slice_get w.said n))
steady_event w i (Flush n) q = steady w i _ _ _ w.state.stored (omega arith)
steady_event w i (Resend n) q = steady w i _ _ _ w.state.stored (omega arith)
steady_event w i (Give n k) q = steady w i _ _ _ w.state.stored (omega arith)

pub quiet_step : (w : Worlds) (i : Inv w) (e : Event) → IsQuiet e → HandoverAt w w.state.routes → HandoverAt (World.happens w e) (World.happens w e).state.routes
quiet_step w i e q h = let s = steady_event w i e q in rw s.routes (goes_on w i (World.step w e) s w.state.routes refl h)

-- a converge that keeps all members of the present route, or one that runs where `sync/` is its epoch
calm_route : (w : Worlds) (i : Inv w) (more lead : ℕ) (others : List ℕ) (rs : List Route) → rs ≡ w.state.routes → KeepsRoute w rs (lead ∷ others) → HandoverAt w rs →
    HandoverAt (World.happens w (Converge more lead others)) (World.happens w (Converge more lead others)).state.routes
calm_route w i more lead others [] e k h = elim (cases_lt 0 w.state.sync) [
  | inl x ↦ absurd (let f = i.found w.state.sync (i.global.synced w.state.sync (i.sync_is x)).0 in subst (λ y. In f.0 y) (sym e) f.1)
  | inr x ↦ inl (omega arith)
]
calm_route w i more lead others (r ∷ rs) e k h = elim (cases_lt 0 w.state.sync) [
  | inr x ↦ inl (omega arith)
  | inl x ↦ (let s = i.global.synced w.state.sync (i.sync_is x) in
      elim k [
        | inr c ↦ (let oks : Each (RouteOk i.K) (r ∷ rs) = subst (λ y. Each (RouteOk i.K) y) (sym e) i.routes in
            let all : AllAdopted i.K i.g r.epoch = subst (λ y. AllAdopted i.K i.g y) c.0 s.1 in
            inr (inl (c.1.0, c.1.2, c.1.3, omega (arith, c.0, all_members w i r c.1.0 oks.0 all c.1.1))))
        | inl c ↦ elim h [
          | inl y ↦ inl y
          | inr y ↦ elim y [
            | inl z ↦ inr (inl (z.0, c z.0 z.1, z.2, z.3))
            | inr z ↦ (let v : IsSaved w w.state.routes = subst (λ y. IsSaved w y) e z in
                inr (inr (
                  (λ o j l n. elim j [
                    | inl y ↦ absurd (let b : o.epoch ≡ World.latest w.state.routes + more + 1 = ap (λ (q : Route). q.epoch) y in
                        let p = (i.global.known o.epoch (i.global.synced o.epoch (synced_more w i o.epoch l (omega (arith, b)))).0).1 in omega (arith, i.latest))
                    | inr y ↦ v.0 o y (elim l [ inl b ↦ rw b (i.syncs w.state.sync (i.sync_is x)) | inr b ↦ b ]) (omega (arith, n, all_low w.top w.state.nodes (lows w i)))
                  ]),
                  rw (all_same w.journal w.state.nodes (prefixes w i)) v.1,
                )))
          ]
        ]
      ])
]

pub calm_step : (w : Worlds) (i : Inv w) (e : Event) → IsCalm w e → HandoverAt w w.state.routes → HandoverAt (World.happens w e) (World.happens w e).state.routes
calm_step w i (Converge more lead others) c h = calm_route w i more lead others w.state.routes refl c h
calm_step w i (Crash n) c h = absurd c
calm_step w i (Write to x) c h = quiet_step w i (Write to x) tt h
calm_step w i (Deliver k) c h = quiet_step w i (Deliver k) tt h
calm_step w i (Repeat k) c h = quiet_step w i (Repeat k) tt h
calm_step w i (Renew k n) c h = quiet_step w i (Renew k n) tt h
calm_step w i (Drop k) c h = quiet_step w i (Drop k) tt h
calm_step w i (Flush n) c h = quiet_step w i (Flush n) tt h
calm_step w i (Resend n) c h = quiet_step w i (Resend n) tt h
calm_step w i (Give n k) c h = quiet_step w i (Give n k) tt h

pub calm_from : (es : List Event) (w : Worlds) → Inv w → HandoverAt w w.state.routes → CalmThroughout es w → HandoverThroughout es w
calm_from [] w i h c = tt
calm_from (e ∷ es) w i h c = let x = calm_step w i e c.0 h in (x, calm_from es (World.happens w e) (event_ok w i e x).after x c.1)

pub lasts_from : (e : Event) (es : List Event) (w : Worlds) → Inv w → HandoverAt w w.state.routes → IsCalm (World.run es w) e → HandoverThroughout es w → HandoverThroughout (es ++ e ∷ []) w
lasts_from e [] w i h q t = (calm_step w i e q h, tt)
lasts_from e (x ∷ es) w i h q t = (t.0, lasts_from e es (World.happens w x) (event_ok w i x t.0).after t.0 q t.1)

pub lasts : (size : ℕ) (es : List Event) (e : Event) → HandoverThroughout es (World.start size) → IsCalm (World.run es (World.start size)) e → HandoverThroughout (es ++ e ∷ []) (World.start size)
lasts size es e h q = lasts_from e es (World.start size) (begins size) tt q h

pub calm : (size : ℕ) (es : List Event) → CalmThroughout es (World.start size) → HandoverThroughout es (World.start size)
calm size es c = calm_from es (World.start size) (begins size) tt c
