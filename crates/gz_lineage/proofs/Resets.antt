-- Where the journal gets a reset. One comes only with an image that was begun from the store, and behind an image stand
-- entries alone. So a step adds one only where the route of the greatest open epoch had stopped as a whole when that
-- image was begun.
use Rattle.gz_lineage.specs.Marks.{Mark, IsPut}
use Rattle.std.proofs.Common.{◌≡◌, ℕ, ◌+◌, ◌<◌, ◌≤◌, List, [], ◌∷◌, ◌++◌, length, take, drop, refl, ap, sym, ◌∙◌, arith, Bool, true, false, Option, Some, None, eqb, subst, ◌⊎◌, inl, inr}
use Rattle.gz_lineage.specs.Prefix.{IsPrefix}
use Rattle.gz_lineage.specs.Lists.{In}
use Rattle.gz_lineage.specs.Nodes.{Route, Part, Message, Letter, Outcome, Closed, Opening, Adopting, Syncing, Open, Txn}
use Rattle.gz_lineage.specs.Rules
use Rattle.gz_lineage.specs.World
use Rattle.gz_lineage.specs.World.{World as Worlds, State, Moved, Event, Converge, Crash, Write, Deliver, Drop, Flush, Repeat, Renew, Resend, Give, node_at, grown, grown_all}
use Rattle.gz_lineage.specs.Handover.{HaveStopped}
use Rattle.gz_lineage.specs.Safety.{AddsReset, Always, ResetsAfterAStop}
use Rattle.gz_lineage.proofs.Prefixes.{pre_trans, pre_take, pre_take_of, pre_refl, pre_len, pre_same}
use Rattle.gz_lineage.proofs.Listed.{each_in, in_at}
use Rattle.gz_lineage.proofs.Facts.{RouteOk, ReachOk, Global, Plain, PartOk, LetterOk, Kept, IsOpen}
use Rattle.gz_lineage.proofs.History.{Keys, Ghost, IsMember, Grows}
use Rattle.gz_lineage.proofs.Invariant.{Inv, all_same, prefixes}
use Rattle.gz_lineage.proofs.NodeSteps.{step_kept, step_journal}
use Rattle.gz_lineage.proofs.Run.{run_ok, begins}
use Rattle.std.proofs.lemmas.Bool.{ltb-true, cond_both, and_parts, true≢false, not-true, cases_eq, cases_order, cases_lt}
use Rattle.std.specs.Prelude.{nat_lt, ◌&&◌, not, slice_get, slice_index_or, suc, zero}
use Rattle.std.specs.List.{remove}
use Rattle.std.proofs.lemmas.List.{take_all, length_push}
use Rattle.gz_lineage.proofs.Primary.{journal_in}
use Rattle.std.proofs.Math.ListN.{drop_of_length-le}
use Rattle.std.proofs.Math.Seq.{drop-append_seam}

plain_drop : (j : ℕ) (xs : List Mark) → Plain xs → Plain (drop j xs)
plain_drop zero xs a = a
plain_drop (suc j) [] a = a
plain_drop (suc j) (x ∷ xs) a = plain_drop j xs a.1

plain_take : (h : ℕ) (xs : List Mark) → Plain xs → Plain (take h xs)
plain_take zero xs a = tt
plain_take (suc h) [] a = a
plain_take (suc h) (x ∷ xs) a = (a.0, plain_take h xs a.1)

plain_later : (b j : ℕ) (xs : List Mark) → b ≤ j → Plain (drop b xs) → Plain (drop j xs)
plain_later zero j xs l a = plain_drop j xs a
plain_later (suc b) zero xs l a = absurd (omega arith)
plain_later (suc b) (suc j) [] l a = a
plain_later (suc b) (suc j) (x ∷ xs) l a = plain_later b j xs (omega arith) a

plain_prefix : (j h : ℕ) (xs : List Mark) → Plain (drop j xs) → Plain (drop j (take h xs))
plain_prefix zero h xs a = plain_take h xs a
plain_prefix (suc j) zero xs a = tt
plain_prefix (suc j) (suc h) [] a = a
plain_prefix (suc j) (suc h) (x ∷ xs) a = plain_prefix j h xs a

plain_whole : (b : ℕ) (xs : List Mark) → Plain (take b xs) → Plain (drop b xs) → Plain xs
plain_whole zero xs a c = c
plain_whole (suc b) [] a c = tt
plain_whole (suc b) (x ∷ xs) a c = (a.0, plain_whole b xs a.1 c)

plain_join : (j b : ℕ) (xs : List Mark) → Plain (drop j (take b xs)) → Plain (drop b xs) → Plain (drop j xs)
plain_join zero b xs a c = plain_whole b xs a c
plain_join (suc j) zero xs a c = plain_drop (suc j) xs c
plain_join (suc j) (suc b) [] a c = tt
plain_join (suc j) (suc b) (x ∷ xs) a c = plain_join j b xs a c

-- where it holds of a list, it holds of its prefixes
plain_pre : (j : ℕ) (xs ys : List Mark) → IsPrefix xs ys → Plain (drop j ys) → Plain (drop j xs)
plain_pre j xs ys p a = subst (λ z. Plain (drop j z)) p.prefix (plain_prefix j (length xs) ys a)

no_mark : (xs : List Mark) → Plain xs → In Rules.reset xs → ⊥
no_mark xs a i = absurd (let z = each_in IsPut xs Rules.reset a i in z)

-- the spool of a later epoch was begun from the store since, or it is what a member had in the greatest open epoch
since_top : (K : Keys) (g : Ghost) → Global K g → 0 < g.top → (n e : ℕ) → e ≤ n → g.made e ≡ true → g.top < e → (g.top < g.born e) ⊎ IsPrefix (g.text e) (g.text g.top)
since_top K g gl pos zero e l m t = absurd (omega arith)
since_top K g gl pos (suc n) e l m t = elim (gl.pick e m (omega arith)) [
  | inl x ↦ inl (omega arith)
  | inr p ↦ (let k : g.top ≤ p.from = omega (arith, gl.opened e g.top (gl.made e m (omega arith)) (gl.top pos).synced t, p.enough) in
      let whole : IsPrefix (g.text e) (g.text p.from) = subst (λ y. IsPrefix y (g.text p.from)) (take_all (g.base e) (g.text e) (gl.unopened e m t)) p.within in
      elim (cases_eq p.from g.top) [
        | inl x ↦ inr (subst (λ y. IsPrefix (g.text e) (g.text y)) x whole)
        | inr x ↦ elim (since_top K g gl pos n p.from (omega (arith, p.less)) p.made (omega arith)) [
          | inl y ↦ inl (omega (arith, p.same))
          | inr y ↦ inr (pre_trans whole y)
        ]
      ])
]

-- what a step adds has no reset, or all members of the route that was open before have stopped
abbrev pub Clean : (w : Worlds) → Inv w → List Mark → Type 0
Clean w i journal = In Rules.reset (drop (length w.journal) journal) → (s : ℕ) → i.K.known s ≡ true → s ≡ w.top → (p : ℕ) → IsMember i.K s p → slice_index_or w.state.runs p false ≡ false

clean_same : (w : Worlds) (i : Inv w) (journal : List Mark) → journal ≡ w.journal → Clean w i journal
clean_same w i journal e h = absurd (subst (λ x. In Rules.reset x) (ap (λ j. drop (length w.journal) j) e ∙ drop_of_length-le w.journal (omega arith)) h)

clean_part : (w : Worlds) (i : Inv w) (l : Letter) (out : Outcome) (k : Kept i.K (record i.g { taken = i.g.taken ++ l ∷ [] }) l.to out) → slice_index_or w.state.runs l.to false ≡ true →
    (p : Part) → PartOk i.K k.after l.to out.node p → k.after.journal ≡ grown i.g.journal out.node p → Clean w i k.after.journal
clean_part w i l out k runs Closed a e = clean_same w i k.after.journal (e ∙ i.journal)
clean_part w i l out k runs (Opening r reports names) a e = clean_same w i k.after.journal (e ∙ i.journal)
clean_part w i l out k runs (Adopting r reached) a e = clean_same w i k.after.journal (e ∙ i.journal)
clean_part w i l out k runs (Syncing r) a e = clean_same w i k.after.journal (e ∙ i.journal)
clean_part w i l out k runs (Open r held queue) a e = λ h s known t m j.
    let g = i.g in
    let d = r.epoch in
    let size = length g.journal in
    let top : s ≡ g.top = omega (arith, i.top) in
    let pos : 0 < g.top = omega (arith, (i.global.known s known).0) in
    let open_top = i.global.top pos in
    let all = (i.global.synced d a.synced).1 in
    let same = k.grows.made d all.made in
    let text = k.after.text d in
    -- what was added
    let added : In Rules.reset (drop size (take out.node.head text)) =
    subst (λ x. In Rules.reset (drop size (take out.node.head x))) a.whole
    (subst (λ x. In Rules.reset x) (ap (λ x. drop (length x) k.after.journal) (sym i.journal) ∙ ap (λ x. drop size x) e ∙ drop-append_seam g.journal (drop size (take out.node.head out.node.spool))) h) in
    let puts : Plain (drop (g.base d) text) = subst (λ b. Plain (drop b text)) same.1 (k.global.puts d same.0) in
    let done : Plain (drop size text) → slice_index_or w.state.runs m false ≡ false = λ x. absurd (no_mark (drop size (take out.node.head text)) (plain_prefix size out.node.head text x) added) in
    elim (cases_order d g.top) [
      | inl x ↦ done (plain_later (g.base d) size text (rw x open_top.base) puts)
      | inr y ↦ elim y [
        | inl x ↦ elim (i.global.capped g.top d (i.global.synced g.top open_top.synced).1.made a.synced x) [
          | inl c ↦ (let reach : g.base d ≤ g.ends c.by d = elim c.member [
            | inl z ↦ rw z all.lead.1
            | inr z ↦ (each_in (λ q. ReachOk g d q (g.base d)) (i.K.others d) c.by all.others z).reach
          ] in
              done (plain_later (g.base d) size text (omega (arith, c.short, open_top.base)) puts))
          | inr c ↦ absurd (true≢false (sym (c.gone (i.K.lead d) (inl refl)) ∙ ap g.gone (a.route.lead ∙ a.mine) ∙ i.gone l.to ∙ ap not runs))
        ]
        | inr x ↦ elim (since_top i.K g i.global pos d d (omega arith) all.made x) [
          | inl b ↦ (let born = i.global.born d all.made (omega arith) in
              let dead = i.global.dead (g.born d) born.1 born.2 in
              let gone = dead.gone g.top m open_top.synced (omega (arith, dead.below)) (i.global.opened (g.born d) g.top born.1 open_top.synced b) (subst (λ y. IsMember i.K y m) top j) in
              not-true (slice_index_or w.state.runs m false) (sym (i.gone m) ∙ gone))
          | inr q ↦ (let before : take (g.base d) text ≡ take (g.base d) (g.text d) = pre_take_of (g.base d) (k.grows.text d) (i.global.base d all.made) in
              let prefix : Plain (drop size (take (g.base d) (g.text d))) =
              plain_pre size (take (g.base d) (g.text d)) (g.text g.top) (pre_trans (pre_take (g.base d) (g.text d)) q)
              (plain_later (g.base g.top) size (g.text g.top) open_top.base (i.global.puts g.top (i.global.synced g.top open_top.synced).1.made)) in
              done (plain_join size (g.base d) text (subst (λ y. Plain (drop size y)) (sym before) prefix) puts))
        ]
      ]
    ]

clean_node : (w : Worlds) (i : Inv w) (flight : List Letter) (l : Letter) → LetterOk i.K i.g l → slice_index_or w.state.runs l.to false ≡ true → l.to < length w.state.nodes →
    Clean w i (grown_all w.journal (World.step_node w.state flight l (Rules.take_message l.to (node_at w.state.nodes l.to) l.from l.body)).state.nodes)
clean_node w i flight l a runs less =
    let out = Rules.take_message l.to (node_at w.state.nodes l.to) l.from l.body in
    let k = step_kept w i l a runs in
    subst (λ j. Clean w i j) (step_journal w i l out k less) (clean_part w i l out k runs out.node.part k.node.part k.journal)

clean_still : (w : Worlds) (i : Inv w) → Clean w i (grown_all w.journal w.state.nodes)
clean_still w i = clean_same w i (grown_all w.journal w.state.nodes) (all_same w.journal w.state.nodes (prefixes w i))

clean_keys : (w : Worlds) (i : Inv w) (flight : List Letter) (l : Letter) (b : Message) → Clean w i (grown_all w.journal (World.step_keys w.state flight l b).state.nodes)
clean_keys w i flight l (Txn e) = cond_both (eqb e (World.latest w.state.routes)) _ _ (λ (m : Moved). Clean w i (grown_all w.journal m.state.nodes)) (λ _. clean_still w i) (λ _. clean_still w i)
clean_keys w i flight l _ = clean_still w i

clean_delivery : (w : Worlds) (i : Inv w) (k : ℕ) (o : Option Letter) → ((l : Letter) → o ≡ Some l → LetterOk i.K i.g l) → Clean w i (grown_all w.journal (World.delivery w.state k o).state.nodes)
clean_delivery w i k None a = clean_still w i
clean_delivery w i k (Some l) a =
    cond_both (eqb l.to Rules.keys) _ _ (λ (m : Moved). Clean w i (grown_all w.journal m.state.nodes))
    (λ _. clean_keys w i (remove w.state.flight k) l l.body)
    (λ _. cond_both (slice_index_or w.state.runs l.to false && nat_lt l.to (length w.state.nodes)) _ _ (λ (m : Moved). Clean w i (grown_all w.journal m.state.nodes))
    (λ x. let p = and_parts (slice_index_or w.state.runs l.to false) (nat_lt l.to (length w.state.nodes)) x in clean_node w i (remove w.state.flight k) l (a l refl) p.0 (ltb-true l.to (length w.state.nodes) p.1))
    (λ _. clean_still w i))

clean_again : (w : Worlds) (i : Inv w) (o : Option Letter) → Clean w i (grown_all w.journal (World.again w o).state.nodes)
clean_again w i None = clean_still w i
clean_again w i (Some l) = clean_still w i

clean_event : (w : Worlds) (i : Inv w) (e : Event) → Clean w i (World.happens w e).journal
clean_event w i (Converge more lead others) = clean_still w i
clean_event w i (Crash n) = clean_still w i
clean_event w i (Write to x) = clean_still w i
clean_event w i (Deliver k) = clean_delivery w i k (slice_get w.state.flight k) (λ l e. each_in (LetterOk i.K i.g) w.state.flight l i.flight (in_at w.state.flight k l e))
clean_event w i (Repeat k) = clean_again w i (slice_get w.said k)
clean_event w i (Renew k n) = clean_again w i (World.renewed (slice_get w.said k) (slice_get w.said n))
clean_event w i (Drop k) = clean_still w i
clean_event w i (Flush n) = clean_still w i
clean_event w i (Resend n) = clean_still w i
clean_event w i (Give n k) = clean_still w i

all_stopped : (runs : List Bool) (ms : List ℕ) → ((m : ℕ) → In m ms → slice_index_or runs m false ≡ false) → HaveStopped runs ms
all_stopped runs [] f = tt
all_stopped runs (m ∷ ms) f = (f m (inl refl), all_stopped runs ms (λ k x. f k (inr x)))

pub resets_at : (w : Worlds) (i : Inv w) (e : Event) (o : Route) → AddsReset w (World.happens w e) → In o w.state.routes → o.epoch ≡ w.top → HaveStopped w.state.runs (o.lead ∷ o.others)
resets_at w i e o h j t =
    let ok : RouteOk i.K o = each_in (RouteOk i.K) w.state.routes o i.routes j in
    all_stopped w.state.runs (o.lead ∷ o.others) (λ m k. clean_event w i e h o.epoch ok.known t m (elim k [ inl x ↦ inl (x ∙ sym ok.lead) | inr x ↦ inr (rw ok.others x) ]))

pub resets : Always ResetsAfterAStop
resets size es h e o r j t = resets_at (World.run es (World.start size)) (run_ok es (World.start size) (begins size) h) e o r j t

-- ---- what an opening adds: the list of an epoch above the greatest open one (for the crate that carries a full cluster)
