-- What an opening adds to the journal: entries alone, or one reset at its end. The image of an epoch above the greatest open
-- one is what an earlier epoch had, or it was begun from the store with a reset; and what an open primary of no greater
-- epoch adds are entries alone. So the cluster's acknowledged list, which gets a reset where a primary opens with a bare
-- spool, follows the reduced journal.
use Rattle.std.proofs.Common.{◌≡◌, ℕ, ◌+◌, ◌<◌, ◌≤◌, List, [], ◌∷◌, ◌++◌, length, take, drop, refl, ap, sym, ◌∙◌, arith, true, false, subst, ◌⊎◌, inl, inr, suc, zero}
use Rattle.std.proofs.lemmas.Bool.{true≢false, cases_eq, cases_lt}
use Rattle.std.proofs.lemmas.List.{take_all, length_push}
use Rattle.std.proofs.Math.ListN.{drop_of_length-le}
use Rattle.gz_lineage.specs.Prefix.{IsPrefix}
use Rattle.gz_lineage.specs.Marks.{Mark}
use Rattle.gz_lineage.specs.Nodes.{Route}
use Rattle.gz_lineage.specs.Rules
use Rattle.gz_lineage.specs.World.{World, node_at}
use Rattle.gz_lineage.proofs.Prefixes.{pre_trans, pre_refl, pre_len, pre_same}
use Rattle.gz_lineage.proofs.Listed.{each_in}
use Rattle.gz_lineage.proofs.Facts.{ReachOk, Global, Plain, IsOpen}
use Rattle.gz_lineage.proofs.History.{Keys, Ghost, Grows}
use Rattle.gz_lineage.proofs.Invariant.{Inv}
use Rattle.gz_lineage.proofs.Primary.{journal_in}

plain_drop : (j : ℕ) (xs : List Mark) → Plain xs → Plain (drop j xs)
plain_drop zero xs a = a
plain_drop (suc j) [] a = a
plain_drop (suc j) (x ∷ xs) a = plain_drop j xs a.1

plain_take : (h : ℕ) (xs : List Mark) → Plain xs → Plain (take h xs)
plain_take zero xs a = tt
plain_take (suc h) [] a = a
plain_take (suc h) (x ∷ xs) a = (a.0, plain_take h xs a.1)

plain_later : (b j : ℕ) (xs : List Mark) → b ≤ j → Plain (drop b xs) → Plain (drop j xs)
plain_later zero j xs l a = plain_drop j xs a
plain_later (suc b) zero xs l a = absurd (omega arith)
plain_later (suc b) (suc j) [] l a = a
plain_later (suc b) (suc j) (x ∷ xs) l a = plain_later b j xs (omega arith) a

plain_prefix : (j h : ℕ) (xs : List Mark) → Plain (drop j xs) → Plain (drop j (take h xs))
plain_prefix zero h xs a = plain_take h xs a
plain_prefix (suc j) zero xs a = tt
plain_prefix (suc j) (suc h) [] a = a
plain_prefix (suc j) (suc h) (x ∷ xs) a = plain_prefix j h xs a

-- where it holds of a list, it holds of its fronts
plain_pre : (j : ℕ) (xs ys : List Mark) → IsPrefix xs ys → Plain (drop j ys) → Plain (drop j xs)
plain_pre j xs ys p a = subst (λ z. Plain (drop j z)) p.prefix (plain_prefix j (length xs) ys a)

-- the spool of a later epoch was begun from the store since, or it is what a member had in the greatest open epoch
since_top : (K : Keys) (g : Ghost) → Global K g → 0 < g.top → (n e : ℕ) → e ≤ n → g.made e ≡ true → g.top < e → (g.top < g.born e) ⊎ IsPrefix (g.text e) (g.text g.top)
since_top K g gl pos zero e l m t = absurd (omega arith)
since_top K g gl pos (suc n) e l m t = elim (gl.pick e m (omega arith)) [
  | inl x ↦ inl (omega arith)
  | inr p ↦ (let k : g.top ≤ p.from = omega (arith, gl.opened e g.top (gl.made e m (omega arith)) (gl.top pos).synced t, p.enough) in
      let whole : IsPrefix (g.text e) (g.text p.from) = subst (λ y. IsPrefix y (g.text p.from)) (take_all (g.base e) (g.text e) (gl.unopened e m t)) p.within in
      elim (cases_eq p.from g.top) [
        | inl x ↦ inr (subst (λ y. IsPrefix (g.text e) (g.text y)) x whole)
        | inr x ↦ elim (since_top K g gl pos n p.from (omega (arith, p.less)) p.made (omega arith)) [
          | inl y ↦ inl (omega (arith, p.same))
          | inr y ↦ inr (pre_trans whole y)
        ]
      ])
]

-- ---- the list of an epoch above the greatest open one

-- from the epoch down to the one that was begun from the store: it is that one's list
born_list : (K : Keys) (g : Ghost) → Global K g → (n e : ℕ) → e ≤ n → g.made e ≡ true → 0 < e → g.top < g.born e → IsPrefix (g.text e) (g.text (g.born e))
born_list K g gl zero e l m p t = absurd (omega arith)
born_list K g gl (suc n) e l m p t = elim (gl.pick e m p) [
  | inl x ↦ subst (λ b. IsPrefix (g.text e) (g.text b)) (sym x) (pre_refl (g.text e))
  | inr q ↦ (let later : g.top < e = omega (arith, t, (gl.born e m (omega arith)).0) in
      let whole : IsPrefix (g.text e) (g.text q.from) = subst (λ y. IsPrefix y (g.text q.from)) (take_all (g.base e) (g.text e) (gl.unopened e m later)) q.within in
      let older : g.born q.from ≤ q.from = (gl.born q.from q.made (omega (arith, q.same))).0 in
      pre_trans whole (subst (λ b. IsPrefix (g.text q.from) (g.text b)) (sym q.same) (born_list K g gl n q.from (omega (arith, q.less)) q.made (omega (arith, older, q.same)) (omega (arith, q.same)))))
]

-- where none is open, what wasn't begun from the store is empty
never_open : (K : Keys) (g : Ghost) → Global K g → g.top ≡ 0 → (n e : ℕ) → e ≤ n → g.made e ≡ true → (0 < g.born e) ⊎ (g.text e ≡ [])
never_open K g gl z zero e l m = inr (let y : e ≡ 0 = omega arith in ap g.text y ∙ gl.nothing.1)
never_open K g gl z (suc n) e l m = elim (cases_eq e 0) [
  | inl y ↦ inr (ap g.text y ∙ gl.nothing.1)
  | inr y ↦ elim (gl.pick e m (omega arith)) [
    | inl x ↦ inl (omega arith)
    | inr q ↦ elim (never_open K g gl z n q.from (omega (arith, q.less)) q.made) [
      | inl x ↦ inl (omega (arith, q.same))
      | inr x ↦ inr (let whole : IsPrefix (g.text e) (g.text q.from) = subst (λ y. IsPrefix y (g.text q.from)) (take_all (g.base e) (g.text e) (gl.unopened e m (omega arith))) q.within in
          none (g.text e) (subst (λ y. IsPrefix (g.text e) y) x whole))
    ]
  ]
]
  where
    none : (xs : List Mark) → IsPrefix xs [] → xs ≡ []
    none [] p = refl
    none (x ∷ xs) p = absurd (let z = pre_len p in omega arith)

-- What it has behind the journal is entries alone, or it is the journal and a reset.
pub opening_adds : (K : Keys) (g : Ghost) → Global K g → (e : ℕ) → g.made e ≡ true → g.top < e → Plain (drop (length g.journal) (g.text e)) ⊎ (g.text e ≡ g.journal ++ Rules.reset ∷ [])
opening_adds K g gl e m t =
    let size = length g.journal in
    let has = journal_in K g gl e m t in
    let begun : g.top < g.born e → Plain (drop size (g.text e)) ⊎ (g.text e ≡ g.journal ++ Rules.reset ∷ []) = λ b.
    (let s = gl.since e m (omega arith) in
    let top_b : g.top < g.born e = b in
    let whole_b : take (g.base (g.born e)) (g.text (g.born e)) ≡ g.text (g.born e) = take_all (g.base (g.born e)) (g.text (g.born e)) (gl.unopened (g.born e) s.0 top_b) in
    let down : IsPrefix (g.text e) (g.text (g.born e)) = born_list K g gl e e (omega arith) m (omega arith) b in
    let up : IsPrefix (g.text (g.born e)) (g.text e) = subst (λ y. IsPrefix y (g.text e)) whole_b s.2 in
    let is : g.text e ≡ g.text (g.born e) = pre_same down (pre_len up) in
    let n = gl.birth (g.born e) s.0 (omega arith) s.1 in
    let list : g.text e ≡ n.0 ++ Rules.reset ∷ [] = is ∙ sym whole_b ∙ n.2 in
    let long : length (g.text e) ≡ length n.0 + 1 = ap length list ∙ length_push n.0 Rules.reset in
    elim (cases_lt size (length (g.text e))) [
      | inl less ↦ (let full : n.0 ≡ g.journal = pre_same n.1 (omega (arith, long, less)) in inr (list ∙ ap (λ y. y ++ Rules.reset ∷ []) full))
      | inr less ↦ inl (subst Plain (sym (drop_of_length-le (g.text e) less)) tt)
    ]) in
    elim (cases_lt 0 g.top) [
      | inl pos ↦ elim (since_top K g gl pos e e (omega arith) m t) [
        | inl b ↦ begun b
        | inr q ↦ inl (plain_pre size (g.text e) (g.text g.top) q (plain_later (g.base g.top) size (g.text g.top) (gl.top pos).base (gl.puts g.top (gl.synced g.top (gl.top pos).synced).1.made)))
      ]
      | inr none ↦ elim (never_open K g gl (omega arith) e e (omega arith) m) [
        | inl b ↦ begun (omega arith)
        | inr x ↦ inl (subst (λ y. Plain (drop size y)) (sym x) (plain_drop size [] tt))
      ]
    ]

-- What an open primary of no greater epoch has behind the journal is entries alone.
pub going_adds : (w v : World) (i : Inv w) (k : Inv v) → Grows i.g k.g → (n : ℕ) (r : Route) (held : List (ℕ × ℕ)) → IsOpen k.K k.g n (node_at v.state.nodes n) r held → k.g.gone n ≡ false → r.epoch ≤ i.g.top → k.g.top ≡ i.g.top →
    Plain (drop (length i.g.journal) (take (node_at v.state.nodes n).head (node_at v.state.nodes n).spool))
going_adds w v i k grows n r held a here low top =
    let d = r.epoch in
    let size = length i.g.journal in
    let st = node_at v.state.nodes n in
    let pos : 0 < i.g.top = (let p = (k.global.known d a.route.known).0 in omega arith) in
    let t = i.global.top pos in
    let made = (i.global.synced i.g.top t.synced).1.made in
    let base : k.g.base i.g.top ≤ size = omega (arith, (grows.made i.g.top made).1, t.base) in
    let puts : Plain (drop (k.g.base d) (k.g.text d)) = k.global.puts d a.made in
    let done : k.g.base d ≤ size → Plain (drop size (take st.head st.spool)) = λ x. plain_prefix size st.head st.spool (subst (λ y. Plain (drop size y)) (sym a.whole) (plain_later (k.g.base d) size (k.g.text d) x puts)) in
    elim (cases_lt d i.g.top) [
      | inr x ↦ (let same : d ≡ i.g.top = omega arith in done (omega (arith, ap k.g.base same, base)))
      | inl x ↦ elim (k.global.capped i.g.top d (grows.made i.g.top made).0 a.synced x) [
        | inl c ↦ (let all = (k.global.synced d a.synced).1 in
            let reach : k.g.base d ≤ k.g.ends c.by d = elim c.member [
              | inl z ↦ rw z all.lead.1
              | inr z ↦ (each_in (λ q. ReachOk k.g d q (k.g.base d)) (k.K.others d) c.by all.others z).reach
            ] in
            done (omega (arith, reach, c.short, base)))
        | inr c ↦ absurd (true≢false (sym (c.gone (k.K.lead d) (inl refl)) ∙ ap k.g.gone (a.route.lead ∙ a.mine) ∙ here))
      ]
    ]
