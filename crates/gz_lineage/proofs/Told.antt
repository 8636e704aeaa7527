-- Whether handover holds is decided by looking: as the third case was first worded, with the routes of the greatest open
-- epoch and of the sync key, and as it is now. The last decides `HandoverAt`.
use Rattle.std.specs.Prelude.{◌≡◌, ◌==◌, ℕ, ◌≤◌, List, [], ◌∷◌, length, nat_le, Bool, true, false, ◌&&◌, ◌||◌, not, slice_index_or, refl}
use Rattle.std.proofs.Common.{inl, inr, sym, ap, subst}
use Rattle.std.proofs.lemmas.Bool.{and_from, or_left, or_right, le-leb, leb-true, eq-eqb, eqb-true, cases_Bool, true≢false}
use Rattle.gz_lineage.specs.Lists.{In}
use Rattle.gz_lineage.specs.Nodes.{Route}
use Rattle.gz_lineage.specs.World.{World, Event, happens, node_at}
use Rattle.gz_lineage.specs.Handover.{HaveStopped, HandoverAt, HandoverThroughout}

-- a member of these runs, and has adopted at least the sync key's epoch
abbrev pub some_holds : World → List ℕ → Bool
some_holds w [] = false
some_holds w (m ∷ ms) = (slice_index_or w.state.runs m false && nat_le w.state.sync (node_at w.state.nodes m).adopted) || some_holds w ms

abbrev pub all_stopped : World → List ℕ → Bool
all_stopped w [] = true
all_stopped w (m ∷ ms) = not (slice_index_or w.state.runs m false) && all_stopped w ms

abbrev pub has : List ℕ → ℕ → Bool
has [] e = false
has (x ∷ xs) e = e == x || has xs e

-- Which routes must have stopped: that of the sync key, as it was first worded; those of the greatest open epoch and of
-- the sync key; or each that the sync key had from the greatest open epoch on.
pub data Reading : Type 0 where
  OfSync : Reading
  OfEnds : Reading
  OfEach : Reading

abbrev pub counts : Reading → World → ℕ → Bool
counts OfSync w e = e == w.state.sync
counts OfEnds w e = e == w.state.sync || e == w.top
counts OfEach w e = has w.syncs e && nat_le w.top e

abbrev pub stopped : Reading → World → List Route → Bool
stopped k w [] = true
stopped k w (r ∷ rs) = (not (counts k w r.epoch) || all_stopped w (r.lead ∷ r.others)) && stopped k w rs

abbrev pub is_handed_over : Reading → World → List Route → Bool
is_handed_over k w [] = true
is_handed_over k w (r ∷ rs) = (w.state.sync == 0) || some_holds w (r.lead ∷ r.others) || (stopped k w (r ∷ rs) && nat_le (length w.journal) (length w.state.stored))

abbrev pub throughout : Reading → List Event → World → Bool
throughout k [] w = true
throughout k (e ∷ es) w = is_handed_over k (happens w e) (happens w e).state.routes && throughout k es (happens w e)

-- ---- where handover holds it is seen

holds_seen : (w : World) (ms : List ℕ) (m : ℕ) → In m ms → slice_index_or w.state.runs m false ≡ true → w.state.sync ≤ (node_at w.state.nodes m).adopted → some_holds w ms ≡ true
holds_seen w [] m i r l = absurd i
holds_seen w (k ∷ ms) m i r l = elim i [
  | inl e ↦ or_left _ (some_holds w ms) (subst (λ x. (slice_index_or w.state.runs x false && nat_le w.state.sync (node_at w.state.nodes x).adopted) ≡ true) e (and_from _ _ r (le-leb _ _ l)))
  | inr j ↦ or_right (slice_index_or w.state.runs k false && nat_le w.state.sync (node_at w.state.nodes k).adopted) _ (holds_seen w ms m j r l)
]

stopped_seen : (w : World) (ms : List ℕ) → HaveStopped w.state.runs ms → all_stopped w ms ≡ true
stopped_seen w [] h = refl
stopped_seen w (m ∷ ms) h = and_from _ _ (ap not h.0) (stopped_seen w ms h.1)

has_in : (xs : List ℕ) (e : ℕ) → has xs e ≡ true → In e xs
has_in [] e h = absurd (true≢false (sym h))
has_in (x ∷ xs) e h = elim (cases_Bool (e == x)) [
  | inl t ↦ inl (eqb-true e x t)
  | inr f ↦ inr (has_in xs e (subst (λ b. (b || has xs e) ≡ true) f h))
]

counts_in : (w : World) (e : ℕ) → counts OfEach w e ≡ true → In e w.syncs × (w.top ≤ e)
counts_in w e c = elim (cases_Bool (has w.syncs e)) [
  | inl t ↦ (has_in w.syncs e t, leb-true w.top e (subst (λ b. (b && nat_le w.top e) ≡ true) t c))
  | inr f ↦ absurd (true≢false (sym (subst (λ b. (b && nat_le w.top e) ≡ true) f c)))
]

routes_seen : (w : World) (rs : List Route) → ((o : Route) → In o rs → In o.epoch w.syncs → w.top ≤ o.epoch → HaveStopped w.state.runs (o.lead ∷ o.others)) → stopped OfEach w rs ≡ true
routes_seen w [] h = refl
routes_seen w (r ∷ rs) h = and_from _ _
    (elim (cases_Bool (counts OfEach w r.epoch)) [
      | inl t ↦ or_right (not (counts OfEach w r.epoch)) _ (let c = counts_in w r.epoch t in stopped_seen w (r.lead ∷ r.others) (h r (inl refl) c.0 c.1))
      | inr f ↦ or_left _ (all_stopped w (r.lead ∷ r.others)) (ap not f)
    ])
    (routes_seen w rs (λ o i. h o (inr i)))

pub told_at : (w : World) (rs : List Route) → HandoverAt w rs → is_handed_over OfEach w rs ≡ true
told_at w [] h = refl
told_at w (r ∷ rs) h = elim h [
  | inl z ↦ or_left _ _ (or_left _ _ (eq-eqb w.state.sync 0 z))
  | inr x ↦ elim x [
    | inl a ↦ or_left _ _ (or_right (w.state.sync == 0) _ (holds_seen w (r.lead ∷ r.others) a.0 a.1 a.2 a.3))
    | inr a ↦ or_right ((w.state.sync == 0) || some_holds w (r.lead ∷ r.others)) _ (and_from _ _ (routes_seen w (r ∷ rs) a.0) (le-leb _ _ a.1))
  ]
]

-- So a run of which this is seen to be false has lost handover: it is told as lost.
pub told_throughout : (es : List Event) (w : World) → HandoverThroughout es w → throughout OfEach es w ≡ true
told_throughout [] w h = refl
told_throughout (e ∷ es) w h = and_from _ _ (told_at (happens w e) (happens w e).state.routes h.0) (told_throughout es (happens w e) h.1)
