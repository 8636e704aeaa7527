-- Where the cluster hands a journal over, the reduced world does. It is asked at two events alone: a crash, and a converge of
-- this journal's route; by the reduced theorem each other event keeps it. That all is saved is said in bytes of the cluster
-- and in marks of the reduced world: the two agree where behind the store's end stand entries alone.
use Rattle.std.proofs.Common.{◌≡◌, ℕ, ◌<◌, ◌≤◌, List, [], ◌∷◌, length, refl, ap, sym, ◌∙◌, arith, subst, inl, inr, true, false, zero, suc}
use Rattle.std.specs.Prelude.{map, slice_index_or}
use Rattle.std.proofs.lemmas.Bool.{cases_lt}
use Rattle.std.specs.List.{IsAmong}
use Rattle.gz_broker.specs.Brokers.{route_of, sync_of}
use Rattle.gz_cluster.specs.Cluster.{Cluster, runs}
use Rattle.gz_cluster.specs.Ledger.{Ledger}
use Rattle.gz_cluster.specs.Handover.{present, changes_of, members_of, route_at, synced_in, adopted_of, is_stored, IsHeldBy, IsSaved, IsHandedOver}
use Rattle.gz_lineage.specs.Marks.{end_of_marks}
use Rattle.gz_lineage.specs.Nodes.{Route}
use Rattle.gz_lineage.specs.Lists.{In, Each}
use Rattle.gz_lineage.specs.World.{World, node_at}
use Rattle.gz_lineage.specs.Handover.{HandoverAt}
use Rattle.gz_lineage.specs.Handover as premise

-- a member of a list has a place there, and what has a place is a member
pub in_among : {A : Type 0} (x : A) (xs : List A) → In x xs → IsAmong xs x
in_among x [] i = absurd i
in_among x (y ∷ ys) i = elim i [
  | inl e ↦ (0, (omega arith, e))
  | inr k ↦ (let r = in_among x ys k in (suc r.0, (omega (arith, r.1.0), r.1.1)))
]

pub among_in : {A : Type 0} (x : A) (xs : List A) → IsAmong xs x → In x xs
among_in x [] (k, (less, e)) = absurd (omega (arith, less))
among_in x (y ∷ ys) (zero, (less, e)) = inl e
among_in x (y ∷ ys) (suc k, (less, e)) = inr (among_in x ys (k, (omega (arith, less), e)))

-- what the reduced world knows of the keys, of who runs, and of what is stored
pub record KeysSeen (num : List ℕ → ℕ) (j : List ℕ) (c : Cluster) (l : Ledger) (w : World) : Type 0 where
  pub sync : w.state.sync ≡ sync_of j (present c)
  pub newest : (r : Route) (rs : List Route) → w.state.routes ≡ r ∷ rs → (name : List ℕ) → In name (members_of (route_of j (present c))) → In (num name) (r.lead ∷ r.others)
  pub positive : (o : Route) → In o w.state.routes → 0 < o.epoch
  pub routes : (o : Route) → In o w.state.routes → o.lead ∷ o.others ≡ map num (route_at j (changes_of c) o.epoch)
  pub syncs : (e : ℕ) → In e w.syncs → 0 < e → In e (synced_in j (changes_of c))
  pub top : w.top ≡ l.top
  pub stopped : (name : List ℕ) → runs c name ≡ false → slice_index_or w.state.runs (num name) false ≡ false
  pub up : (name : List ℕ) → 0 < adopted_of j c name → runs c name ≡ true → slice_index_or w.state.runs (num name) false ≡ true
  pub adopted : (name : List ℕ) → adopted_of j c name ≤ (node_at w.state.nodes (num name)).adopted
  pub stored : ((offset : ℕ) → offset < end_of_marks l.marks → is_stored j c offset ≡ true) → length w.journal ≤ length w.state.stored

pub in_map : (num : List ℕ → ℕ) (name : List ℕ) (names : List (List ℕ)) → In name names → In (num name) (map num names)
in_map num name [] i = absurd i
in_map num name (n ∷ ns) i = elim i [ inl e ↦ inl (ap num e) | inr k ↦ inr (in_map num name ns k) ]

each_stopped : (num : List ℕ → ℕ) (P : ℕ → Type 0) (names : List (List ℕ)) → ((name : List ℕ) → In name names → P (num name)) → Each P (map num names)
each_stopped num P [] f = tt
each_stopped num P (n ∷ ns) f = (f n (inl refl), each_stopped num P ns (λ name i. f name (inr i)))

module _ (num : List ℕ → ℕ) (j : List ℕ) (c : Cluster) (l : Ledger) (w : World) (k : KeysSeen num j c l w) where
  held_over : (r : Route) (rs : List Route) → w.state.routes ≡ r ∷ rs → 0 < sync_of j (present c) → IsHeldBy j c (sync_of j (present c)) → premise.IsHeld w r
  held_over r rs e pos h = (
    num h.0,
    k.newest r rs e h.0 (among_in h.0 (members_of (route_of j (present c))) h.1),
    k.up h.0 (omega (arith, pos, h.3)) h.2,
    omega (arith, h.3, k.sync, k.adopted h.0),
  )

  saved_over : IsSaved j c l → premise.IsSaved w w.state.routes
  saved_over s = (
    (λ o i y t. subst (λ ms. premise.HaveStopped w.state.runs ms) (sym (k.routes o i))
        (each_stopped num (λ m. slice_index_or w.state.runs m false ≡ false) (route_at j (changes_of c) o.epoch)
        (λ name p. k.stopped name (s.gone o.epoch (in_among o.epoch (synced_in j (changes_of c)) (k.syncs o.epoch y (k.positive o i))) (omega (arith, k.top, t)) name (in_among name (route_at j (changes_of c) o.epoch) p))))),
    k.stored s.stored,
  )

  over_at : (rs : List Route) → w.state.routes ≡ rs → IsHandedOver j c l → HandoverAt w rs
  over_at [] e h = tt
  over_at (r ∷ rs) e h = elim h [
    | inl z ↦ inl (k.sync ∙ z)
    | inr z ↦ elim z [ inl y ↦ elim (cases_lt 0 (sync_of j (present c))) [ inl pos ↦ inr (inl (held_over r rs e pos y)) | inr none ↦ inl (omega (arith, k.sync, none)) ] | inr y ↦ inr (inr (subst (λ x. premise.IsSaved w x) e (saved_over y))) ]
  ]

  -- full handover is reduced handover
  pub handed_over : IsHandedOver j c l → HandoverAt w w.state.routes
  handed_over h = over_at w.state.routes refl h
