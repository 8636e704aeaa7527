-- What a broker's step adds to the acknowledged list, by how its node moved (`Growth`): nothing, where no open primary's head
-- rose; entries, where it went on; all that it adopted, where it has just opened. A broker whose node stayed adds nothing.
use Rattle.std.proofs.Common.{◌≡◌, ℕ, ◌≤◌, ◌⊎◌, List, [], length, take, refl, ap, sym, ◌∙◌, arith, subst, inl, inr, true, false}
use Rattle.std.proofs.lemmas.Bool.{cases_lt}
use Rattle.gz_replica.specs.Member.{Member}
use Rattle.gz_cluster.specs.Ledger.{Ledger, grown_with}
use Rattle.gz_lineage.specs.Marks.{Mark, end_of_marks}
use Rattle.gz_lineage.specs.World.{World, node_at}
use Rattle.gz_lineage.proofs.History.{Grows}
use Rattle.gz_lineage.proofs.Moves.{grown_short}
use Rattle.gz_lineage.proofs.Invariant.{Inv, lows}
use Rattle.gz_steps.proofs.Calm.{GoesOn, IsCalmNode, low_part}
use Rattle.gz_carry.specs.Seen.{PartSeen, MemberSeen}
use Rattle.gz_steps.proofs.Growing.{adds_nothing, goes_on, opens}
use Rattle.gz_steps.specs.Followed.{plain_of, LedgerSeen}
use Rattle.gz_lineage.specs.Nodes as reduced
use Rattle.gz_lineage.specs.World as world
use Rattle.gz_replica.specs.declared.part.Part.TheVariants as full_part
use Rattle.gz_replica.specs.declared.part.Part as full_parts
use Rattle.gz_replica.specs.declared.part.Route as full_routes

-- it has just opened, with all that it had adopted
pub record JustOpened (w : World) (i : Inv w) (after : Member) (red : reduced.Node) : Type 0 where
  pub route : reduced.Route
  pub others : List (ℕ × ℕ)
  pub queue : List ℕ
  pub part : red.part ≡ reduced.Open route others queue
  pub whole : red.head ≡ length red.spool
  pub text : red.spool ≡ i.g.text route.epoch
  pub made : i.g.made route.epoch ≡ true
  pub begin : after.spool.begin ≤ end_of_marks w.journal

abbrev pub Growth : (w : World) → Inv w → Member → reduced.Node → Type 0
Growth w i after red = IsCalmNode w.top w.journal red red.part ⊎ ((GoesOn w.top red.part × (after.spool.begin ≤ end_of_marks w.journal)) ⊎ JustOpened w i after red)

pub same_ledger : (l : Ledger) (w v : World) → v.journal ≡ w.journal → v.top ≡ w.top → LedgerSeen l w → LedgerSeen l v
same_ledger l w v j t s = record { top = s.top ∙ sym t; list = s.list ∙ ap (λ x. plain_of [] x) (sym j) }

pub calm_same : (t : ℕ) (j : List Mark) (n : reduced.Node) (p : reduced.Part) → IsCalmNode t j n p → (world.grown j n p ≡ j) × (world.risen t p ≡ t)
calm_same t j n reduced.Closed a = (refl, refl)
calm_same t j n (reduced.Opening r reports names) a = (refl, refl)
calm_same t j n (reduced.Adopting r reached) a = (refl, refl)
calm_same t j n (reduced.Syncing r) a = (refl, refl)
calm_same t j n (reduced.Open s held queue) a = (grown_short j (take n.head n.spool) a.1, omega (arith, a.0))

-- a broker whose node stayed
pub still_seen : (num : List ℕ → ℕ) (w : World) (i : Inv w) (n : ℕ) (me : List ℕ) (m : Member) → MemberSeen num me m (node_at w.state.nodes n) → (l : Ledger) → LedgerSeen l w → LedgerSeen (grown_with l m m.part) w
still_seen num w i n me m seen l s = go m.part (node_at w.state.nodes n).part seen.part (low_part w.top (node_at w.state.nodes n).part (lows w i n))
  where
    go : (p : full_parts.Part) (q : reduced.Part) → PartSeen num me (node_at w.state.nodes n).spool p q → GoesOn w.top q → LedgerSeen (grown_with l m p) w
    go full_part.Closed q a b = s
    go (full_part.Opening r req reports stored) q a b = s
    go (full_part.Adopting r reached) q a b = s
    go (full_part.Syncing r req) q a b = s
    go (full_part.Open r held) (reduced.Open t others queue) a b = adds_nothing w i n m r held seen.spool (omega (arith, b, a.0.epoch)) l s
    go (full_part.Open r held) q a b = absurd a

module _ (num : List ℕ → ℕ) (w v : World) (i : Inv w) (k : Inv v) (grows : Grows i.g k.g) (n : ℕ) (me : List ℕ) (m : Member) (seen : MemberSeen num me m (node_at v.state.nodes n)) (runs : k.g.gone n ≡ false)
    (journal : v.journal ≡ world.grown w.journal (node_at v.state.nodes n) (node_at v.state.nodes n).part) (top : v.top ≡ world.risen w.top (node_at v.state.nodes n).part)
    (growth : Growth w i m (node_at v.state.nodes n)) (l : Ledger) (s : LedgerSeen l w) where
  quiet : (q : reduced.Part) → (node_at v.state.nodes n).part ≡ q → world.grown w.journal (node_at v.state.nodes n) q ≡ w.journal → world.risen w.top q ≡ w.top → LedgerSeen l v
  quiet q f a b = same_ledger l w v (journal ∙ ap (λ p. world.grown w.journal (node_at v.state.nodes n) p) f ∙ a) (top ∙ ap (λ p. world.risen w.top p) f ∙ b) s

  main : (r : full_routes.Route) (held : List (List ℕ × ℕ)) (t : reduced.Route) (others : List (ℕ × ℕ)) (queue : List ℕ) → (node_at v.state.nodes n).part ≡ reduced.Open t others queue → t.epoch ≡ r.epoch → LedgerSeen (grown_with l m (full_part.Open r held)) v
  main r held t others queue f e =
      let goes = goes_on w v i k grows n m r held t others queue f e seen.spool journal top l s runs in
      elim growth [
        | inl c ↦ (let d : IsCalmNode w.top w.journal (node_at v.state.nodes n) (reduced.Open t others queue) = subst (λ p. IsCalmNode w.top w.journal (node_at v.state.nodes n) p) f c in
            let same : LedgerSeen l v = quiet (reduced.Open t others queue) f (grown_short w.journal (take (node_at v.state.nodes n).head (node_at v.state.nodes n).spool) d.1) (omega (arith, d.0)) in
            adds_nothing v k n m r held seen.spool (omega (arith, e, s.top, same.top, d.0)) l same)
        | inr x ↦ elim x [
          | inl c ↦ goes (subst (λ p. GoesOn w.top p) f c.0) c.1
          | inr o ↦ (let one : reduced.Open o.route o.others o.queue ≡ reduced.Open t others queue = sym o.part ∙ f in
              let same : o.route.epoch ≡ t.epoch = ap epoch_in one in
              elim (cases_lt w.top t.epoch) [
                | inr low ↦ goes low o.begin
                | inl above ↦ opens w v i k grows n m r held t others queue f e seen.spool journal top l s o.whole (o.text ∙ ap i.g.text same) (sym (ap i.g.made same) ∙ o.made) above o.begin
              ])
        ]
      ]
    where
      epoch_in : reduced.Part → ℕ
      epoch_in (reduced.Open r o q) = r.epoch
      epoch_in p = 0

  pub growth_seen : LedgerSeen (grown_with l m m.part) v
  growth_seen = go m.part (node_at v.state.nodes n).part refl seen.part
    where
      go : (p : full_parts.Part) (q : reduced.Part) → (node_at v.state.nodes n).part ≡ q → PartSeen num me (node_at v.state.nodes n).spool p q → LedgerSeen (grown_with l m p) v
      go full_part.Closed reduced.Closed f a = quiet reduced.Closed f refl refl
      go full_part.Closed (reduced.Syncing t) f a = quiet (reduced.Syncing t) f refl refl
      go (full_part.Opening r req reports stored) (reduced.Opening t others names) f a = quiet (reduced.Opening t others names) f refl refl
      go (full_part.Adopting r reached) (reduced.Adopting t others) f a = quiet (reduced.Adopting t others) f refl refl
      go (full_part.Syncing r req) (reduced.Syncing t) f a = quiet (reduced.Syncing t) f refl refl
      go (full_part.Open r held) (reduced.Open t others queue) f a = main r held t others queue f a.0.epoch
      go p q f a = absurd a
