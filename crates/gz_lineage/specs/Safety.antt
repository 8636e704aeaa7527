-- What holds of every run while handover does, and of the choice.
use Rattle.std.specs.Prelude.{ℕ, ◌<◌, ◌≤◌, ◌≡◌, List, ◌∷◌, length, drop, Option, Some, None, slice_get, ◌⊎◌}
use Rattle.gz_lineage.specs.Lists.{In, Each}
use Rattle.gz_lineage.specs.Marks.{Mark, Lawful}
use Rattle.gz_lineage.specs.Prefix.{IsPrefix}
use Rattle.gz_lineage.specs.Nodes.{Report, Route, Message, Letter, Adopted, Replicate, Held, Done}
use Rattle.gz_lineage.specs.Rules.{reset, served}
use Rattle.gz_lineage.specs.World.{World, Event, node_at, happens, run, start}
use Rattle.gz_lineage.specs.Handover.{HandoverThroughout, HaveStopped}

-- ---- of one world

-- what any broker serves is a prefix of the journal
abbrev pub ServesTheJournal : World → Type 0
ServesTheJournal w = (n : ℕ) → IsPrefix (served (node_at w.state.nodes n)) w.journal

-- no head is above the journal's end
abbrev pub HeadsAreWithin : World → Type 0
HeadsAreWithin w = (n : ℕ) → (node_at w.state.nodes n).head ≤ length w.journal

-- what the store has is a prefix of the journal
abbrev pub StoresTheJournal : World → Type 0
StoresTheJournal w = IsPrefix w.state.stored w.journal

-- each entry of the journal stands where a request lands it
abbrev pub HasLawfulJournal : World → Type 0
HasLawfulJournal w = Lawful w.journal

-- a letter says that its sender holds that much in that epoch
abbrev pub Says : ℕ → ℕ → Message → Type 0
Says e k (Held epoch reach) = (epoch ≡ e) × (k ≤ reach)
Says e k (Adopted epoch reach) = (epoch ≡ e) × (k ≤ reach)
Says e k _ = ⊥

-- and it was taken, from m
abbrev pub IsVouched : List Letter → ℕ → ℕ → ℕ → Type 0
IsVouched taken e k m = (l : Letter) × In l taken × (l.from ≡ m) × Says e k l.body

-- An append was acknowledged only when every other member of the route of its epoch held it.
abbrev pub AcknowledgesWhatIsHeld : World → Type 0
AcknowledgesWhatIsHeld w = (l : Letter) (r : Route) (reach : ℕ) → In l w.said → In r w.state.routes → l.body ≡ Done r.epoch reach →
    Each (IsVouched w.taken r.epoch reach) r.others

-- The journal has each place that was acknowledged.
abbrev pub HasWhatIsAcknowledged : World → Type 0
HasWhatIsAcknowledged w = (l : Letter) (e reach : ℕ) → In l w.said → l.body ≡ Done e reach → reach ≤ length w.journal

-- What the primary of an epoch sent to the others for a place stands there, where its epoch acknowledged that place.
abbrev pub KeepsWhatIsAcknowledged : World → Type 0
KeepsWhatIsAcknowledged w = (l m : Letter) (e reach k head : ℕ) (x : Mark) → In l w.said → In m w.said →
    l.body ≡ Done e reach → m.body ≡ Replicate e k x head → k < reach → slice_get w.journal k ≡ Some x

pub record Safe (w : World) : Type 0 where
  pub serves : ServesTheJournal w
  pub heads : HeadsAreWithin w
  pub stores : StoresTheJournal w
  pub lawful : HasLawfulJournal w
  pub held : AcknowledgesWhatIsHeld w
  pub reached : HasWhatIsAcknowledged w
  pub stands : KeepsWhatIsAcknowledged w

-- ---- of one step

-- what a step adds to the journal has a reset
abbrev pub AddsReset : World → World → Type 0
AddsReset w v = In reset (drop (length w.journal) v.journal)

-- A step adds one only where every member of the route has stopped that was open before, that of the greatest epoch at
-- which a primary became open.
abbrev pub ResetsAfterAStop : World → Type 0
ResetsAfterAStop w = (e : Event) (o : Route) → AddsReset w (happens w e) → In o w.state.routes → o.epoch ≡ w.top →
    HaveStopped w.state.runs (o.lead ∷ o.others)

-- ---- of every run

-- P holds behind every run throughout which handover held
abbrev pub Always : (World → Type 0) → Type 0
Always P = (nodes : ℕ) (events : List Event) → HandoverThroughout events (start nodes) → P (run events (start nodes))

-- ---- of the choice

-- r adopted an earlier epoch than q, or the same one and holds no more
abbrev pub IsNoBetter : Report → Report → Type 0
IsNoBetter r q = (r.adopted < q.adopted) ⊎ ((r.adopted ≡ q.adopted) × (length r.image.entries ≤ length q.image.entries))

-- It is one of the reports that adopted at least o, and none of those is better; or there is none.
abbrev pub IsBest : ℕ → List (ℕ × Option Report) → Option Report → Type 0
IsBest o ps None = (m : ℕ) (r : Report) → In (m, Some r) ps → r.adopted < o
IsBest o ps (Some q) = (o ≤ q.adopted) × ((m : ℕ) × In (m, Some q) ps) × ((m : ℕ) (r : Report) → In (m, Some r) ps → o ≤ r.adopted → IsNoBetter r q)
