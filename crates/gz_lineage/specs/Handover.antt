-- Handover: the premise that at each time some member of the present route can still hand the journal on, or all of it
-- is in the store. While it holds nothing that was acknowledged is lost; where it ends, the run is told as lost.
use Rattle.std.specs.Prelude.{slice_index_or, ℕ, ◌≤◌, ◌≡◌, List, [], ◌∷◌, length, Bool, true, false, ◌⊎◌}
use Rattle.gz_lineage.specs.Lists.{In, Each}
use Rattle.gz_lineage.specs.Nodes.{Route}
use Rattle.gz_lineage.specs.World.{World, Event, Converge, Crash, happens, node_at}

-- these have stopped
abbrev pub HaveStopped : List Bool → List ℕ → Type 0
HaveStopped runs ms = Each (λ m. slice_index_or runs m false ≡ false) ms

-- Every member of the route of each epoch that the sync key had, from the greatest open one on, has stopped, and all of
-- the journal is in the store. That it is *each* such epoch matters: a primary whose epoch was synced may open late.
abbrev pub IsSaved : World → List Route → Type 0
IsSaved w routes = ((o : Route) → In o routes → In o.epoch w.syncs → w.top ≤ o.epoch → HaveStopped w.state.runs (o.lead ∷ o.others)) × (length w.journal ≤ length w.state.stored)

-- a running member of this route adopted at least the sync key's epoch
abbrev pub IsHeld : World → Route → Type 0
IsHeld w r = (m : ℕ) × In m (r.lead ∷ r.others) × (slice_index_or w.state.runs m false ≡ true) × (w.state.sync ≤ (node_at w.state.nodes m).adopted)

-- The sync key is absent, or a running member of the present route adopted at least its epoch, or all is saved.
abbrev pub HandoverAt : World → List Route → Type 0
HandoverAt w [] = Unit {0}
HandoverAt w (r ∷ rs) = (w.state.sync ≡ 0) ⊎ (IsHeld w r ⊎ IsSaved w (r ∷ rs))

-- after each event
abbrev pub HandoverThroughout : List Event → World → Type 0
HandoverThroughout [] w = Unit {0}
HandoverThroughout (e ∷ es) w = HandoverAt (happens w e) (happens w e).state.routes × HandoverThroughout es (happens w e)

-- these keep all members of the present route, or, where the sync key has its epoch, one that runs
abbrev pub KeepsRoute : World → List Route → List ℕ → Type 0
KeepsRoute w [] ms = Unit {0}
KeepsRoute w (r ∷ rs) ms = ((m : ℕ) → In m (r.lead ∷ r.others) → In m ms)
    ⊎ ((w.state.sync ≡ r.epoch) × ((m : ℕ) × In m (r.lead ∷ r.others) × In m ms × (slice_index_or w.state.runs m false ≡ true)))

-- no crash, and no converge that could lose members
abbrev pub IsCalm : World → Event → Type 0
IsCalm w (Converge more lead others) = KeepsRoute w w.state.routes (lead ∷ others)
IsCalm w (Crash n) = ⊥
IsCalm w _ = Unit {0}

abbrev pub CalmThroughout : List Event → World → Type 0
CalmThroughout [] w = Unit {0}
CalmThroughout (e ∷ es) w = IsCalm w e × CalmThroughout es (happens w e)
