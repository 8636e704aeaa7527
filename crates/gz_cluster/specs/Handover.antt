-- Handover: the premise that some running member of the present route can hand the journal on, or that all of it is in
-- the store. While it holds nothing that was acknowledged is lost. Where it ends the run is told as lost.
use Rattle.std.specs.Prelude.{◌≡◌, ◌⊎◌, ℕ, ◌<◌, ◌≤◌, List, [], ◌∷◌, ◌++◌, filter, filter_map, flat_map, map, Bool, true, false, Option, Some, None, is_some, option_and_then, if◌then◌else◌}
use Rattle.std.specs.List.{IsAmong}
use Rattle.gz_label.specs.declared.keys.KeyWrite.{KeyWrite}
use Rattle.gz_label.specs.declared.keys.Change.{Change}
use Rattle.gz_keyspace.specs.Formats.{number_of}
use Rattle.gz_keyspace.specs.Keys.{keys_at, same_key}
use Rattle.gz_keyspace.specs.Mirrors.{Mirrored}
use Rattle.gz_fragment.specs.Fragments.{covering}
use Rattle.gz_depot.specs.Depot.{index_of}
use Rattle.gz_replica.specs.Opening.{sync_key}
use Rattle.gz_broker.specs.Brokers.{Broker, RouteHeld, row_of, route_of, sync_of, number_or_zero}
use Rattle.gz_lineage.specs.Marks.{end_of_marks}
use Rattle.gz_cluster.specs.Cluster.{Cluster, runs, broker_of}
use Rattle.gz_cluster.specs.Events.{Event, after, whole_mirror}
use Rattle.gz_cluster.specs.Ledger.{Ledger, empty_ledger, ledger_after}

-- ---- what the keys had

-- the changes of the key space
abbrev pub changes_of : Cluster → List Change
changes_of c = c.keeper.registry.keys.changes

-- a mirror of the present key space
abbrev pub present : Cluster → Mirrored
present c = whole_mirror c.keeper.registry.keys

-- the number that a write of the sync key has, 0 where it has none
abbrev pub synced_by : List ℕ → KeyWrite → List ℕ
synced_by j w = if same_key w.key (sync_key j) then number_or_zero (option_and_then number_of w.value) ∷ [] else []

-- the epochs that the sync key ever had
abbrev pub synced_in : List ℕ → List Change → List ℕ
synced_in j changes = flat_map (λ (change : Change). flat_map (synced_by j) change.writes) changes

-- a mirror at a revision
abbrev pub mirror_at : List Change → ℕ → Mirrored
mirror_at changes revision = record { revision = revision; keys = keys_at changes revision }

abbrev pub members_of : Option RouteHeld → List (List ℕ)
members_of None = []
members_of (Some r) = r.members

-- the members of the route of an epoch, which is the revision at which it was written
abbrev pub route_at : List ℕ → List Change → ℕ → List (List ℕ)
route_at j changes epoch = members_of (route_of j (mirror_at changes epoch))

-- the epoch that a broker of this name adopted last
abbrev pub adopted_by : List ℕ → Option Broker → ℕ
adopted_by j None = 0
adopted_by j (Some b) = (row_of j b.rows).member.adopted

abbrev pub adopted_of : List ℕ → Cluster → List ℕ → ℕ
adopted_of j c name = adopted_by j (broker_of name c.brokers)

-- ---- handover

abbrev pub HaveStopped : Cluster → List (List ℕ) → Type 0
HaveStopped c names = (m : List ℕ) → IsAmong names m → runs c m ≡ false

-- the byte at this offset is in a fragment
abbrev pub is_stored : List ℕ → Cluster → ℕ → Bool
is_stored j c offset = is_some (covering offset (index_of j c.indexes))

-- a running member of the present route adopted at least the sync key's epoch
abbrev pub IsHeldBy : List ℕ → Cluster → ℕ → Type 0
IsHeldBy j c sync = (m : List ℕ) × IsAmong (members_of (route_of j (present c))) m × (runs c m ≡ true) × (sync ≤ adopted_of j c m)

-- Every member of the route of each epoch that the sync key had, from the greatest open one on, has stopped, and each
-- byte of the list is in a fragment. That it is *each* such epoch matters: a primary whose epoch was synced may open late.
pub record IsSaved (j : List ℕ) (c : Cluster) (l : Ledger) : Type 0 where
  pub gone : (epoch : ℕ) → IsAmong (synced_in j (changes_of c)) epoch → l.top ≤ epoch → HaveStopped c (route_at j (changes_of c) epoch)
  pub stored : (offset : ℕ) → offset < end_of_marks l.marks → is_stored j c offset ≡ true

-- The sync key is absent, or a member holds what it promises, or all is saved.
abbrev pub IsHandedOver : List ℕ → Cluster → Ledger → Type 0
IsHandedOver j c l = let sync = sync_of j (present c) in (sync ≡ 0) ⊎ (IsHeldBy j c sync ⊎ IsSaved j c l)

-- after each event, from this ledger on
abbrev pub HandedOverFrom : List ℕ → Ledger → List Event → Cluster → Type 0
HandedOverFrom j l [] c = Unit {0}
HandedOverFrom j l (e ∷ es) c =
    let next = ledger_after j l (after c e) in
    IsHandedOver j (after c e) next × HandedOverFrom j next es (after c e)

abbrev pub HandedOverThroughout : List ℕ → List Event → Cluster → Type 0
HandedOverThroughout j es c = HandedOverFrom j empty_ledger es c
