-- How a cluster is carried by a world of the reduced journal, for one journal: each broker's member is seen in its node, each
-- message that was ever sent in the letters, and the keys by revision; handover holds in the reduced world, and the
-- acknowledged list follows its journal. Flights are never compared: a letter that was said can come at any time.
use Rattle.std.specs.Prelude.{◌≡◌, ℕ, ◌<◌, List, [], ◌∷◌, length, slice_index_or, false}
use Rattle.std.specs.Str.{bytes_eq}
use Rattle.gz_broker.specs.Brokers.{Broker, row_of}
use Rattle.gz_cluster.specs.Cluster.{Letter, Cluster, runs}
use Rattle.gz_cluster.specs.Handover.{changes_of}
use Rattle.gz_cluster.specs.Ledger.{Ledger}
use Rattle.gz_lineage.specs.Lists.{In, Each}
use Rattle.gz_lineage.specs.Marks.{Mark}
use Rattle.gz_lineage.specs.Prefix.{IsPrefix}
use Rattle.gz_lineage.specs.World.{World, Event, node_at, run}
use Rattle.gz_lineage.specs.Handover.{HandoverAt, HandoverThroughout}
use Rattle.gz_carry.specs.Histories.{HasHistory}
use Rattle.gz_carry.specs.Seen.{MemberSeen}
use Rattle.gz_steps.specs.Carrying.{SeenOn}
use Rattle.gz_steps.specs.Followed.{LedgerSeen}
use Rattle.gz_carried.specs.Keys.{KeysCarried}

-- no two have one name
abbrev pub Distinct : List Broker → Type 0
Distinct [] = Unit {0}
Distinct (b ∷ bs) = Each (λ (d : Broker). bytes_eq b.name d.name ≡ false) bs × Distinct bs

-- The cluster, with all letters that its nodes ever sent and the journal's ledger, is carried by this world. `num` numbers
-- names, `lists` are those of the epochs.
pub record Carried (num : List ℕ → ℕ) (j : List ℕ) (c : Cluster) (said : List Letter) (l : Ledger) (w : World) (lists : ℕ → List Mark) : Type 0 where
  pub members : (b : Broker) → In b c.brokers → MemberSeen num b.name (row_of j b.rows).member (node_at w.state.nodes (num b.name))
  pub within : (b : Broker) → In b c.brokers → num b.name < length w.state.nodes
  pub runs : (name : List ℕ) → num name < length w.state.runs → runs c name ≡ slice_index_or w.state.runs (num name) false
  pub many : length w.state.runs ≡ length w.state.nodes
  pub distinct : Distinct c.brokers
  pub mail : (x : Letter) → In x said → SeenOn num j lists w.said x.from x.to x.msg
  pub handed : HandoverAt w w.state.routes
  pub keys : KeysCarried num j (changes_of c) w
  pub ledger : LedgerSeen l w

-- A later world carries the cluster: events lead to it, with handover behind each, and the lists of epochs only got longer.
pub record Reaches (num : List ℕ → ℕ) (j : List ℕ) (w : World) (lists : ℕ → List Mark) (c : Cluster) (said : List Letter) (l : Ledger) : Type 0 where
  pub events : List Event
  pub handed : HandoverThroughout events w
  pub world : World
  pub goes : run events w ≡ world
  pub has : HasHistory world
  pub longer : (e : ℕ) → IsPrefix (lists e) (has.history.list e)
  pub carried : Carried num j c said l world has.history.list
