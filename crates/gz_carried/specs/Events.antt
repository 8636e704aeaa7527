-- What an event of a cluster comes to in the reduced journal, for one journal. A sentence speaks of each cluster that is
-- carried by a world which a run reaches, throughout which handover held; behind the event it is carried by a later world.
-- At a crash and at a converge the cluster's own handover is asked for, which gives the reduced one; at no other event.
use Rattle.std.specs.Prelude.{◌≡◌, ℕ, ◌<◌, ◌≤◌, List, [], ◌∷◌, ◌++◌, length, decimal, true, false, Bool, Some, Option}
use Rattle.std.specs.Str.{bytes_eq}
use Rattle.gz_label.specs.declared.label.Label.{Label}
use Rattle.gz_label.specs.declared.keys.KeyWrite.{KeyWrite}
use Rattle.gz_label.specs.declared.keys.Compare.{Compare}
use Rattle.gz_label.specs.declared.keys.Change.{Change}
use Rattle.gz_wire.specs.declared.msg.Msg.TheVariants.{KsTxn, Append, Read}
use Rattle.gz_spec.specs.Records.{Specs}
use Rattle.gz_keyspace.specs.Mirrors.{AreAmong}
use Rattle.gz_keyspace.specs.Space.{key_of_lease}
use Rattle.gz_registry.specs.Keys.{member_key}
use Rattle.gz_registry.specs.Registered.{Registered}
use Rattle.gz_replica.specs.Opening.{keys, store, sync_key, route_key}
use Rattle.gz_broker.specs.Brokers.{Broker}
use Rattle.gz_broker.specs.Taking.{on_changes}
use Rattle.gz_converge.specs.Converged.{Pairs}
use Rattle.gz_cluster.specs.Keeper as keeper
use Rattle.gz_cluster.specs.Cluster.{Letter, Cluster, Moved, is_client, is_member, runs, broker_of, keeper_moves, takes}
use Rattle.gz_cluster.specs.Events.{Apply, Draws, Expire, Crash, Converge, Lose, Watches, Flushes, Appends, Reads, GivesUp, happens}
use Rattle.gz_cluster.specs.Handover.{changes_of, is_stored, IsHandedOver}
use Rattle.gz_cluster.specs.Ledger.{Ledger, ledger_after}
use Rattle.gz_lineage.specs.Lists.{In}
use Rattle.gz_lineage.specs.Marks.{Mark, end_of_marks}
use Rattle.gz_lineage.specs.Nodes as reduced
use Rattle.gz_lineage.specs.Rules as rules
use Rattle.gz_lineage.specs.World as world
use Rattle.gz_lineage.specs.World.{World}
use Rattle.gz_lineage.specs.Handover.{HandoverThroughout}
use Rattle.gz_carry.specs.Histories.{HasHistory}
use Rattle.gz_carry.specs.Seen.{IsNumbering}
use Rattle.gz_steps.specs.Carrying.{journal_in}
use Rattle.gz_steps.specs.Steps.{Ready, Behind}
use Rattle.gz_carried.specs.Keys.{MirrorOk}
use Rattle.gz_carried.specs.Carried.{Carried, Reaches}

-- ---- sentences

-- what is said of a cluster with its letters and its ledger, in a world with the lists of its epochs
abbrev pub OfClusters : Type 1
OfClusters = (List ℕ → ℕ) → List ℕ → Cluster → List Letter → Ledger → World → (ℕ → List Mark) → Type 0

-- it holds of each one that is carried by a world that a run reaches, throughout which handover held
abbrev pub InEachRun : OfClusters → Type 0
InEachRun P = (num : List ℕ → ℕ) → IsNumbering num → ((name : List ℕ) → num name ≡ rules.keys → ⊥) → (nodes : ℕ) (before : List world.Event) → HandoverThroughout before (world.start nodes) →
    let w = world.run before (world.start nodes) in
    (i : HasHistory w) × ((j : List ℕ) (c : Cluster) (said : List Letter) (l : Ledger) → Carried num j c said l w i.history.list → P num j c said l w i.history.list)

-- a later world carries what the cluster has become, with what was said then
abbrev pub CarriesOn : Moved → OfClusters
CarriesOn m num j c said l w lists = Reaches num j w lists m.cluster (said ++ m.said) (ledger_after j l m.cluster)

-- ---- messages

-- A message that members send one another is taken, of this journal or of another one, by a broker that runs.
abbrev pub TakesMessages : OfClusters
TakesMessages num j c said l w lists = (x : Letter) → In x said → (k : List ℕ) → journal_in x.msg ≡ Some k →
    (b : Broker) → broker_of x.to c.brokers ≡ Some b → runs c b.name ≡ true →
    is_client c x.from ≡ false → bytes_eq x.to keys ≡ false → bytes_eq x.to store ≡ false →
    CarriesOn (takes x c) num j c said l w lists

-- An append or a read is taken by a broker that runs, of a client or of a node, of this journal or of another one.
pub record TakesClients (num : List ℕ → ℕ) (j : List ℕ) (c : Cluster) (said : List Letter) (l : Ledger) (w : World) (lists : ℕ → List Mark) : Type 0 where
  pub append : (x : Letter) (b : Broker) → broker_of x.to c.brokers ≡ Some b → runs c b.name ≡ true → bytes_eq x.to keys ≡ false → bytes_eq x.to store ≡ false →
      (req : ℕ) (k : List ℕ) (epoch offset : Option ℕ) (selector : List ℕ) (take add : List Label) (content : List ℕ) →
      x.msg ≡ Append req k epoch offset selector take add content → CarriesOn (takes x c) num j c said l w lists
  pub read : (x : Letter) (b : Broker) → broker_of x.to c.brokers ≡ Some b → runs c b.name ≡ true → bytes_eq x.to keys ≡ false → bytes_eq x.to store ≡ false →
      (req : ℕ) (k : List ℕ) (offset : ℕ) → x.msg ≡ Read req k offset → CarriesOn (takes x c) num j c said l w lists

-- A message in flight is lost; a client asks for an append or a read, or gives up; a member asks for changes of the keys; a
-- primary is told to put what it has to the store.
pub record Asks (num : List ℕ → ℕ) (j : List ℕ) (c : Cluster) (said : List Letter) (l : Ledger) (w : World) (lists : ℕ → List Mark) : Type 0 where
  pub lose : (place : ℕ) → CarriesOn (happens c (Lose place)) num j c said l w lists
  pub appends : (client to journal : List ℕ) (epoch offset : Option ℕ) (selector : List ℕ) (take add : List Label) (content : List ℕ) →
      CarriesOn (happens c (Appends client to journal epoch offset selector take add content)) num j c said l w lists
  pub reads : (client to journal : List ℕ) (offset : ℕ) → CarriesOn (happens c (Reads client to journal offset)) num j c said l w lists
  pub gives_up : (client : List ℕ) → CarriesOn (happens c (GivesUp client)) num j c said l w lists
  pub watches : (member : List ℕ) → CarriesOn (happens c (Watches member)) num j c said l w lists
  pub flushes : (broker journal : List ℕ) → CarriesOn (happens c (Flushes broker journal)) num j c said l w lists

-- ---- the key space

-- a later world carries it, and there the reduced key space has said that it wrote the sync key, if a change was made
pub record AnswersSync (num : List ℕ → ℕ) (j : List ℕ) (c : Cluster) (said : List Letter) (l : Ledger) (w : World) (lists : ℕ → List Mark) (k from : List ℕ) (epoch : ℕ) (m : Moved) : Type 0 where
  pub reaches : CarriesOn m num j c said l w lists
  pub ok : bytes_eq j k ≡ true → (length (changes_of m.cluster) ≡ length (changes_of c) → ⊥) → In (rules.letter rules.keys (num from) (reduced.TxnOk epoch)) reaches.world.said

-- the compare and the write of a primary's transaction
abbrev pub sync_compares : List ℕ → ℕ → List Compare
sync_compares k epoch = record { key = route_key k; mod_revision = epoch } ∷ []

abbrev pub sync_writes : List ℕ → ℕ → List KeyWrite
sync_writes k epoch = record { key = sync_key k; value = Some (decimal epoch) } ∷ []

-- The key space takes a transaction by which a primary asks for the sync key, of this journal or of another one. Of this one
-- it has to have been asked for in the reduced world.
abbrev pub TakesSyncs : OfClusters
TakesSyncs num j c said l w lists = (taken : List Letter) (k from : List ℕ) (client : Bool) (req epoch : ℕ) →
    (bytes_eq j k ≡ true → In (rules.letter (num from) rules.keys (reduced.Txn epoch)) w.said) →
    AnswersSync num j c said l w lists k from epoch (keeper_moves taken c (keeper.step c.keeper from client (KsTxn req (sync_compares k epoch) (sync_writes k epoch))))

-- specifications are put into the key space
abbrev pub Applies : OfClusters
Applies num j c said l w lists = (part : Specs) → CarriesOn (happens c (Apply part)) num j c said l w lists

-- a shard's author key is put
abbrev pub DrawsAuthors : OfClusters
DrawsAuthors num j c said l w lists = (shard consumer : List ℕ) → CarriesOn (happens c (Draws shard consumer)) num j c said l w lists

-- a lease keeps a member's key
abbrev pub LeasesKeepMembers : Registered → Type 0
LeasesKeepMembers r = (lease : ℕ) (key : List ℕ) → key_of_lease lease r.keys.leases ≡ Some key → (id : List ℕ) × (key ≡ member_key id)

-- A member's lease ends, where leases keep members' keys. The member may run on, and lead.
abbrev pub Expires : OfClusters
Expires num j c said l w lists = (name : List ℕ) → LeasesKeepMembers c.keeper.registry → CarriesOn (happens c (Expire name)) num j c said l w lists

-- ---- the events at which handover may end

-- where the store has each byte of the acknowledged list, the reduced one has each mark of its journal
abbrev pub IsStoreSeen : List ℕ → Cluster → Ledger → World → Type 0
IsStoreSeen j c l w = ((offset : ℕ) → offset < end_of_marks l.marks → is_stored j c offset ≡ true) → length w.journal ≤ length w.state.stored

-- a member stops
abbrev pub Crashes : OfClusters
Crashes num j c said l w lists = (name : List ℕ) → is_member c name ≡ true → num name < length w.state.runs → IsStoreSeen j c l w →
    IsHandedOver j (happens c (Crash name)).cluster l → CarriesOn (happens c (Crash name)) num j c said l w lists

-- the placements of journals and of shards are taken
abbrev pub Converges : OfClusters
Converges num j c said l w lists = (journals shards : Pairs) → IsStoreSeen j c l w →
    IsHandedOver j (happens c (Converge journals shards)).cluster l → CarriesOn (happens c (Converge journals shards)) num j c said l w lists

-- ---- a broker's mirror

-- A broker takes changes of the keys: where it is first in a route that was written, it opens, though its mirror be late.
-- Behind that it is seen in a later world, and its mirror is one of the keys.
abbrev pub TakesChanges : OfClusters
TakesChanges num j c said l w lists = (cs : List Change) → AreAmong (changes_of c) cs → (b : Broker) → Ready num j w b → MirrorOk (changes_of c) b.mirror →
    Behind num j w lists b (on_changes cs b) × MirrorOk (changes_of c) (on_changes cs b).broker.mirror
