-- What a broker's step comes to in the reduced journal, for one journal. A sentence speaks of each world that a run reaches
-- throughout which handover held, and of a broker that is seen there; behind its step it is seen in a later world, to which
-- events lead of which none ends handover. `num` numbers names, `lists` are those of the epochs.
use Rattle.std.specs.Prelude.{◌≡◌, ◌⊎◌, ℕ, ◌<◌, List, length, slice_index_or, true, false, Some, None}
use Rattle.gz_wire.specs.declared.msg.Msg.{Msg}
use Rattle.gz_replica.specs.Opening.{on_synced, on_sync_refused, on_store_end}
use Rattle.gz_replica.specs.Slots.{Slots, Report}
use Rattle.gz_replica.specs.declared.part.Part.TheVariants as full_part
use Rattle.gz_replica.specs.declared.part.Route.{Route}
use Rattle.gz_broker.specs.Brokers.{Broker, Outcome, row_of, Deliver}
use Rattle.gz_broker.specs.Closing.{ruled}
use Rattle.gz_broker.specs.Appending.{Asked, on_append}
use Rattle.gz_broker.specs.Persisting.{on_store_done}
use Rattle.gz_broker.specs.Resuming.{resends}
use Rattle.gz_broker.specs.Step.{step}
use Rattle.gz_cluster.specs.Ledger.{Ledger, grown_with}
use Rattle.gz_lineage.specs.Lists.{In}
use Rattle.gz_lineage.specs.Marks.{Mark, end_of_marks}
use Rattle.gz_lineage.specs.Nodes as reduced
use Rattle.gz_lineage.specs.Prefix.{IsPrefix}
use Rattle.gz_lineage.specs.Rules as rules
use Rattle.gz_lineage.specs.World.{World, Event, node_at, run, start}
use Rattle.gz_lineage.specs.Handover.{HandoverAt, HandoverThroughout, CalmThroughout}
use Rattle.gz_carry.specs.Carried.{HoldTheHead}
use Rattle.gz_carry.specs.Histories.{History, HasHistory}
use Rattle.gz_carry.specs.Seen.{IsNumbering, MemberSeen}
use Rattle.gz_steps.specs.Carrying.{journal_in, SeenOn, AllSeen}
use Rattle.gz_steps.specs.Followed.{LedgerSeen}

-- ---- before and behind a step

-- the broker runs, and is seen, while the journal is handed over
pub record Ready (num : List ℕ → ℕ) (j : List ℕ) (w : World) (b : Broker) : Type 0 where
  pub handed : HandoverAt w w.state.routes
  pub within : num b.name < length w.state.nodes
  pub running : slice_index_or w.state.runs (num b.name) false ≡ true
  pub member : MemberSeen num b.name (row_of j b.rows).member (node_at w.state.nodes (num b.name))

-- what of the keys, of the store and of who runs stays
pub record SameKeys (w v : World) : Type 0 where
  pub routes : v.state.routes ≡ w.state.routes
  pub sync : v.state.sync ≡ w.state.sync
  pub stored : v.state.stored ≡ w.state.stored
  pub runs : (x : ℕ) → slice_index_or v.state.runs x false ≡ slice_index_or w.state.runs x false
  pub runs_many : length v.state.runs ≡ length w.state.runs
  pub syncs : (e : ℕ) → In e v.syncs → In e w.syncs ⊎ (e ≡ w.state.sync)
  pub kept : (e : ℕ) → In e w.syncs → In e v.syncs

-- A later world, to which events lead that end no handover. It has a history, with longer lists; only this broker's node has
-- moved, what was sent is seen there, and the acknowledged list follows its journal.
pub record Behind (num : List ℕ → ℕ) (j : List ℕ) (w : World) (lists : ℕ → List Mark) (b : Broker) (out : Outcome) : Type 0 where
  pub events : List Event
  pub calm : CalmThroughout events w
  pub world : World
  pub runs : run events w ≡ world
  pub has : HasHistory world
  pub longer : (e : ℕ) → IsPrefix (lists e) (has.history.list e)
  pub handed : HandoverAt world world.state.routes
  pub said : (x : reduced.Letter) → In x w.said → In x world.said
  pub keys : SameKeys w world
  pub others : (x : ℕ) → (x ≡ num b.name → ⊥) → node_at world.state.nodes x ≡ node_at w.state.nodes x
  pub many : length world.state.nodes ≡ length w.state.nodes
  pub name : out.broker.name ≡ b.name
  pub member : MemberSeen num b.name (row_of j out.broker.rows).member (node_at world.state.nodes (num b.name))
  pub closings : AllSeen num j has.history.list world.said b.name out.closings
  pub sends : AllSeen num j has.history.list world.said b.name out.sends
  pub ledger : (l : Ledger) → LedgerSeen l w → LedgerSeen (grown_with l (row_of j out.broker.rows).member (row_of j out.broker.rows).member.part) world

-- ---- sentences

-- what is said of a broker, in a world of this history
abbrev pub OfBrokers : Type 1
OfBrokers = (List ℕ → ℕ) → List ℕ → World → History → Broker → Type 0

-- It holds of each broker that is seen in a world that a run reaches, throughout which handover held.
abbrev pub InEachRun : OfBrokers → Type 0
InEachRun P = (num : List ℕ → ℕ) → IsNumbering num → ((name : List ℕ) → num name ≡ rules.keys → ⊥) → (nodes : ℕ) (before : List Event) → HandoverThroughout before (start nodes) →
    let w = run before (start nodes) in
    (i : HasHistory w) × ((j : List ℕ) (b : Broker) → Ready num j w b → P num j w i.history b)

-- A message that members send one another is taken, of this journal or of another one. Of this one it has to be seen.
abbrev pub TakesMessages : OfBrokers
TakesMessages num j w h b = (from : List ℕ) (msg : Msg) (k : List ℕ) → journal_in msg ≡ Some k → SeenOn num j h.list w.said from b.name msg →
    Behind num j w h.list b (step b (Deliver from false msg))

-- an append, of whatever journal, refused or judged
abbrev pub TakesAppends : OfBrokers
TakesAppends num j w h b = (k : List ℕ) (a : Asked) → Behind num j w h.list b (on_append k a b)

-- the sync key is written: the primary opens
abbrev pub Opens : OfBrokers
Opens num j w h b = (r : Route) (req : ℕ) → (row_of j b.rows).member.part ≡ full_part.Syncing r req → In (rules.letter rules.keys (num b.name) (reduced.TxnOk r.epoch)) w.said →
    Behind num j w h.list b (ruled b j (λ n m. on_synced j m m.part))

-- it isn't written
abbrev pub IsRefused : OfBrokers
IsRefused num j w h b = Behind num j w h.list b (ruled b j (λ n m. on_sync_refused m m.part))

-- the store tells its end, which is that of what the reduced store told
abbrev pub TakesTheStoresEnd : OfBrokers
TakesTheStoresEnd num j w h b = (r : Route) (req end : ℕ) (reports : Slots Report) (text : List Mark) → (row_of j b.rows).member.part ≡ full_part.Opening r req reports None → end ≡ end_of_marks text →
    In (rules.letter rules.keys (num b.name) (reduced.Names r.epoch text)) w.said → Behind num j w h.list b (ruled b j (λ n m. on_store_end j n m end req m.part))

-- the store has what was put
abbrev pub Trims : OfBrokers
Trims num j w h b = (req end : ℕ) → Behind num j w h.list b (on_store_done j req end b)

-- What a primary sends again by command is seen, where it knows each member to hold what its head covers.
abbrev pub SendsAgain : OfBrokers
SendsAgain num j w h b = HoldTheHead (node_at w.state.nodes (num b.name)).head (node_at w.state.nodes (num b.name)).part →
    Behind num j w h.list b (resends j (row_of j b.rows) b)
