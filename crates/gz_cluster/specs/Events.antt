-- What may happen to a cluster, and runs.
use Rattle.std.specs.Prelude.{ℕ, ◌+◌, ◌++◌, ◌&&◌, ◌||◌, List, [], ◌∷◌, length, map, Bool, true, false, not, option_and_then, Option, Some, None, Result, Ok, Err, if◌then◌else◌, slice_get, codes}
use Rattle.std.specs.List.{remove}
use Rattle.std.specs.Str.{bytes_eq}
use Rattle.std.specs.Ordering.{nat_cmp}
use Rattle.std.specs.Cmp.Lexicographic.{slice_cmp}
use Rattle.std.specs.BTreeMap.{insert_entry}
use Rattle.gz_label.specs.declared.label.Label.{Label}
use Rattle.gz_label.specs.declared.keys.KeyWrite.{KeyWrite}
use Rattle.gz_wire.specs.declared.msg.Send.{Send}
use Rattle.gz_wire.specs.declared.msg.Msg.TheVariants.{Append, Read}
use Rattle.gz_spec.specs.Records.{Specs}
use Rattle.gz_spec.specs.Reserved.{is_reserved}
use Rattle.gz_keyspace.specs.declared.formats.Joined.{Joined}
use Rattle.gz_keyspace.specs.Formats.{member_text}
use Rattle.gz_keyspace.specs.Keys.{keys_after}
use Rattle.gz_keyspace.specs.Mirrors.{Mirrored}
use Rattle.gz_keyspace.specs.Space.{Space, revision_of, put_of, delete_of, key_of_lease}
use Rattle.gz_registry.specs.declared.error.RegistryError.{RegistryError}
use Rattle.gz_registry.specs.Keys.{member_key, members_of, writes_of, in_order}
use Rattle.gz_registry.specs.Registered.{Registered, lease_of, join_answer, after_join, expire_answer, after_expiry, registry_start}
use Rattle.gz_replica.specs.Member.{send}
use Rattle.gz_replica.specs.Opening.{keys}
use Rattle.gz_broker.specs.Brokers.{Broker, Item, Watch, Sync, Flush}
use Rattle.gz_broker.specs.Step as broker_step
use Rattle.gz_converge.specs.declared.txn.Txn.{Txn}
use Rattle.gz_converge.specs.Views.{view_of}
use Rattle.gz_converge.specs.Converged.{Pairs, txns_of}
use Rattle.gz_cluster.specs.Keeper.{Keeper, tells, makes, tries}
use Rattle.gz_cluster.specs.Others.{Consumer, Client, watched, watches, asking, given_up}
use Rattle.gz_cluster.specs.Cluster.{Letter, Cluster, Moved, quiet, and_then, is_member, is_client, runs, broker_of, with_consumer, with_client, sends, broker_moves, keeper_moves, takes}

pub data Event : Type 0 where
  -- specifications are put into the key space
  Apply : (part : Specs) → Event
  Join : (joined : Joined) → Event
  -- the placements of journals and of shards that are taken
  Converge : (journals shards : Pairs) → Event
  -- the lease of this member ends
  Expire : (member : List ℕ) → Event
  Crash : (member : List ℕ) → Event
  -- the message in flight at this place is taken, or is lost
  Take : (place : ℕ) → Event
  Lose : (place : ℕ) → Event
  Watches : (member : List ℕ) → Event
  Syncs : (broker journal : List ℕ) → Event
  Flushes : (broker journal : List ℕ) → Event
  Appends : (client to journal : List ℕ) (epoch offset : Option ℕ) (selector : List ℕ) (take add : List Label) (content : List ℕ) → Event
  Reads : (client to journal : List ℕ) (offset : ℕ) → Event
  GivesUp : (client : List ℕ) → Event
  -- the shard's author key is put for a consumer, without a message
  Draws : (shard consumer : List ℕ) → Event

-- ---- members

-- no node, nobody who ever joined, and no client that has asked
abbrev pub has_asked : List ℕ → List Client → Bool
has_asked name [] = false
has_asked name (n ∷ ns) = if bytes_eq name n.name then true else has_asked name ns

abbrev pub is_free : Cluster → List ℕ → Bool
is_free c name = not (is_reserved name) && (not (is_member c name) && not (has_asked name c.clients))

-- a copy of the whole key space
abbrev pub whole_mirror : Space → Mirrored
whole_mirror space = record { revision = revision_of space.changes; keys = keys_after space.changes }

abbrev pub new_broker : List ℕ → Mirrored → Broker
new_broker name mirror = record { name = name; mirror = mirror; rows = []; fetches = []; requests = 0 }

abbrev pub new_consumer : List ℕ → Mirrored → Consumer
new_consumer name mirror = record { name = name; mirror = mirror; requests = 0 }

abbrev pub brokers_with : Broker → List Broker → List Broker
brokers_with new all = in_order (map (λ (b : Broker). (b.name, b)) (all ++ new ∷ []))

abbrev pub consumers_with : Consumer → List Consumer → List Consumer
consumers_with new all = in_order (map (λ (n : Consumer). (n.name, n)) (all ++ new ∷ []))

-- the new member's node: a consumer, or else a broker
abbrev pub seated_as : Bool → List ℕ → Mirrored → Cluster → Cluster
seated_as true name mirror c = record c { consumers = consumers_with (new_consumer name mirror) c.consumers }
seated_as false name mirror c = record c { brokers = brokers_with (new_broker name mirror) c.brokers }

abbrev pub seated : Joined → Mirrored → Cluster → Cluster
seated joined mirror c = seated_as joined.consumer joined.spec.id mirror c

abbrev pub with_registry : Registered → Cluster → Cluster
with_registry r c = record c { keeper = record { registry = r; goal = c.keeper.goal } }

-- the change is told to all who ever joined
abbrev pub tells_all : List KeyWrite → Cluster → Moved
tells_all writes c = sends keys (tells c.keeper writes) [] c

abbrev pub join_put : Joined → KeyWrite
join_put joined = put_of (member_key joined.spec.id) (member_text joined)

-- whoever joins is told of it too, though the mirror has it already
abbrev pub joins_as : Joined → Cluster → Result ℕ RegistryError → Moved
joins_as joined c (Err e) = quiet [] c
joins_as joined c (Ok lease) =
    let after = after_join joined c.keeper.registry in
    tells_all (join_put joined ∷ []) (seated joined (whole_mirror after.keys) (with_registry after c))

abbrev pub joins : Joined → Cluster → Moved
joins joined c = if is_free c joined.spec.id then joins_as joined c (join_answer c.keeper.registry) else quiet [] c

-- the key that the lease of this member keeps
abbrev pub key_of : List ℕ → Registered → Option (List ℕ)
key_of name r = option_and_then (λ lease. key_of_lease lease r.keys.leases) (lease_of name r.members)

abbrev pub deletes : Option (List ℕ) → List KeyWrite
deletes None = []
deletes (Some key) = delete_of key ∷ []

abbrev pub expires_as : List ℕ → Cluster → Result ℕ RegistryError → Moved
expires_as name c (Err e) = quiet [] c
expires_as name c (Ok revision) = tells_all (deletes (key_of name c.keeper.registry)) (with_registry (after_expiry name c.keeper.registry) c)

abbrev pub expires : List ℕ → Cluster → Moved
expires name c = expires_as name c (expire_answer name c.keeper.registry)

-- it takes nothing any more, and sends nothing
abbrev pub crashes : List ℕ → Cluster → Moved
crashes name c = if is_member c name then quiet [] (record c { stopped = name ∷ c.stopped }) else quiet [] c

-- ---- the key space

abbrev pub applies : Specs → Cluster → Moved
applies part c = keeper_moves [] c (makes (writes_of part) c.keeper)

abbrev pub draws : List ℕ → List ℕ → Cluster → Moved
draws shard consumer c = keeper_moves [] c (makes (put_of (codes "author/" ++ shard) consumer ∷ []) c.keeper)

abbrev pub txn_moves : Txn → Cluster → Moved
txn_moves t c = keeper_moves [] c (tries (t.compare ∷ []) (t.write ∷ []) c.keeper)

-- transactions, one after another
abbrev pub txns_move : List Txn → Cluster → Moved
txns_move [] c = quiet [] c
txns_move (t ∷ ts) c = and_then (txn_moves t c) (txns_move ts)

abbrev pub with_goal : Pairs → Cluster → Cluster
with_goal goal c = record c { keeper = record { registry = c.keeper.registry; goal = goal } }

-- What these placements ask of the key space as it is; the journals' one is the next goal.
abbrev pub converges : Pairs → Pairs → Cluster → Moved
converges journals shards c =
    txns_move (txns_of (view_of (keys_after c.keeper.registry.keys.changes)) journals shards) (with_goal journals c)

-- ---- commands

abbrev pub commands_broker : Item → Cluster → Option Broker → Moved
commands_broker item c None = quiet [] c
commands_broker item c (Some b) = broker_moves [] c (broker_step.step b item)

-- a command to a broker that runs
abbrev pub commands : List ℕ → Item → Cluster → Moved
commands name item c = if runs c name then commands_broker item c (broker_of name c.brokers) else quiet [] c

abbrev pub consumer_of : List ℕ → List Consumer → Option Consumer
consumer_of name [] = None
consumer_of name (n ∷ ns) = if bytes_eq name n.name then Some n else consumer_of name ns

abbrev pub consumer_watches : Cluster → Option Consumer → Moved
consumer_watches c None = quiet [] c
consumer_watches c (Some n) = sends n.name (watches n ∷ []) [] (record c { consumers = with_consumer watched n.name c.consumers })

-- a member that runs asks for the changes that its mirror hasn't
abbrev pub member_watches : List ℕ → Cluster → Option Broker → Moved
member_watches name c (Some b) = broker_moves [] c (broker_step.step b Watch)
member_watches name c None = consumer_watches c (consumer_of name c.consumers)

abbrev pub watch : List ℕ → Cluster → Moved
watch name c = if runs c name then member_watches name c (broker_of name c.brokers) else quiet [] c

-- ---- clients

abbrev pub new_client : List ℕ → Client
new_client name = record { name = name; requests = 0; outstanding = [] }

-- whoever asks for the first time is a client from then on
abbrev pub clients_with : List ℕ → List Client → List Client
clients_with name [] = new_client name ∷ []
clients_with name (n ∷ ns) = if bytes_eq name n.name then n ∷ ns else n ∷ clients_with name ns

abbrev pub client_of : List ℕ → List Client → Client
client_of name [] = new_client name
client_of name (n ∷ ns) = if bytes_eq name n.name then n else client_of name ns

-- the number of a client's next request
abbrev pub next_request : List ℕ → Cluster → ℕ
next_request name c = (client_of name c.clients).requests + 1

-- a client asks, under a name that is no node's
abbrev pub asks : List ℕ → (ℕ → Send) → Cluster → Moved
asks name ask c =
    if is_reserved name || is_member c name then quiet [] c
    else sends name (ask (next_request name c) ∷ []) [] (record c { clients = with_client asking name (clients_with name c.clients) })

abbrev pub gives_up : List ℕ → Cluster → Moved
gives_up name c = quiet [] (record c { clients = with_client given_up name c.clients })

-- ---- messages in flight

abbrev pub without_place : ℕ → Cluster → Cluster
without_place place c = record c { flight = remove c.flight place }

abbrev pub takes_at : ℕ → Cluster → Option Letter → Moved
takes_at place c None = quiet [] c
takes_at place c (Some l) = takes l (without_place place c)

-- ---- what happens

abbrev pub happens : Cluster → Event → Moved
happens c (Apply part) = applies part c
happens c (Join joined) = joins joined c
happens c (Converge journals shards) = converges journals shards c
happens c (Expire member) = expires member c
happens c (Crash member) = crashes member c
happens c (Take place) = takes_at place c (slice_get c.flight place)
happens c (Lose place) = quiet [] (without_place place c)
happens c (Watches member) = watch member c
happens c (Syncs broker j) = commands broker (Sync j) c
happens c (Flushes broker j) = commands broker (Flush j) c
happens c (Appends client to j epoch offset selector take add content) =
    asks client (λ req. send to (Append req j epoch offset selector take add content)) c
happens c (Reads client to j offset) = asks client (λ req. send to (Read req j offset)) c
happens c (GivesUp client) = gives_up client c
happens c (Draws shard consumer) = draws shard consumer c

-- ---- runs

-- each member's mirror is a copy of the key space as it begins
abbrev pub seat_each : List Joined → Mirrored → Cluster → Cluster
seat_each [] mirror c = c
seat_each (j ∷ js) mirror c = seat_each js mirror (seated j mirror c)

abbrev pub empty : Registered → Cluster
empty registry = record {
  keeper = record { registry = registry; goal = [] };
  indexes = [];
  brokers = [];
  consumers = [];
  stopped = [];
  clients = [];
  flight = [];
  sent = 0;
  counts = [];
}

-- what a cluster of these specifications begins with
abbrev pub start : Specs → Cluster
start specs =
    let registry = registry_start specs in
    seat_each (members_of specs) (whole_mirror registry.keys) (empty registry)

-- the cluster after an event
abbrev pub after : Cluster → Event → Cluster
after c e = (happens c e).cluster

abbrev pub run : List Event → Cluster → Cluster
run [] c = c
run (e ∷ es) c = run es (after c e)

-- what was taken in a run, and what was sent
abbrev pub taken_in : List Event → Cluster → List Letter
taken_in [] c = []
taken_in (e ∷ es) c = (happens c e).taken ++ taken_in es (after c e)

abbrev pub said_in : List Event → Cluster → List Letter
said_in [] c = []
said_in (e ∷ es) c = (happens c e).said ++ said_in es (after c e)
