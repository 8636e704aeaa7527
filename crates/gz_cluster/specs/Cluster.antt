-- All nodes, and the messages in flight. A node's answer to an item is that node's step and nothing else: what is here
-- only carries messages to nodes and sends away.
use Rattle.std.specs.Prelude.{ℕ, ◌+◌, ◌||◌, List, [], ◌∷◌, ◌++◌, length, map, Bool, not, Option, Some, None, if◌then◌else◌}
use Rattle.std.specs.Str.{bytes_eq}
use Rattle.std.specs.List.{list_any}
use Rattle.gz_wire.specs.declared.msg.Msg.{Msg}
use Rattle.gz_wire.specs.declared.msg.Send.{Send}
use Rattle.gz_depot.specs.Depot.{Indexes}
use Rattle.gz_depot.specs.Depot as depot
use Rattle.gz_registry.specs.Registered.{was_member}
use Rattle.gz_replica.specs.Opening.{keys, store}
use Rattle.gz_broker.specs.Brokers.{Broker, Item, Deliver}
use Rattle.gz_broker.specs.Brokers as brokers
use Rattle.gz_broker.specs.Step.{sends_of}
use Rattle.gz_broker.specs.Step as broker_step
use Rattle.gz_cluster.specs.Keeper.{Keeper}
use Rattle.gz_cluster.specs.Keeper as keeper
use Rattle.gz_cluster.specs.Others.{Consumer, Client, consumer_step, client_step}

-- a message that was sent: its number among all sends, from 1; its sender, and its number among that sender's sends
pub record Letter : Type 0 where
  pub number : ℕ
  pub from : List ℕ
  pub nth : ℕ
  pub to : List ℕ
  pub msg : Msg

pub record Cluster : Type 0 where
  pub keeper : Keeper
  -- the node `store`
  pub indexes : Indexes
  -- those who ever joined as brokers, and as consumers, each in the order of their names
  pub brokers : List Broker
  pub consumers : List Consumer
  -- those of them that have stopped
  pub stopped : List (List ℕ)
  -- those who have asked
  pub clients : List Client
  -- the messages in flight, in the order in which they were sent
  pub flight : List Letter
  -- how many messages were sent, by all and by each who sent some
  pub sent : ℕ
  pub counts : List (List ℕ × ℕ)

-- what happened: the cluster after it, the messages that were taken, and those that were sent
pub record Moved : Type 0 where
  pub cluster : Cluster
  pub taken : List Letter
  pub said : List Letter

-- nothing is sent
abbrev pub quiet : List Letter → Cluster → Moved
quiet taken c = record { cluster = c; taken = taken; said = [] }

-- one after another
abbrev pub and_then : Moved → (Cluster → Moved) → Moved
and_then a f = let b = f a.cluster in record { cluster = b.cluster; taken = a.taken ++ b.taken; said = a.said ++ b.said }

-- ---- nodes by name

abbrev pub is_among : List ℕ → List (List ℕ) → Bool
is_among name names = list_any (bytes_eq name) names

abbrev pub is_member : Cluster → List ℕ → Bool
is_member c name = was_member name c.keeper.registry.members

abbrev pub runs : Cluster → List ℕ → Bool
runs c name = not (is_among name c.stopped)

-- whoever is neither a node that never stops nor someone who ever joined is a client
abbrev pub is_client : Cluster → List ℕ → Bool
is_client c name = not (bytes_eq name keys || (bytes_eq name store || is_member c name))

abbrev pub broker_of : List ℕ → List Broker → Option Broker
broker_of name [] = None
broker_of name (b ∷ bs) = if bytes_eq name b.name then Some b else broker_of name bs

-- the broker in the place of the one of its name
abbrev pub with_broker : Broker → List Broker → List Broker
with_broker new [] = []
with_broker new (b ∷ bs) = if bytes_eq new.name b.name then new ∷ bs else b ∷ with_broker new bs

abbrev pub with_consumer : (Consumer → Consumer) → List ℕ → List Consumer → List Consumer
with_consumer f name [] = []
with_consumer f name (n ∷ ns) = if bytes_eq name n.name then f n ∷ ns else n ∷ with_consumer f name ns

abbrev pub with_client : (Client → Client) → List ℕ → List Client → List Client
with_client f name [] = []
with_client f name (n ∷ ns) = if bytes_eq name n.name then f n ∷ ns else n ∷ with_client f name ns

-- ---- sending

abbrev pub count_of : List ℕ → List (List ℕ × ℕ) → ℕ
count_of name [] = 0
count_of name (n ∷ ns) = if bytes_eq name n.0 then n.1 else count_of name ns

abbrev pub with_count : List ℕ → ℕ → List (List ℕ × ℕ) → List (List ℕ × ℕ)
with_count name count [] = (name, count) ∷ []
with_count name count (n ∷ ns) = if bytes_eq name n.0 then (n.0, count) ∷ ns else n ∷ with_count name count ns

-- letters, behind so many of all and so many of this sender
abbrev pub letters_from : ℕ → List ℕ → ℕ → List Send → List Letter
letters_from sent from count [] = []
letters_from sent from count (s ∷ ss) =
    record { number = sent + 1; from = from; nth = count + 1; to = s.to; msg = s.msg } ∷ letters_from (sent + 1) from (count + 1) ss

-- the letters of these sends of a node
abbrev pub letters_of : List ℕ → List Send → Cluster → List Letter
letters_of from all c = letters_from c.sent from (count_of from c.counts) all

-- the node sends these
abbrev pub sends : List ℕ → List Send → List Letter → Cluster → Moved
sends from all taken c = record {
  cluster = record c {
    flight = c.flight ++ letters_of from all c;
    sent = c.sent + length all;
    counts = with_count from (count_of from c.counts + length all) c.counts;
  };
  taken = taken;
  said = letters_of from all c;
}

-- ---- one node's step

abbrev pub broker_moves : List Letter → Cluster → brokers.Outcome → Moved
broker_moves taken c out = sends out.broker.name (sends_of out) taken (record c { brokers = with_broker out.broker c.brokers })

abbrev pub keeper_moves : List Letter → Cluster → keeper.Outcome → Moved
keeper_moves taken c out = sends keys out.sends taken (record c { keeper = out.keeper })

abbrev pub store_moves : List Letter → Cluster → depot.Outcome → Moved
store_moves taken c out = sends store out.sends taken (record c { indexes = out.indexes })

-- consumers and clients only take
abbrev pub taken_by_others : Letter → Cluster → Cluster
taken_by_others l c = record c {
  consumers = with_consumer (consumer_step l.msg) l.to c.consumers;
  clients = with_client (client_step l.msg) l.to c.clients;
}

-- a broker answers
abbrev pub member_takes : Letter → Cluster → Option Broker → Moved
member_takes l c (Some b) = broker_moves (l ∷ []) c (broker_step.step b (Deliver l.from (is_client c l.from) l.msg))
member_takes l c None = quiet (l ∷ []) (taken_by_others l c)

-- the message is taken; by one who has stopped without effect
abbrev pub takes : Letter → Cluster → Moved
takes l c =
    if bytes_eq l.to keys then keeper_moves (l ∷ []) c (keeper.step c.keeper l.from (is_client c l.from) l.msg)
    else (if bytes_eq l.to store then store_moves (l ∷ []) c (depot.step c.indexes l.from (is_client c l.from) l.msg)
    else (if runs c l.to then member_takes l c (broker_of l.to c.brokers)
    else quiet (l ∷ []) c))
