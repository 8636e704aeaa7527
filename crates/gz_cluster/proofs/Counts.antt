-- Every send is counted, whatever happens.
use Rattle.std.proofs.Common.{◌≡◌, ◌+◌, ◌++◌, List, [], ◌∷◌, ℕ, length, ap, refl, sym, ◌∙◌, arith, length-append, suc}
use Rattle.std.specs.Prelude.{Bool, true, false, not, ◌||◌, codes, Option, Some, None, Result, Ok, Err, if◌then◌else◌, slice_get}
use Rattle.std.specs.List.{remove}
use Rattle.std.specs.Str.{bytes_eq}
use Rattle.gz_wire.specs.declared.msg.Send.{Send}
use Rattle.gz_wire.specs.declared.msg.Msg.TheVariants.{Append, Read}
use Rattle.gz_keyspace.specs.declared.formats.Joined.{Joined}
use Rattle.gz_keyspace.specs.Keys.{keys_after}
use Rattle.gz_keyspace.specs.Mirrors.{Mirrored}
use Rattle.gz_keyspace.specs.Space.{put_of}
use Rattle.gz_registry.specs.Keys.{writes_of}
use Rattle.gz_spec.specs.Reserved.{is_reserved}
use Rattle.gz_registry.specs.declared.error.RegistryError.{RegistryError}
use Rattle.gz_registry.specs.Registered.{join_answer, after_join, expire_answer, after_expiry}
use Rattle.gz_replica.specs.Member.{send}
use Rattle.gz_replica.specs.Opening.{keys, store}
use Rattle.gz_broker.specs.Brokers.{Broker, Item, Deliver, Watch, Sync, Flush}
use Rattle.gz_broker.specs.Brokers as brokers
use Rattle.gz_broker.specs.Step.{sends_of}
use Rattle.gz_broker.specs.Step as broker_step
use Rattle.gz_depot.specs.Depot as depot
use Rattle.gz_converge.specs.declared.txn.Txn.{Txn}
use Rattle.gz_converge.specs.Views.{view_of}
use Rattle.gz_converge.specs.Converged.{txns_of}
use Rattle.gz_cluster.specs.Keeper.{tells}
use Rattle.gz_cluster.specs.Keeper as keeper
use Rattle.gz_cluster.specs.Others.{Consumer, watched, watches, asking, given_up}
use Rattle.gz_cluster.specs.Cluster.{Letter, Cluster, Moved, quiet, and_then, letters_from, sends, takes, member_takes, taken_by_others, broker_moves, with_broker, with_consumer, with_client, runs, is_client, is_member, broker_of, count_of}
use Rattle.gz_cluster.specs.Events.{Event, Apply, Join, Converge, Expire, Crash, Take, Lose, Watches, Syncs, Flushes, Appends, Reads, GivesUp, Draws, happens, joins_as, join_put, seated, seated_as, whole_mirror, with_registry, with_goal, is_free, expires_as, deletes, key_of, next_request, clients_with, txn_moves, txns_move, commands, commands_broker, member_watches, consumer_watches, consumer_of, asks, takes_at, without_place}

abbrev pub IsCounted : Cluster → Moved → Type 0
IsCounted c m = m.cluster.sent ≡ c.sent + length m.said

letters_len : (sent : ℕ) (from : List ℕ) (count : ℕ) (all : List Send) → length (letters_from sent from count all) ≡ length all
letters_len sent from count [] = refl
letters_len sent from count (s ∷ ss) = ap suc (letters_len (sent + 1) from (count + 1) ss)

-- those of a node that sends
sends_counted : (from : List ℕ) (all : List Send) (taken : List Letter) (c : Cluster) → IsCounted c (sends from all taken c)
sends_counted from all taken c = ap (λ n. c.sent + n) (sym (letters_len c.sent from (count_of from c.counts) all))

quiet_counted : (taken : List Letter) (c d : Cluster) → d.sent ≡ c.sent → IsCounted c (quiet taken d)
quiet_counted taken c d same = omega (arith, same)

if_counted : (c : Cluster) (test : Bool) (m n : Moved) → IsCounted c m → IsCounted c n → IsCounted c (if test then m else n)
if_counted c true m n p q = p
if_counted c false m n p q = q

and_counted : (c : Cluster) (a : Moved) (f : Cluster → Moved) → IsCounted c a → IsCounted a.cluster (f a.cluster) → IsCounted c (and_then a f)
and_counted c a f first next = omega (arith, first, next, length-append a.said (f a.cluster).said)

-- of another cluster of as many sends
sends_from : (from : List ℕ) (all : List Send) (taken : List Letter) (c d : Cluster) → d.sent ≡ c.sent → IsCounted c (sends from all taken d)
sends_from from all taken c d same = omega (arith, same, sends_counted from all taken d)

txns_from : (ts : List Txn) (c d : Cluster) → d.sent ≡ c.sent → IsCounted c (txns_move ts d)
txns_from [] c d same = quiet_counted [] c d same
txns_from (t ∷ ts) c d same =
    let out = keeper.tries (t.compare ∷ []) (t.write ∷ []) d.keeper in
    and_counted c (txn_moves t d) (txns_move ts) (sends_from keys out.sends [] c (record d { keeper = out.keeper }) same) (txns_from ts (txn_moves t d).cluster (txn_moves t d).cluster refl)

seated_sent : (consumer : Bool) (name : List ℕ) (mirror : Mirrored) (c : Cluster) → (seated_as consumer name mirror c).sent ≡ c.sent
seated_sent true name mirror c = refl
seated_sent false name mirror c = refl

joins_counted : (joined : Joined) (c : Cluster) (answer : Result ℕ RegistryError) → IsCounted c (joins_as joined c answer)
joins_counted joined c (Err e) = quiet_counted [] c c refl
joins_counted joined c (Ok lease) =
    let after = after_join joined c.keeper.registry in
    let d = seated joined (whole_mirror after.keys) (with_registry after c) in
    sends_from keys (tells d.keeper (join_put joined ∷ [])) [] c d (seated_sent joined.consumer joined.spec.id (whole_mirror after.keys) (with_registry after c))

expires_counted : (name : List ℕ) (c : Cluster) (answer : Result ℕ RegistryError) → IsCounted c (expires_as name c answer)
expires_counted name c (Err e) = quiet_counted [] c c refl
expires_counted name c (Ok revision) =
    let d = with_registry (after_expiry name c.keeper.registry) c in
    sends_from keys (tells d.keeper (deletes (key_of name c.keeper.registry))) [] c d refl

broker_counted : (taken : List Letter) (c d : Cluster) (out : brokers.Outcome) → d.sent ≡ c.sent → IsCounted c (broker_moves taken d out)
broker_counted taken c d out same = sends_from out.broker.name (sends_of out) taken c (record d { brokers = with_broker out.broker d.brokers }) same

member_counted : (l : Letter) (c d : Cluster) (b : Option Broker) → d.sent ≡ c.sent → IsCounted c (member_takes l d b)
member_counted l c d (Some b) same = broker_counted (l ∷ []) c d (broker_step.step b (Deliver l.from (is_client d l.from) l.msg)) same
member_counted l c d None same = quiet_counted (l ∷ []) c (taken_by_others l d) same

-- a message is taken in a cluster of as many sends
takes_counted : (l : Letter) (c d : Cluster) → d.sent ≡ c.sent → IsCounted c (takes l d)
takes_counted l c d same =
    let asked = keeper.step d.keeper l.from (is_client d l.from) l.msg in
    let stored = depot.step d.indexes l.from (is_client d l.from) l.msg in
    if_counted c (bytes_eq l.to keys) _ _ (sends_from keys asked.sends (l ∷ []) c (record d { keeper = asked.keeper }) same)
    (if_counted c (bytes_eq l.to store) _ _ (sends_from store stored.sends (l ∷ []) c (record d { indexes = stored.indexes }) same)
    (if_counted c (runs d l.to) _ _ (member_counted l c d (broker_of l.to d.brokers) same) (quiet_counted (l ∷ []) c d same)))

takes_at_counted : (place : ℕ) (c : Cluster) (l : Option Letter) → IsCounted c (takes_at place c l)
takes_at_counted place c None = quiet_counted [] c c refl
takes_at_counted place c (Some l) = takes_counted l c (without_place place c) refl

commands_counted : (item : Item) (c : Cluster) (b : Option Broker) → IsCounted c (commands_broker item c b)
commands_counted item c None = quiet_counted [] c c refl
commands_counted item c (Some b) = broker_counted [] c c (broker_step.step b item) refl

command_counted : (name : List ℕ) (item : Item) (c : Cluster) → IsCounted c (commands name item c)
command_counted name item c = if_counted c (runs c name) _ _ (commands_counted item c (broker_of name c.brokers)) (quiet_counted [] c c refl)

consumer_counted : (c : Cluster) (n : Option Consumer) → IsCounted c (consumer_watches c n)
consumer_counted c None = quiet_counted [] c c refl
consumer_counted c (Some n) = sends_from n.name (watches n ∷ []) [] c (record c { consumers = with_consumer watched n.name c.consumers }) refl

watches_counted : (name : List ℕ) (c : Cluster) (b : Option Broker) → IsCounted c (member_watches name c b)
watches_counted name c None = consumer_counted c (consumer_of name c.consumers)
watches_counted name c (Some b) = broker_counted [] c c (broker_step.step b Watch) refl

asks_counted : (name : List ℕ) (ask : ℕ → Send) (c : Cluster) → IsCounted c (asks name ask c)
asks_counted name ask c =
    if_counted c (is_reserved name || is_member c name) _ _ (quiet_counted [] c c refl)
    (sends_from name (ask (next_request name c) ∷ []) [] c (record c { clients = with_client asking name (clients_with name c.clients) }) refl)

pub sends_are_counted : (c : Cluster) (e : Event) → IsCounted c (happens c e)
sends_are_counted c (Apply part) =
    let out = keeper.makes (writes_of part) c.keeper in
    sends_from keys out.sends [] c (record c { keeper = out.keeper }) refl
sends_are_counted c (Join joined) = if_counted c (is_free c joined.spec.id) _ _ (joins_counted joined c (join_answer c.keeper.registry)) (quiet_counted [] c c refl)
sends_are_counted c (Converge journals shards) = txns_from (txns_of (view_of (keys_after c.keeper.registry.keys.changes)) journals shards) c (with_goal journals c) refl
sends_are_counted c (Expire member) = expires_counted member c (expire_answer member c.keeper.registry)
sends_are_counted c (Crash member) = if_counted c (is_member c member) _ _ (quiet_counted [] c (record c { stopped = member ∷ c.stopped }) refl) (quiet_counted [] c c refl)
sends_are_counted c (Take place) = takes_at_counted place c (slice_get c.flight place)
sends_are_counted c (Lose place) = quiet_counted [] c (without_place place c) refl
sends_are_counted c (Watches member) = if_counted c (runs c member) _ _ (watches_counted member c (broker_of member c.brokers)) (quiet_counted [] c c refl)
sends_are_counted c (Syncs broker j) = command_counted broker (Sync j) c
sends_are_counted c (Flushes broker j) = command_counted broker (Flush j) c
sends_are_counted c (Appends client to j epoch offset selector take add content) = asks_counted client (λ req. send to (Append req j epoch offset selector take add content)) c
sends_are_counted c (Reads client to j offset) = asks_counted client (λ req. send to (Read req j offset)) c
sends_are_counted c (GivesUp client) = quiet_counted [] c (record c { clients = with_client given_up client c.clients }) refl
sends_are_counted c (Draws shard consumer) =
    let out = keeper.makes (put_of (codes "author/" ++ shard) consumer ∷ []) c.keeper in
    sends_from keys out.sends [] c (record c { keeper = out.keeper }) refl
