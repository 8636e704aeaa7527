-- The sentences of `specs/Events`, from the lemmas: a world that a run reaches has the invariant, and its history; and what is
-- known of an event with the invariant is known of it with the history.
use Rattle.std.proofs.Common.{◌≡◌, ℕ, List}
use Rattle.gz_broker.specs.Brokers.{Broker}
use Rattle.gz_broker.specs.Brokers as brokers
use Rattle.gz_broker.specs.Taking.{on_changes}
use Rattle.gz_cluster.specs.Cluster.{Letter, Cluster}
use Rattle.gz_cluster.specs.Ledger.{Ledger}
use Rattle.gz_cluster.specs.Handover.{changes_of}
use Rattle.gz_lineage.specs.Rules as rules
use Rattle.gz_lineage.specs.Nodes as reduced
use Rattle.gz_lineage.specs.World.{World, run, start}
use Rattle.gz_lineage.proofs.Listed.{each_map}
use Rattle.gz_lineage.proofs.Invariant.{Inv}
use Rattle.gz_lineage.proofs.Run.{run_ok, begins}
use Rattle.gz_carry.specs.Histories.{HasHistory}
use Rattle.gz_carry.specs.Seen.{IsNumbering}
use Rattle.gz_carry.proofs.Runs.{message_of}
use Rattle.gz_steps.specs.Steps.{Behind}
use Rattle.gz_steps.proofs.Reaching.{history, node_now}
use Rattle.gz_steps.proofs.Stepping.{Stepped}
use Rattle.gz_carried.specs.Carried.{Carried, Reaches}
use Rattle.gz_carried.specs.Events.{OfClusters, InEachRun, TakesMessages, TakesClients, Asks, TakesSyncs, Applies, DrawsAuthors, Expires, Crashes, Converges, TakesChanges}
use Rattle.gz_carried.proofs.Opens.{all_changes}
use Rattle.gz_carried.proofs.Carried.{Arrives, crash_carried, converge_carried}
use Rattle.gz_carried.proofs.KeyEvents.{apply_carried, draws_carried, expire_carried, txn_carried}
use Rattle.gz_carried.proofs.Asking.{name_found, lose_carried, appends_carried, reads_carried, gives_up_carried, watch_carried, flush_carried}
use Rattle.gz_carried.proofs.Clients.{take_append, take_read}
use Rattle.gz_carried.proofs.Messages.{take_carried}

-- a world with the invariant has its history
abbrev has_now : (w : World) → Inv w → HasHistory w
has_now w i = record {
  history = history w i;
  nodes = node_now w i;
  said = each_map (λ (l : reduced.Letter) a. message_of i.K i.g i.global l.from l.to l.body a) w.said i.said;
}

-- what is behind an event with the invariant is behind it with the history
abbrev reaches : (num : List ℕ → ℕ) (j : List ℕ) (w : World) (i : Inv w) (c : Cluster) (said : List Letter) (l : Ledger) → Arrives num j w i c said l → Reaches num j w i.g.text c said l
reaches num j w i c said l s = record {
  events = s.events;
  handed = s.throughout;
  world = s.world;
  goes = s.goes;
  has = has_now s.world s.inv;
  longer = s.grows.text;
  carried = s.carried;
}

-- so is a broker's step
behind : (num : List ℕ → ℕ) (j : List ℕ) (w : World) (i : Inv w) (b : Broker) (out : brokers.Outcome) → Stepped num j w i b out → Behind num j w i.g.text b out
behind num j w i b out s = record {
  events = s.events;
  calm = s.calm;
  world = s.world;
  runs = s.runs;
  has = has_now s.world s.inv;
  longer = s.grows.text;
  handed = s.handed;
  said = s.said;
  keys = s.keys;
  others = s.others;
  many = s.many;
  name = s.name;
  member = s.member;
  closings = s.closings;
  sends = s.sends;
  ledger = s.ledger;
}

-- what holds with the invariant holds in each run
in_each_run : (P : OfClusters) →
    ((num : List ℕ → ℕ) → IsNumbering num → ((name : List ℕ) → num name ≡ rules.keys → ⊥) →
    (j : List ℕ) (c : Cluster) (said : List Letter) (l : Ledger) (w : World) (i : Inv w) → Carried num j c said l w i.g.text → P num j c said l w i.g.text) → InEachRun P
in_each_run P f num same no_keys nodes before h =
    let w = run before (start nodes) in
    let i : Inv w = run_ok before (start nodes) (begins nodes) h in
    (has_now w i, λ j c said l a. f num same no_keys j c said l w i a)

pub takes_messages : InEachRun TakesMessages
takes_messages = in_each_run TakesMessages
    (λ num same no_keys j c said l w i a x was k of b found up node not_keys not_store.
    reaches num j w i _ _ _ (take_carried num same no_keys j c said l w i a x was k of b found (name_found x.to c.brokers b found) up node not_keys not_store))

pub takes_clients : InEachRun TakesClients
takes_clients = in_each_run TakesClients (λ num same no_keys j c said l w i a. record {
  append = λ x b found up not_keys not_store req k epoch offset selector take add content is.
      reaches num j w i _ _ _ (take_append num same no_keys j c said l w i a x b found up not_keys not_store req k epoch offset selector take add content is);
  read = λ x b found up not_keys not_store req k offset is.
      reaches num j w i _ _ _ (take_read num same no_keys j c said l w i a x b found up not_keys not_store req k offset is);
})

pub asks : InEachRun Asks
asks = in_each_run Asks (λ num same no_keys j c said l w i a. record {
  lose = λ place. reaches num j w i _ _ _ (lose_carried num same j c said l w i a place);
  appends = λ client to journal epoch offset selector take add content.
      reaches num j w i _ _ _ (appends_carried num same j c said l w i a client to journal epoch offset selector take add content);
  reads = λ client to journal offset. reaches num j w i _ _ _ (reads_carried num same j c said l w i a client to journal offset);
  gives_up = λ client. reaches num j w i _ _ _ (gives_up_carried num same j c said l w i a client);
  watches = λ member. reaches num j w i _ _ _ (watch_carried num same j c said l w i a member);
  flushes = λ broker journal. reaches num j w i _ _ _ (flush_carried num same j c said l w i a broker journal);
})

pub takes_syncs : InEachRun TakesSyncs
takes_syncs = in_each_run TakesSyncs
    (λ num same no_keys j c said l w i a taken k from client req epoch asked.
    let s = txn_carried num same j c said l w i a taken k from req epoch asked client in
    record { reaches = reaches num j w i _ _ _ s.arrives; ok = s.ok })

pub applies : InEachRun Applies
applies = in_each_run Applies (λ num same no_keys j c said l w i a part. reaches num j w i _ _ _ (apply_carried num same j c said l w i a part))

pub draws_authors : InEachRun DrawsAuthors
draws_authors = in_each_run DrawsAuthors (λ num same no_keys j c said l w i a shard consumer. reaches num j w i _ _ _ (draws_carried num same j c said l w i a shard consumer))

pub expires : InEachRun Expires
expires = in_each_run Expires (λ num same no_keys j c said l w i a name f. reaches num j w i _ _ _ (expire_carried num same j c said l w i a name f))

pub crashes : InEachRun Crashes
crashes = in_each_run Crashes
    (λ num same no_keys j c said l w i a name is less stored h. reaches num j w i _ _ _ (crash_carried num same j c said l w i a name is less stored h))

pub converges : InEachRun Converges
converges = in_each_run Converges
    (λ num same no_keys j c said l w i a journals shards stored h. reaches num j w i _ _ _ (converge_carried num same j c said l w i a journals shards stored h))

pub takes_changes : InEachRun TakesChanges
takes_changes = in_each_run TakesChanges
    (λ num same no_keys j c said l w i a cs among b ready mirror.
    let s = all_changes num same no_keys j (changes_of c) cs among w i a.keys b ready mirror in
    (behind num j w i b (on_changes cs b) s.step.step, s.mirror))
