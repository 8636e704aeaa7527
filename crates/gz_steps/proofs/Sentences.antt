-- The sentences of `specs/Steps`, from the lemmas: a world that a run reaches has the invariant, and its history; and what is
-- known of a step with the invariant is known of it with the history.
use Rattle.std.proofs.Common.{ℕ, ◌≡◌, List, refl, None}
use Rattle.std.proofs.lemmas.Bool.{cond_both}
use Rattle.gz_replica.specs.Primary.{on_stored}
use Rattle.gz_broker.specs.Brokers.{Broker, Outcome, idle, row_of}
use Rattle.gz_broker.specs.Closing.{by_rule}
use Rattle.gz_broker.specs.Persisting.{on_store_done, is_answer}
use Rattle.gz_lineage.specs.Nodes.{Letter}
use Rattle.gz_lineage.specs.World.{World, run, start}
use Rattle.gz_lineage.proofs.Listed.{each_map}
use Rattle.gz_lineage.proofs.Invariant.{Inv}
use Rattle.gz_lineage.proofs.Run.{run_ok, begins}
use Rattle.gz_lineage.specs.Rules as rules
use Rattle.gz_carry.specs.Histories.{HasHistory}
use Rattle.gz_carry.specs.Seen.{IsNumbering}
use Rattle.gz_carry.proofs.Runs.{message_of}
use Rattle.gz_steps.specs.Steps.{Ready, Behind, OfBrokers, InEachRun, TakesMessages, TakesAppends, Opens, IsRefused, TakesTheStoresEnd, Trims, SendsAgain}
use Rattle.gz_steps.proofs.Reaching.{history, node_now}
use Rattle.gz_steps.proofs.Stepping.{Stepped, quietly}
use Rattle.gz_steps.proofs.Answered.{synced_stepped, refused_stepped, names_stepped}
use Rattle.gz_steps.proofs.Resent.{stored_stepped, resends_stepped}
use Rattle.gz_steps.proofs.Appends.{append_stepped}
use Rattle.gz_steps.proofs.Taken.{any_message}

-- a world with the invariant has its history
abbrev has_now : (w : World) → Inv w → HasHistory w
has_now w i = record {
  history = history w i;
  nodes = node_now w i;
  said = each_map (λ (l : Letter) a. message_of i.K i.g i.global l.from l.to l.body a) w.said i.said;
}

-- a step with the invariant is one with the history
behind : (num : List ℕ → ℕ) (j : List ℕ) (w : World) (i : Inv w) (b : Broker) (out : Outcome) → Stepped num j w i b out → Behind num j w i.g.text b out
behind num j w i b out s = record {
  events = s.events;
  calm = s.calm;
  world = s.world;
  runs = s.runs;
  has = has_now s.world s.inv;
  longer = s.grows.text;
  handed = s.handed;
  said = s.said;
  keys = s.keys;
  others = s.others;
  many = s.many;
  name = s.name;
  member = s.member;
  closings = s.closings;
  sends = s.sends;
  ledger = s.ledger;
}

-- what holds with the invariant holds in each run
in_each_run : (P : OfBrokers) →
    ((num : List ℕ → ℕ) → IsNumbering num → ((name : List ℕ) → num name ≡ rules.keys → ⊥) → (j : List ℕ) (w : World) (i : Inv w) (b : Broker) → Ready num j w b → P num j w (history w i) b) → InEachRun P
in_each_run P f num same no_keys nodes before h =
    let w = run before (start nodes) in
    let i : Inv w = run_ok before (start nodes) (begins nodes) h in
    (has_now w i, λ j b ready. f num same no_keys j w i b ready)

pub takes_messages : InEachRun TakesMessages
takes_messages = in_each_run TakesMessages
    (λ num same no_keys j w i b ready from msg k of seen. behind num j w i b _ (any_message num same no_keys j w i b ready from msg k of seen))

pub takes_appends : InEachRun TakesAppends
takes_appends = in_each_run TakesAppends
    (λ num same no_keys j w i b ready k a. behind num j w i b _ (append_stepped num same no_keys j w i b ready k a))

pub opens : InEachRun Opens
opens = in_each_run Opens
    (λ num same no_keys j w i b ready r req p ok. behind num j w i b _ (synced_stepped num same no_keys j w i b ready r req p ok))

pub is_refused : InEachRun IsRefused
is_refused = in_each_run IsRefused
    (λ num same no_keys j w i b ready. behind num j w i b _ (refused_stepped num same no_keys j w i b ready))

pub takes_the_stores_end : InEachRun TakesTheStoresEnd
takes_the_stores_end = in_each_run TakesTheStoresEnd
    (λ num same no_keys j w i b ready r req end reports text p e told. behind num j w i b _ (names_stepped num same no_keys j w i b ready r req end reports text p e told).step)

-- an answer that isn't to the last put does nothing
trims_by : (num : List ℕ → ℕ) (same : IsNumbering num) (j : List ℕ) (w : World) (i : Inv w) (b : Broker) → Ready num j w b → (req end : ℕ) → Stepped num j w i b (on_store_done j req end b)
trims_by num same j w i b ready req end =
    let row = row_of j b.rows in
    cond_both (is_answer req row.putting) (by_rule b j (record row { putting = None }) (on_stored j row.member end row.member.part)) (idle b) (Stepped num j w i b)
    (λ _. (stored_stepped num same j w i b ready (record row { putting = None }) end).step)
    (λ _. quietly num j w i b ready (idle b) refl refl tt tt)

pub trims : InEachRun Trims
trims = in_each_run Trims (λ num same no_keys j w i b ready req end. behind num j w i b _ (trims_by num same j w i b ready req end))

pub sends_again : InEachRun SendsAgain
sends_again = in_each_run SendsAgain (λ num same no_keys j w i b ready hold. behind num j w i b _ (resends_stepped num same j w i b ready hold).step)
