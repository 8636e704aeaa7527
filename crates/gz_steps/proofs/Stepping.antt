-- What a broker's step comes to in the reduced world (`Stepped`): a later world with its invariant, in which handover holds,
-- more is said, only this broker's node has moved, what it sent is seen, and the acknowledged list follows the journal. So
-- a step that is many, as a message with many changes of the keys, is one induction (`one_then`).
use Rattle.std.proofs.Common.{◌≡◌, ℕ, List, [], ◌∷◌, ◌++◌, length, refl, ap, sym, ◌∙◌, arith, subst, inl, inr, true, false}
use Rattle.std.specs.Prelude.{slice_index_or}
use Rattle.gz_wire.specs.declared.msg.Send.{Send}
use Rattle.gz_broker.specs.Brokers.{Broker, row_of}
use Rattle.gz_broker.specs.Taking.{before}
use Rattle.gz_lineage.specs.Prefix.{IsPrefix}
use Rattle.gz_lineage.specs.Marks.{Mark}
use Rattle.gz_lineage.specs.Lists.{In}
use Rattle.gz_lineage.specs.World.{World, Event, node_at, happens, run}
use Rattle.gz_lineage.specs.Handover.{HandoverAt, CalmThroughout}
use Rattle.gz_lineage.proofs.Safe.{run_append}
use Rattle.gz_lineage.proofs.Frame.{grows_trans, grows_refl}
use Rattle.gz_lineage.proofs.History.{Grows}
use Rattle.gz_lineage.proofs.Listed.{each_append, each_map}
use Rattle.gz_lineage.proofs.Invariant.{Inv}
use Rattle.gz_carry.specs.Seen.{MemberSeen}
use Rattle.gz_carry.proofs.Sends.{seen_more, lists_more}
use Rattle.gz_steps.specs.Carrying.{SeenOn, AllSeen}
use Rattle.gz_cluster.specs.Ledger.{Ledger, grown_with}
use Rattle.gz_steps.specs.Followed.{LedgerSeen}
use Rattle.gz_steps.specs.Steps.{SameKeys, Ready}
use Rattle.gz_steps.proofs.Grown.{still_seen}
use Rattle.gz_broker.specs.Brokers as brokers
use Rattle.gz_lineage.specs.Nodes as reduced

pub same_keys : (w : World) → SameKeys w w
same_keys w = record { routes = refl; sync = refl; stored = refl; runs = λ x. refl; runs_many = refl; syncs = λ e k. inl k; kept = λ e k. k }

pub same_trans : (u v w : World) → SameKeys u v → SameKeys v w → SameKeys u w
same_trans u v w a b = record {
  routes = b.routes ∙ a.routes;
  sync = b.sync ∙ a.sync;
  stored = b.stored ∙ a.stored;
  runs = λ x. b.runs x ∙ a.runs x;
  runs_many = b.runs_many ∙ a.runs_many;
  syncs = λ e k. elim (b.syncs e k) [ inl x ↦ a.syncs e x | inr x ↦ inr (x ∙ a.sync) ];
  kept = λ e k. b.kept e (a.kept e k);
}

-- events that end no handover, and then others
pub calm_append : (es fs : List Event) (w : World) → CalmThroughout es w → CalmThroughout fs (run es w) → CalmThroughout (es ++ fs) w
calm_append [] fs w a b = b
calm_append (e ∷ es) fs w a b = (a.0, calm_append es fs (happens w e) a.1 b)

-- they stay seen when more is said, and the lists of epochs get longer
pub all_more : (num : List ℕ → ℕ) (j : List ℕ) (lists more : ℕ → List Mark) (said others : List reduced.Letter) (me : List ℕ) → ((e : ℕ) → IsPrefix (lists e) (more e)) → ((x : reduced.Letter) → In x said → In x others) →
    (sends : List Send) → AllSeen num j lists said me sends → AllSeen num j more others me sends
all_more num j lists more said others me f g sends a = each_map {P = λ (s : Send). SeenOn num j lists said me s.to s.msg} {Q = λ (s : Send). SeenOn num j more others me s.to s.msg} (λ s x e. lists_more num lists more others me s.to f s.msg (seen_more num lists said others me s.to g s.msg (x e))) sends a

pub record Stepped (num : List ℕ → ℕ) (j : List ℕ) (w : World) (i : Inv w) (b : Broker) (out : brokers.Outcome) : Type 0 where
  pub events : List Event
  pub calm : CalmThroughout events w
  pub world : World
  pub runs : run events w ≡ world
  pub inv : Inv world
  pub grows : Grows i.g inv.g
  pub handed : HandoverAt world world.state.routes
  pub said : (x : reduced.Letter) → In x w.said → In x world.said
  pub keys : SameKeys w world
  pub others : (x : ℕ) → (x ≡ num b.name → ⊥) → node_at world.state.nodes x ≡ node_at w.state.nodes x
  pub many : length world.state.nodes ≡ length w.state.nodes
  pub name : out.broker.name ≡ b.name
  pub member : MemberSeen num b.name (row_of j out.broker.rows).member (node_at world.state.nodes (num b.name))
  pub closings : AllSeen num j inv.g.text world.said b.name out.closings
  pub sends : AllSeen num j inv.g.text world.said b.name out.sends
  pub ledger : (l : Ledger) → LedgerSeen l w → LedgerSeen (grown_with l (row_of j out.broker.rows).member (row_of j out.broker.rows).member.part) world

-- one that adds nothing to the journal
pub record StillStepped (num : List ℕ → ℕ) (j : List ℕ) (w : World) (i : Inv w) (b : Broker) (out : brokers.Outcome) : Type 0 where
  pub step : Stepped num j w i b out
  pub still : (l : Ledger) → LedgerSeen l w → LedgerSeen l step.world

module _ (num : List ℕ → ℕ) (j : List ℕ) (w : World) (i : Inv w) (b : Broker) (ready : Ready num j w b) where
  pub ready_after : (out : brokers.Outcome) (s : Stepped num j w i b out) → Ready num j s.world out.broker
  ready_after out s =
      let same : num out.broker.name ≡ num b.name = ap num s.name in
      record {
        handed = s.handed;
        within = omega (arith, same, s.many, ready.within);
        running = subst (λ n. slice_index_or s.world.state.runs (num n) false ≡ true) (sym s.name) (s.keys.runs (num b.name) ∙ ready.running);
        member = subst (λ n. MemberSeen num n (row_of j out.broker.rows).member (node_at s.world.state.nodes (num n))) (sym s.name) s.member;
      }

  -- nothing of this journal happens
  pub quietly : (out : brokers.Outcome) → out.broker.name ≡ b.name → (row_of j out.broker.rows).member ≡ (row_of j b.rows).member → AllSeen num j i.g.text w.said b.name out.closings → AllSeen num j i.g.text w.said b.name out.sends →
      Stepped num j w i b out
  quietly out n m c s = record {
    events = [];
    calm = tt;
    world = w;
    runs = refl;
    inv = i;
    grows = grows_refl i.g;
    handed = ready.handed;
    said = λ x k. k;
    keys = same_keys w;
    others = λ x d. refl;
    many = refl;
    name = n;
    member = subst (λ x. MemberSeen num b.name x (node_at w.state.nodes (num b.name))) (sym m) ready.member;
    closings = c;
    sends = s;
    ledger = λ l x. subst (λ y. LedgerSeen (grown_with l y y.part) w) (sym m) (still_seen num w i (num b.name) b.name (row_of j b.rows).member ready.member l x);
  }

  pub stilly : (out : brokers.Outcome) → out.broker.name ≡ b.name → (row_of j out.broker.rows).member ≡ (row_of j b.rows).member → AllSeen num j i.g.text w.said b.name out.closings → AllSeen num j i.g.text w.said b.name out.sends →
      StillStepped num j w i b out
  unfolding quietly
  stilly out n m c s = record { step = quietly out n m c s; still = λ l x. x }

-- one step, and then another
pub one_then : (num : List ℕ → ℕ) (j : List ℕ) (w : World) (i : Inv w) (b : Broker) (a c : brokers.Outcome) (s : StillStepped num j w i b a) → Stepped num j s.step.world s.step.inv a.broker c → Stepped num j w i b (before a c)
one_then num j w i b a c first t =
    let s = first.step in
    let up = all_more num j s.inv.g.text t.inv.g.text s.world.said t.world.said b.name t.grows.text t.said in
    let here = λ (ss : List Send) (x : AllSeen num j t.inv.g.text t.world.said a.broker.name ss). subst (λ n. AllSeen num j t.inv.g.text t.world.said n ss) s.name x in
    record {
      events = s.events ++ t.events;
      calm = calm_append s.events t.events w s.calm (subst (λ v. CalmThroughout t.events v) (sym s.runs) t.calm);
      runs = run_append s.events t.events w ∙ ap (run t.events) s.runs ∙ t.runs;
      world = t.world;
      inv = t.inv;
      grows = grows_trans s.grows t.grows;
      handed = t.handed;
      said = λ x k. t.said x (s.said x k);
      keys = same_trans w s.world t.world s.keys t.keys;
      others = λ x d. t.others x (λ e. d (e ∙ ap num s.name)) ∙ s.others x d;
      many = t.many ∙ s.many;
      name = t.name ∙ s.name;
      member = subst (λ n. MemberSeen num n (row_of j c.broker.rows).member (node_at t.world.state.nodes (num n))) s.name t.member;
      closings = each_append (λ (x : Send). SeenOn num j t.inv.g.text t.world.said b.name x.to x.msg) a.closings c.closings (up a.closings s.closings) (here c.closings t.closings);
      sends = each_append (λ (x : Send). SeenOn num j t.inv.g.text t.world.said b.name x.to x.msg) a.sends c.sends (up a.sends s.sends) (here c.sends t.sends);
      ledger = λ l x. t.ledger l (first.still l x);
    }

pub still_then : (num : List ℕ → ℕ) (j : List ℕ) (w : World) (i : Inv w) (b : Broker) (a c : brokers.Outcome) (s : StillStepped num j w i b a) → StillStepped num j s.step.world s.step.inv a.broker c → StillStepped num j w i b (before a c)
unfolding one_then
still_then num j w i b a c s t = record { step = one_then num j w i b a c s t.step; still = λ l x. t.still l (s.still l x) }
