-- What a primary says again, and what it tells when the store has what it put: in the reduced world it says it again too, by
-- one event for what it asks or tells, and one for each entry that it may give again. Neither moves a node.
use Rattle.std.proofs.Common.{◌≡◌, ℕ, ◌+◌, List, [], ◌∷◌, ◌++◌, length, refl, ap, sym, ◌∙◌, subst, inl, inr, zero, suc, false}
use Rattle.std.specs.Prelude.{slice_index_or}
use Rattle.gz_wire.specs.declared.msg.Send.{Send}
use Rattle.gz_replica.specs.Member.{Member}
use Rattle.gz_replica.specs.Primary as primary
use Rattle.gz_replica.specs.Resending.{resent}
use Rattle.gz_broker.specs.Brokers.{Broker, Row, row_of, spec_of}
use Rattle.gz_broker.specs.Brokers as brokers
use Rattle.gz_broker.specs.Closing.{by_rule, has_fragment, putting}
use Rattle.gz_broker.specs.Persisting.{puts, puts_again}
use Rattle.gz_broker.specs.Resuming.{resends}
use Rattle.gz_replica.specs.declared.part.Part as full_parts
use Rattle.gz_replica.specs.declared.part.Part.TheVariants as full_part
use Rattle.std.proofs.lemmas.Bool.{cond_both}
use Rattle.gz_lineage.specs.Lists.{In}
use Rattle.gz_lineage.specs.Nodes as reduced
use Rattle.gz_lineage.specs.Rules as rules
use Rattle.gz_lineage.specs.World as worlds
use Rattle.gz_lineage.specs.World.{World, node_at}
use Rattle.gz_lineage.specs.Handover.{IsCalm, CalmThroughout, HandoverAt}
use Rattle.gz_lineage.proofs.Frame.{grows_refl, grows_trans}
use Rattle.gz_lineage.proofs.History.{Grows}
use Rattle.gz_lineage.proofs.Listed.{in_append_left}
use Rattle.gz_lineage.proofs.Invariant.{Inv, all_same, all_low, prefixes, lows}
use Rattle.gz_lineage.proofs.Run.{event_ok}
use Rattle.gz_lineage.proofs.Handover.{calm_step}
use Rattle.gz_lineage.proofs.Safe.{run_append}
use Rattle.gz_carry.specs.Carried.{HoldTheHead, all_given}
use Rattle.gz_carry.specs.Seen.{IsNumbering, MemberSeen}
use Rattle.gz_carry.proofs.Primary.{on_stored_seen}
use Rattle.gz_carry.proofs.Resending.{resending_seen}
use Rattle.gz_carry.proofs.Sends.{in_right}
use Rattle.gz_steps.proofs.Reaching.{history, node_now, in_split}
use Rattle.gz_steps.specs.Carrying.{AllSeen}
use Rattle.gz_steps.proofs.Rules.{row_put, each_on, by_rule_is}
use Rattle.gz_steps.proofs.Grown.{still_seen, same_ledger}
use Rattle.gz_steps.specs.Steps.{Ready, SameKeys}
use Rattle.gz_steps.proofs.Stepping.{StillStepped, stilly, still_then, ready_after, same_keys, same_trans, calm_append, all_more}

-- a later world in which these letters have been said, and no node has moved
pub record Saying (w : World) (i : Inv w) (letters : List reduced.Letter) : Type 0 where
  pub events : List worlds.Event
  pub calm : CalmThroughout events w
  pub world : World
  pub runs : worlds.run events w ≡ world
  pub inv : Inv world
  pub grows : Grows i.g inv.g
  pub handed : HandoverAt world world.state.routes
  pub said : (x : reduced.Letter) → In x w.said → In x world.said
  pub new : (x : reduced.Letter) → In x letters → In x world.said
  pub nodes : world.state.nodes ≡ w.state.nodes
  pub keys : SameKeys w world
  pub journal : world.journal ≡ w.journal
  pub top : world.top ≡ w.top

-- nothing is said
says_nothing : (w : World) (i : Inv w) → HandoverAt w w.state.routes → Saying w i []
says_nothing w i h = record {
  events = [];
  calm = tt;
  world = w;
  runs = refl;
  inv = i;
  grows = grows_refl i.g;
  handed = h;
  said = λ x k. k;
  new = λ x k. absurd k;
  nodes = refl;
  keys = same_keys w;
  journal = refl;
  top = refl;
}

-- an event that says these and does nothing else
says_by : (w : World) (i : Inv w) → HandoverAt w w.state.routes → (e : worlds.Event) → IsCalm w e → (letters : List reduced.Letter) → worlds.step w e ≡ worlds.says_more w.state letters → Saying w i letters
says_by w i handed e calm letters is =
    let v = worlds.recorded w (worlds.says_more w.state letters) in
    let same : worlds.happens w e ≡ v = ap (worlds.recorded w) is in
    let h = calm_step w i e calm handed in
    let went = event_ok w i e h in
    record {
      events = e ∷ [];
      calm = (calm, tt);
      world = worlds.happens w e;
      runs = refl;
      inv = went.after;
      grows = went.grows;
      handed = h;
      said = λ x p. subst (λ (y : World). In x y.said) (sym same) (in_append_left w.said letters x p);
      new = λ x p. subst (λ (y : World). In x y.said) (sym same) (in_right x w.said letters p);
      nodes = ap (λ (y : World). y.state.nodes) same;
      keys = record {
        routes = ap (λ (y : World). y.state.routes) same;
        sync = ap (λ (y : World). y.state.sync) same;
        stored = ap (λ (y : World). y.state.stored) same;
        runs = λ x. ap (λ (y : World). slice_index_or y.state.runs x false) same;
        runs_many = ap (λ (y : World). length y.state.runs) same;
        syncs = λ x k. elim (subst (λ (y : World). In x y.syncs) same k) [ inl y ↦ inr y | inr y ↦ inl y ];
        kept = λ x k. subst (λ (y : World). In x y.syncs) (sym same) (inr k);
      };
      journal = ap (λ (y : World). y.journal) same ∙ all_same w.journal w.state.nodes (prefixes w i);
      top = ap (λ (y : World). y.top) same ∙ all_low w.top w.state.nodes (lows w i);
    }

-- and then others
says_then : (w : World) (i : Inv w) (xs ys : List reduced.Letter) (a : Saying w i xs) → Saying a.world a.inv ys → Saying w i (xs ++ ys)
says_then w i xs ys a b = record {
  events = a.events ++ b.events;
  calm = calm_append a.events b.events w a.calm (subst (λ v. CalmThroughout b.events v) (sym a.runs) b.calm);
  world = b.world;
  runs = run_append a.events b.events w ∙ ap (worlds.run b.events) a.runs ∙ b.runs;
  inv = b.inv;
  grows = grows_trans a.grows b.grows;
  handed = b.handed;
  said = λ x k. b.said x (a.said x k);
  new = λ x k. elim (in_split x xs ys k) [ inl y ↦ b.said x (a.new x y) | inr y ↦ b.new x y ];
  nodes = b.nodes ∙ a.nodes;
  keys = same_trans w a.world b.world a.keys b.keys;
  journal = b.journal ∙ a.journal;
  top = b.top ∙ a.top;
}

-- what a primary asks or tells
says_again : (w : World) (i : Inv w) (n : ℕ) → HandoverAt w w.state.routes → Saying w i (rules.resent n (node_at w.state.nodes n) (node_at w.state.nodes n).part)
says_again w i n h = says_by w i h (worlds.Resend n) tt (rules.resent n (node_at w.state.nodes n) (node_at w.state.nodes n).part) refl

-- the entries that it may give again, the first so many
gives_again : (w : World) (i : Inv w) (n k : ℕ) → HandoverAt w w.state.routes → Saying w i (all_given n (node_at w.state.nodes n) (node_at w.state.nodes n).part k)
gives_again w i n zero h = says_nothing w i h
gives_again w i n (suc k) h =
    let first = gives_again w i n k h in
    let there = node_at first.world.state.nodes n in
    let here = node_at w.state.nodes n in
    let same : there ≡ here = ap (λ ns. node_at ns n) first.nodes in
    let next : Saying first.world first.inv (rules.given n there k there.part) = says_by first.world first.inv first.handed (worlds.Give n k) tt (rules.given n there k there.part) refl in
    says_then w i (all_given n here here.part k) (rules.given n here k here.part) first
    (subst (λ (x : reduced.Node). Saying first.world first.inv (rules.given n x k x.part)) same next)

module _ (num : List ℕ → ℕ) (same : IsNumbering num) (j : List ℕ) (w : World) (i : Inv w) (b : Broker) (ready : Ready num j w b) where
  abbrev node : reduced.Node
  node = node_at w.state.nodes (num b.name)

  abbrev own : Member
  own = (row_of j b.rows).member

  -- a step of the broker that only says what is said again
  saying_stepped : (letters : List reduced.Letter) (s : Saying w i letters) (out : brokers.Outcome) → out.broker.name ≡ b.name → MemberSeen num b.name (row_of j out.broker.rows).member node →
      AllSeen num j i.g.text letters b.name out.closings → AllSeen num j i.g.text letters b.name out.sends → StillStepped num j w i b out
  saying_stepped letters s out n m c sends =
      let up = λ (ss : List Send) (x : AllSeen num j i.g.text letters b.name ss). all_more num j i.g.text s.inv.g.text letters s.world.said b.name s.grows.text s.new ss x in
      let seen : MemberSeen num b.name (row_of j out.broker.rows).member (node_at s.world.state.nodes (num b.name)) =
      subst (λ ns. MemberSeen num b.name (row_of j out.broker.rows).member (node_at ns (num b.name))) (sym s.nodes) m in
      record {
        step = record {
          events = s.events;
          calm = s.calm;
          world = s.world;
          runs = s.runs;
          inv = s.inv;
          grows = s.grows;
          handed = s.handed;
          said = s.said;
          keys = s.keys;
          others = λ x d. ap (λ ns. node_at ns x) s.nodes;
          many = ap length s.nodes;
          name = n;
          member = seen;
          closings = up out.closings c;
          sends = up out.sends sends;
          ledger = λ l x. still_seen num s.world s.inv (num b.name) b.name (row_of j out.broker.rows).member seen l (same_ledger l w s.world s.journal s.top x);
        };
        still = λ l x. same_ledger l w s.world s.journal s.top x;
      }

  -- the store has what was put: the spool is trimmed, and the head is told again
  pub stored_stepped : (row : Row) (end : ℕ) → StillStepped num j w i b (by_rule b j row (primary.on_stored j own end own.part))
  stored_stepped row end =
      let letters = rules.resent (num b.name) node node.part in
      let x = on_stored_seen num j b.name own node ready.member (history w i) (node_now w i (num b.name)) end in
      let r = by_rule_is num j i.g.text letters b.name b row (primary.on_stored j own end own.part) x.sends in
      saying_stepped letters (says_again w i (num b.name) ready.handed) (by_rule b j row (primary.on_stored j own end own.part)) r.name (subst (λ m. MemberSeen num b.name m node) (sym r.member) x.member) r.closings r.sends

  -- what is sent again by command, where an open primary knows each member to hold what its head covers
  resent_stepped : HoldTheHead node.head node.part → (out : brokers.Outcome) → out.broker.name ≡ b.name → (row_of j out.broker.rows).member ≡ own → out.closings ≡ [] → out.sends ≡ resent j own own.part → StillStepped num j w i b out
  resent_stepped hold out n m c s =
      let asked = rules.resent (num b.name) node node.part in
      let given = all_given (num b.name) node node.part (length node.spool) in
      let first = says_again w i (num b.name) ready.handed in
      let there = node_at first.world.state.nodes (num b.name) in
      let is : there ≡ node = ap (λ ns. node_at ns (num b.name)) first.nodes in
      let next : Saying first.world first.inv given = subst (λ (x : reduced.Node). Saying first.world first.inv (all_given (num b.name) x x.part (length x.spool))) is (gives_again first.world first.inv (num b.name) (length there.spool) first.handed) in
      let seen = resending_seen num j b.name own node ready.member (history w i) (node_now w i (num b.name)) hold in
      saying_stepped (asked ++ given) (says_then w i asked given first next) out n (subst (λ x. MemberSeen num b.name x node) (sym m) ready.member)
      (subst (λ ss. AllSeen num j i.g.text (asked ++ given) b.name ss) (sym c) tt)
      (subst (λ ss. AllSeen num j i.g.text (asked ++ given) b.name ss) (sym s) (each_on num j i.g.text (asked ++ given) b.name (resent j own own.part) seen))

  -- a put again moves no member
  again : (v : World) (k : Inv v) → Ready num j v b → (p : full_parts.Part) → StillStepped num j v k b (puts_again j (row_of j b.rows) p b)
  again v k r (full_part.Open route held) =
      let row = row_of j b.rows in
      cond_both (has_fragment (spec_of j b.mirror) row.member.spool) (puts j row b) (brokers.idle b) (StillStepped num j v k b)
      (λ _. stilly num j v k b r (puts j row b) refl (ap (λ (x : Row). x.member) (row_put j (putting (b.requests + 1) row) b.rows)) tt ((λ e. cc), tt))
      (λ _. stilly num j v k b r (brokers.idle b) refl refl tt tt)
  again v k r p = stilly num j v k b r (brokers.idle b) refl refl tt tt

  -- the command: what isn't answered is sent again, and then a put
  pub resends_stepped : HoldTheHead node.head node.part → StillStepped num j w i b (resends j (row_of j b.rows) b)
  resends_stepped hold =
      let out : brokers.Outcome = record { broker = b; closings = []; sends = resent j own own.part } in
      let first = resent_stepped hold out refl refl refl refl in
      still_then num j w i b out (puts_again j (row_of j b.rows) own.part b) first (again first.step.world first.step.inv (ready_after num j w i b ready out first.step) own.part)
