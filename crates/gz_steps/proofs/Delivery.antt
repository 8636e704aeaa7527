-- A broker takes a message of another member, by any rule that is seen. In the reduced world the letter is said again and
-- taken at once: two events, of which neither ends handover, with the flight as before. What is known behind them is packed
-- into `Stepped`. Where no open primary's head rises, the journal stays too (`letter_still`).
use Rattle.std.proofs.Common.{◌≡◌, ℕ, ◌+◌, List, [], ◌∷◌, ◌++◌, length, refl, ap, sym, ◌∙◌, subst, inl, inr, true, false}
use Rattle.std.specs.Prelude.{not, slice_index_or, slice_set}
use Rattle.std.proofs.lemmas.List.{get_or-set_same, get_or-set_other, length-set}
use Rattle.gz_wire.specs.declared.msg.Send.{Send}
use Rattle.gz_replica.specs.Member.{Member}
use Rattle.gz_broker.specs.Brokers.{Broker, row_of}
use Rattle.gz_broker.specs.Closing.{ruled}
use Rattle.gz_lineage.specs.Prefix.{IsPrefix}
use Rattle.gz_lineage.specs.Marks.{Mark}
use Rattle.gz_lineage.specs.Lists.{In}
use Rattle.gz_lineage.specs.World.{World, node_at}
use Rattle.gz_lineage.proofs.Frame.{grows_trans}
use Rattle.gz_lineage.proofs.History.{Keys, Ghost, Grows}
use Rattle.gz_lineage.proofs.Facts.{Global, NodeOk, LetterOk}
use Rattle.gz_lineage.proofs.Listed.{each_map, each_in, in_last, in_append_left}
use Rattle.gz_lineage.proofs.Invariant.{Inv, all_same, all_low, lows, prefixes}
use Rattle.gz_lineage.proofs.Run.{event_ok}
use Rattle.gz_lineage.proofs.Prefixes.{pre_refl}
use Rattle.gz_lineage.proofs.Handover.{calm_step}
use Rattle.gz_carry.specs.Seen.{MemberSeen, SendsSeen, StepSeen}
use Rattle.gz_carry.proofs.Sends.{in_right, lists_more}
use Rattle.gz_carry.specs.Taking.{CanCome, said_again}
use Rattle.gz_steps.proofs.Reaching.{said_before, comes_by}
use Rattle.gz_carry.proofs.Redelivery.{delivered_last, brokers_take}
use Rattle.gz_steps.specs.Carrying.{AllSeen}
use Rattle.gz_steps.proofs.Rules.{Ruled, ruled_is}
use Rattle.gz_steps.specs.Steps.{Ready}
use Rattle.gz_steps.proofs.Stepping.{Stepped, StillStepped, all_more, stilly}
use Rattle.gz_cluster.specs.Ledger.{Ledger, grown_with}
use Rattle.gz_steps.specs.Followed.{LedgerSeen}
use Rattle.gz_steps.proofs.Grown.{Growth, growth_seen, same_ledger, calm_same}
use Rattle.gz_steps.proofs.Calm.{step_grows, IsCalmNode}
use Rattle.gz_replica.specs.Member as member
use Rattle.gz_broker.specs.Brokers as brokers
use Rattle.gz_lineage.specs.Nodes as reduced
use Rattle.gz_lineage.specs.Rules as rules
use Rattle.gz_lineage.specs.World as world
use Rattle.gz_lineage.specs.Handover as premise
use Rattle.gz_carry.specs.Seen.{IsNumbering}

-- what a rule's outcome shows, where the lists of epochs are these
pub record Shown (num : List ℕ → ℕ) (j : List ℕ) (lists : ℕ → List Mark) (b : Broker) (out : brokers.Outcome) (red : reduced.Outcome) (grows : Member → reduced.Node → Type 0) : Type 0 where
  pub after : Member
  pub growth : grows after red.node
  pub member : MemberSeen num b.name after red.node
  pub ruled : Ruled num j lists red.sends b.name b after out

module _ (num : List ℕ → ℕ) (same : IsNumbering num) (no_keys : (a : List ℕ) → num a ≡ rules.keys → ⊥) (j : List ℕ)
    (w : World) (i : Inv w) (b : Broker) (ready : Ready num j w b)
    (from : ℕ) (body : reduced.Message) (first : world.Event) (kind : premise.IsCalm w first) (first_is : world.happens w first ≡ said_again w (rules.letter from (num b.name) body))
    (out : brokers.Outcome)
    (shown : (K : Keys) (g : Ghost) → ((e : ℕ) → IsPrefix (i.g.text e) (g.text e)) → Global K g →
    let red = rules.take_message (num b.name) (node_at w.state.nodes (num b.name)) from body in NodeOk K g (num b.name) red.node → Shown num j g.text b out red (Growth w i)) where
  pub letter_stepped : Stepped num j w i b out
  letter_stepped =
      let node = node_at w.state.nodes (num b.name) in
      let letter = rules.letter from (num b.name) body in
      let events = first ∷ world.Deliver (length w.state.flight) ∷ [] in
      let h1 = calm_step w i first kind ready.handed in
      let w1 = world.happens w first in
      let i1 = event_ok w i first h1 in
      let h2 = calm_step w1 i1.after (world.Deliver (length w.state.flight)) tt h1 in
      let i2 = event_ok w1 i1.after (world.Deliver (length w.state.flight)) h2 in
      let w2 = world.run events w in
      let grows : Grows i.g i2.after.g = grows_trans i1.grows i2.grows in
      let red = rules.take_message (num b.name) node from body in
      let v = world.recorded (said_again w letter) (world.step_node (said_again w letter).state w.state.flight letter red) in
      let comes : w2 ≡ v = delivered_last w letter first first_is ∙ ap (λ x. world.recorded (said_again w letter) x) (brokers_take (said_again w letter) letter w.state.flight (no_keys b.name) ready.running ready.within) in
      let node_same : (x : ℕ) → node_at w2.state.nodes x ≡ node_at (slice_set w.state.nodes (num b.name) red.node) x = λ x. ap (λ (y : World). node_at y.state.nodes x) comes in
      let node_is : node_at w2.state.nodes (num b.name) ≡ red.node = node_same (num b.name) ∙ get_or-set_same w.state.nodes (num b.name) red.node world.fresh ready.within in
      let s : Shown num j i2.after.g.text b out red (Growth w i) = shown i2.after.K i2.after.g grows.text i2.after.global (subst (λ n. NodeOk i2.after.K i2.after.g (num b.name) n) node_is (i2.after.nodes (num b.name))) in
      let r = s.ruled in
      let more_said : (x : reduced.Letter) → In x w.said → In x w2.said = λ x s. subst (λ (ls : List reduced.Letter). In x ls) (sym (ap (λ (y : World). y.said) comes)) (in_append_left (w.said ++ letter ∷ []) red.sends x (in_append_left w.said (letter ∷ []) x s)) in
      let new_said : (x : reduced.Letter) → In x red.sends → In x w2.said = λ x s. subst (λ (ls : List reduced.Letter). In x ls) (sym (ap (λ (y : World). y.said) comes)) (in_right x (w.said ++ letter ∷ []) red.sends s) in
      let up = λ (ss : List Send) (x : AllSeen num j i2.after.g.text red.sends b.name ss). all_more num j i2.after.g.text i2.after.g.text red.sends w2.said b.name (λ e. pre_refl (i2.after.g.text e)) new_said ss x in
      record {
        events = events;
        calm = (kind, (tt, tt));
        runs = refl;
        world = w2;
        inv = i2.after;
        grows = grows;
        handed = h2;
        said = more_said;
        keys = record {
          routes = ap (λ (y : World). y.state.routes) comes;
          sync = ap (λ (y : World). y.state.sync) comes;
          stored = ap (λ (y : World). y.state.stored) comes;
          runs = λ x. ap (λ (y : World). slice_index_or y.state.runs x false) comes;
          runs_many = ap (λ (y : World). length y.state.runs) comes;
          syncs = λ e k. elim (subst (λ (y : World). In e y.syncs) comes k) [ inl x ↦ inr x | inr x ↦ elim x [ inl y ↦ inr y | inr y ↦ inl y ] ];
          kept = λ e k. subst (λ (y : World). In e y.syncs) (sym comes) (inr (inr k));
        };
        others = λ x d. node_same x ∙ get_or-set_other w.state.nodes (num b.name) x red.node world.fresh d;
        many = ap (λ (y : World). length y.state.nodes) comes ∙ length-set w.state.nodes (num b.name) red.node;
        name = r.name;
        member = subst (λ x. MemberSeen num b.name x (node_at w2.state.nodes (num b.name))) (sym r.member)
            (subst (λ n. MemberSeen num b.name s.after n) (sym node_is) s.member);
        closings = up out.closings r.closings;
        sends = up out.sends r.sends;
        ledger = λ l x.
            let base = said_again w letter in
            let ib : Inv base = subst Inv first_is i1.after in
            let ok : LetterOk ib.K ib.g letter = each_in (LetterOk ib.K ib.g) base.said letter ib.said (in_last w.said letter) in
            let g = step_grows base ib letter w.state.flight ok ready.running ready.within in
            let journal : w2.journal ≡ world.grown w.journal red.node red.node.part = ap (λ (y : World). y.journal) comes ∙ g.0 ∙ ap (λ y. world.grown y red.node red.node.part) (all_same w.journal w.state.nodes (prefixes w i)) in
            let top : w2.top ≡ world.risen w.top red.node.part = ap (λ (y : World). y.top) comes ∙ g.1 ∙ ap (λ y. world.risen y red.node.part) (all_low w.top w.state.nodes (lows w i)) in
            let running : slice_index_or w2.state.runs (num b.name) false ≡ true = ap (λ (y : World). slice_index_or y.state.runs (num b.name) false) comes ∙ ready.running in
            subst (λ y. LedgerSeen (grown_with l y y.part) w2) (sym r.member)
            (growth_seen num w w2 i i2.after grows (num b.name) b.name s.after (subst (λ n. MemberSeen num b.name s.after n) (sym node_is) s.member) (i2.after.gone (num b.name) ∙ ap not running)
            (subst (λ (n : reduced.Node). w2.journal ≡ world.grown w.journal n n.part) (sym node_is) journal) (subst (λ (n : reduced.Node). w2.top ≡ world.risen w.top n.part) (sym node_is) top)
            (subst (λ n. Growth w i s.after n) (sym node_is) s.growth) l x);
      }

  -- where no open primary's head rises
  pub letter_still : (let red = rules.take_message (num b.name) (node_at w.state.nodes (num b.name)) from body in IsCalmNode w.top w.journal red.node red.node.part) → (l : Ledger) → LedgerSeen l w → LedgerSeen l letter_stepped.world
  unfolding letter_stepped
  letter_still calm l x =
      let node = node_at w.state.nodes (num b.name) in
      let letter = rules.letter from (num b.name) body in
      let h1 = calm_step w i first kind ready.handed in
      let i1 = event_ok w i first h1 in
      let w2 = world.run (first ∷ world.Deliver (length w.state.flight) ∷ []) w in
      let red = rules.take_message (num b.name) node from body in
      let v = world.recorded (said_again w letter) (world.step_node (said_again w letter).state w.state.flight letter red) in
      let comes : w2 ≡ v = delivered_last w letter first first_is ∙ ap (λ x. world.recorded (said_again w letter) x) (brokers_take (said_again w letter) letter w.state.flight (no_keys b.name) ready.running ready.within) in
      let base = said_again w letter in
      let ib : Inv base = subst Inv first_is i1.after in
      let ok : LetterOk ib.K ib.g letter = each_in (LetterOk ib.K ib.g) base.said letter ib.said (in_last w.said letter) in
      let g = step_grows base ib letter w.state.flight ok ready.running ready.within in
      let same = calm_same w.top w.journal red.node red.node.part calm in
      same_ledger l w w2 (ap (λ (y : World). y.journal) comes ∙ g.0 ∙ ap (λ y. world.grown y red.node red.node.part) (all_same w.journal w.state.nodes (prefixes w i)) ∙ same.0)
      (ap (λ (y : World). y.top) comes ∙ g.1 ∙ ap (λ y. world.risen y red.node.part) (all_low w.top w.state.nodes (lows w i)) ∙ same.1) x

-- a rule that does nothing
pub idle_ruled : (num : List ℕ → ℕ) (same : IsNumbering num) (j : List ℕ) (w : World) (i : Inv w) (b : Broker) (ready : Ready num j w b) (rule : ℕ → Member → member.Outcome) →
    rule (b.requests + 1) (row_of j b.rows).member ≡ member.idle (row_of j b.rows).member → StillStepped num j w i b (ruled b j rule)
idle_ruled num same j w i b ready rule e =
    let r = ruled_is num j i.g.text w.said b.name b rule (subst (λ (o : member.Outcome). SendsSeen num i.g.text w.said b.name o.sends) (sym e) tt) in
    stilly num j w i b ready (ruled b j rule) r.name (r.member ∙ ap (λ (o : member.Outcome). o.member) e) r.closings r.sends

-- a letter that is said by some event, and a rule of a member that is seen
module _ (num : List ℕ → ℕ) (same : IsNumbering num) (no_keys : (a : List ℕ) → num a ≡ rules.keys → ⊥) (j : List ℕ)
    (w : World) (i : Inv w) (b : Broker) (ready : Ready num j w b)
    (from : ℕ) (body : reduced.Message) (rule : ℕ → Member → member.Outcome)
    (step : StepSeen num i.g.text b.name (rule (b.requests + 1) (row_of j b.rows).member) (rules.take_message (num b.name) (node_at w.state.nodes (num b.name)) from body))
    (growth : Growth w i (rule (b.requests + 1) (row_of j b.rows).member).member (rules.take_message (num b.name) (node_at w.state.nodes (num b.name)) from body).node) where
  pub rule_stepped : (first : world.Event) → premise.IsCalm w first → world.happens w first ≡ said_again w (rules.letter from (num b.name) body) → Stepped num j w i b (ruled b j rule)
  rule_stepped first kind first_is =
      let m = (row_of j b.rows).member in
      letter_stepped num same no_keys j w i b ready from body first kind first_is (ruled b j rule)
      (λ K g more gl ok. let red = rules.take_message (num b.name) (node_at w.state.nodes (num b.name)) from body in record {
        after = (rule (b.requests + 1) m).member;
        member = step.member;
        growth = growth;
        ruled = ruled_is num j g.text red.sends b.name b rule
            (each_map (λ (s : Send) x. lists_more num i.g.text g.text red.sends b.name s.to more s.msg x) (rule (b.requests + 1) m).sends step.sends);
      })

  -- one that was said before
  pub delivery_stepped : In (rules.letter from (num b.name) body) w.said → Stepped num j w i b (ruled b j rule)
  delivery_stepped is_said =
      let first = said_before w (rules.letter from (num b.name) body) is_said in
      rule_stepped first.0 first.1 first.2

  -- one that can come
  pub coming_stepped : CanCome w.said from (num b.name) body → Stepped num j w i b (ruled b j rule)
  coming_stepped comes = let first = comes_by w from (num b.name) body comes in rule_stepped first.0 first.1 first.2

  -- the same, where no open primary's head rises
  pub delivery_still : (let red = rules.take_message (num b.name) (node_at w.state.nodes (num b.name)) from body in IsCalmNode w.top w.journal red.node red.node.part) → In (rules.letter from (num b.name) body) w.said → StillStepped num j w i b (ruled b j rule)
  delivery_still calm is_said =
      let m = (row_of j b.rows).member in
      let first = said_before w (rules.letter from (num b.name) body) is_said in
      let shown = λ (K : Keys) (g : Ghost) (more : (e : ℕ) → IsPrefix (i.g.text e) (g.text e)) (gl : Global K g) (ok : NodeOk K g (num b.name) (rules.take_message (num b.name) (node_at w.state.nodes (num b.name)) from body).node).
      (let red = rules.take_message (num b.name) (node_at w.state.nodes (num b.name)) from body in
      let s : Shown num j g.text b (ruled b j rule) red (Growth w i) = record {
        after = (rule (b.requests + 1) m).member;
        member = step.member;
        growth = growth;
        ruled = ruled_is num j g.text red.sends b.name b rule
            (each_map (λ (s : Send) x. lists_more num i.g.text g.text red.sends b.name s.to more s.msg x) (rule (b.requests + 1) m).sends step.sends);
      } in s) in
      record { step = letter_stepped num same no_keys j w i b ready from body first.0 first.1 first.2 (ruled b j rule) shown; still = letter_still num same no_keys j w i b ready from body first.0 first.1 first.2 (ruled b j rule) shown calm }
