-- A broker takes answers of the key space and of the store: the sync key is written, and the primary opens; it is refused,
-- and the part closes while the node goes on waiting; the store tells its end.
use Rattle.std.proofs.Common.{◌≡◌, ℕ, ◌+◌, List, [], length, refl, ap, sym, arith, subst, inl, inr, None, true, Bool}
use Rattle.std.specs.Prelude.{if◌then◌else◌, ◌==◌}
use Rattle.std.proofs.lemmas.Bool.{eq-eqb}
use Rattle.gz_wire.specs.declared.msg.Send.{Send}
use Rattle.gz_replica.specs.Member.{Member}
use Rattle.gz_replica.specs.Opening as opening
use Rattle.gz_replica.specs.Slots as full_slots
use Rattle.gz_replica.specs.declared.part.Part as full_parts
use Rattle.gz_replica.specs.declared.part.Part.TheVariants as full_part
use Rattle.gz_replica.specs.declared.part.Route as full_routes
use Rattle.gz_broker.specs.Brokers.{Broker, row_of}
use Rattle.gz_broker.specs.Closing.{ruled}
use Rattle.gz_lineage.specs.Lists.{In}
use Rattle.gz_lineage.specs.Lists as red_lists
use Rattle.gz_lineage.specs.Marks.{Mark, end_of_marks}
use Rattle.gz_lineage.specs.Nodes as reduced
use Rattle.gz_lineage.specs.Rules as rules
use Rattle.gz_lineage.specs.World.{World, node_at}
use Rattle.gz_lineage.proofs.Frame.{grows_refl}
use Rattle.gz_lineage.proofs.Facts.{PartOk}
use Rattle.gz_lineage.proofs.Invariant.{Inv}
use Rattle.gz_carry.specs.Seen.{IsNumbering, PartSeen, MemberSeen, SendsSeen}
use Rattle.gz_carry.proofs.Openings.{on_synced_seen, on_store_end_seen, on_sync_refused_seen}
use Rattle.gz_carry.proofs.Sends.{sends_more}
use Rattle.gz_steps.proofs.Calm.{names_calm}
use Rattle.gz_steps.proofs.Reaching.{history, node_now}
use Rattle.gz_steps.proofs.Rules.{ruled_is}
use Rattle.gz_steps.proofs.Grown.{Growth, JustOpened, still_seen}
use Rattle.gz_steps.specs.Steps.{Ready}
use Rattle.gz_steps.proofs.Stepping.{Stepped, StillStepped, same_keys}
use Rattle.gz_steps.proofs.Delivery.{delivery_stepped, delivery_still}
use Rattle.gz_steps.proofs.Events.{begin_now, calm_now}

module _ (num : List ℕ → ℕ) (same : IsNumbering num) (no_keys : (a : List ℕ) → num a ≡ rules.keys → ⊥) (j : List ℕ)
    (w : World) (i : Inv w) (b : Broker) (ready : Ready num j w b) where
  abbrev own : Member
  own = (row_of j b.rows).member

  abbrev node : reduced.Node
  node = node_at w.state.nodes (num b.name)

  -- the sync key is written: the primary has just opened
  opened_now : (q : reduced.Part) (r : full_routes.Route) (req : ℕ) → node.part ≡ q → PartSeen num b.name node.spool (full_part.Syncing r req) q → PartOk i.K i.g (num b.name) node q → (after : Member) → after.spool.begin ≡ own.spool.begin →
      Growth w i after (rules.on_txn_ok (num b.name) node r.epoch q).node
  opened_now (reduced.Syncing s) r req f seen good after begin =
      let now : (r.epoch == s.epoch) ≡ true = eq-eqb r.epoch s.epoch (sym seen.epoch) in
      let out : reduced.Outcome = record { node = record node { head = length node.spool; part = reduced.Open s (red_lists.all_at (length node.spool) s.others) [] }; sends = rules.to_each (num b.name) (reduced.Head r.epoch (length node.spool)) s.others } in
      let opened : JustOpened w i after out.node = record {
        route = s;
        others = red_lists.all_at (length node.spool) s.others;
        queue = [];
        part = refl;
        whole = refl;
        text = good.whole;
        made = good.everyone.made;
        begin = omega (arith, begin, begin_now num same no_keys j w i b ready b.name);
      } in
      let is : rules.on_txn_ok (num b.name) node r.epoch (reduced.Syncing s) ≡ out =
      ap (λ (t : Bool). if t then out else rules.idle node) now in
      subst (λ (x : reduced.Outcome). Growth w i after x.node) (sym is) (inr (inr opened))
  opened_now reduced.Closed r req f seen good after begin = absurd seen
  opened_now (reduced.Opening s reports names) r req f seen good after begin = absurd seen
  opened_now (reduced.Adopting s reached) r req f seen good after begin = absurd seen
  opened_now (reduced.Open s held queue) r req f seen good after begin = absurd seen

  -- the spool begins where it did
  synced_begin : (p : full_parts.Part) → (opening.on_synced j own p).member.spool.begin ≡ own.spool.begin
  synced_begin (full_part.Syncing r req) = refl
  synced_begin p = refl

  pub synced_stepped : (r : full_routes.Route) (req : ℕ) → own.part ≡ full_part.Syncing r req → In (rules.letter rules.keys (num b.name) (reduced.TxnOk r.epoch)) w.said → Stepped num j w i b (ruled b j (λ n m. opening.on_synced j m m.part))
  synced_stepped r req p ok =
      delivery_stepped num same no_keys j w i b ready rules.keys (reduced.TxnOk r.epoch) (λ n m. opening.on_synced j m m.part)
      (on_synced_seen num j b.name (b.requests + 1) own node ready.member (history w i) (node_now w i (num b.name)) r req p)
      (opened_now node.part r req refl (subst (λ x. PartSeen num b.name node.spool x node.part) p ready.member.part) (i.nodes (num b.name)).part (opening.on_synced j own own.part).member (synced_begin own.part))
      ok

  -- the key space refuses: the node goes on waiting
  pub refused_stepped : Stepped num j w i b (ruled b j (λ n m. opening.on_sync_refused m m.part))
  refused_stepped =
      let step = on_sync_refused_seen num j b.name (b.requests + 1) own node ready.member i.g.text in
      let rule = λ (n : ℕ) (m : Member). opening.on_sync_refused m m.part in
      let l = ruled_is num j i.g.text w.said b.name b rule (none (opening.on_sync_refused own own.part).sends step.sends) in
      record {
        events = [];
        calm = tt;
        runs = refl;
        world = w;
        inv = i;
        grows = grows_refl i.g;
        handed = ready.handed;
        said = λ x k. k;
        keys = same_keys w;
        others = λ x d. refl;
        many = refl;
        name = l.name;
        member = subst (λ m. MemberSeen num b.name m node) (sym l.member) step.member;
        closings = l.closings;
        sends = l.sends;
        ledger = λ x y. still_seen num w i (num b.name) b.name (row_of j (ruled b j rule).broker.rows).member (subst (λ m. MemberSeen num b.name m node) (sym l.member) step.member) x y;
      }
    where
      none : (sends : List Send) → SendsSeen num i.g.text [] b.name sends → SendsSeen num i.g.text w.said b.name sends
      none sends a = sends_more num i.g.text [] w.said b.name (λ l x. absurd x) sends a

  -- The store tells its end, to the request of this part: the primary chooses, or waits on.
  pub names_stepped : (r : full_routes.Route) (req end : ℕ) (reports : full_slots.Slots full_slots.Report) (text : List Mark) → own.part ≡ full_part.Opening r req reports None → end ≡ end_of_marks text → In (rules.letter rules.keys (num b.name) (reduced.Names r.epoch text)) w.said →
      StillStepped num j w i b (ruled b j (λ n m. opening.on_store_end j n m end req m.part))
  names_stepped r req end reports text p e told =
      let calm = names_calm w.top w.journal (num b.name) node (calm_now num same no_keys j w i b ready b.name) r.epoch text node.part in
      delivery_still num same no_keys j w i b ready rules.keys (reduced.Names r.epoch text) (λ n m. opening.on_store_end j n m end req m.part)
      (on_store_end_seen num j b.name (b.requests + 1) own node ready.member (history w i) (node_now w i (num b.name)) end req text e r reports p)
      (inl calm) calm told
