-- How a cluster is carried by a reduced world, for one journal (`Carried`): each broker's member is seen in its node, each
-- message ever sent in the letters, the keys by revision, handover holds, and the acknowledged list follows the journal.
-- From there to `Arrives`, the same behind an event: a broker's step, a crash, and a whole converge. The last two are where
-- the cluster's handover gives the reduced one.
use Rattle.std.proofs.Common.{◌≡◌, ℕ, ◌+◌, ◌<◌, ◌≤◌, ◌⊎◌, List, [], ◌∷◌, ◌++◌, length, refl, ap, sym, ◌∙◌, arith, subst, inl, inr, Option, Some, None, true, false, Bool, zero, suc}
use Rattle.std.specs.Prelude.{if◌then◌else◌, slice_index_or, not, is_some}
use Rattle.std.specs.Str.{bytes_eq}
use Rattle.std.specs.Option.{option_map_or}
use Rattle.std.proofs.lemmas.Bool.{cases_Bool, cases_lt, eqb-true, eqb-false}
use Rattle.std.proofs.lemmas.List.{get_or-set_same, get_or-set_other, append-nil, length-set}
use Rattle.gz_wire.specs.declared.msg.Msg.{Msg}
use Rattle.gz_wire.specs.declared.msg.Send.{Send}
use Rattle.gz_keyspace.specs.declared.table.Held.{Held}
use Rattle.gz_keyspace.specs.Formats.{ids_of}
use Rattle.gz_keyspace.specs.Keys.{held_at, keys_after}
use Rattle.gz_replica.specs.Opening.{route_key}
use Rattle.gz_broker.specs.Brokers.{Broker, RouteHeld, row_of, route_in, route_with}
use Rattle.gz_broker.specs.Step.{sends_of}
use Rattle.gz_cluster.specs.Cluster.{Letter, Cluster, Moved, quiet, runs, is_among, is_member, broker_of, with_broker, letters_from, count_of, broker_moves}
use Rattle.gz_cluster.specs.Events.{Crash, Converge, txns_move, with_goal}
use Rattle.gz_converge.specs.Views.{view_of}
use Rattle.gz_converge.specs.Converged.{Pairs, txns_of}
use Rattle.gz_fragment.specs.Fragments.{covering}
use Rattle.gz_depot.specs.Depot.{index_of}
use Rattle.gz_lineage.specs.Marks.{Mark}
use Rattle.gz_cluster.specs.Ledger.{Ledger, grown_with, grown_all, ledger_after}
use Rattle.gz_cluster.specs.Handover.{changes_of, members_of, adopted_by, adopted_of, IsHandedOver}
use Rattle.gz_lineage.specs.Lists.{In}
use Rattle.gz_lineage.specs.Nodes.{Route}
use Rattle.gz_lineage.specs.World.{World, Event, node_at, run}
use Rattle.gz_lineage.specs.Handover.{HandoverAt, HandoverThroughout}
use Rattle.gz_lineage.proofs.Listed.{each_in, each_append, in_append_left}
use Rattle.gz_lineage.proofs.History.{Grows}
use Rattle.gz_lineage.proofs.Facts.{RouteOk}
use Rattle.gz_lineage.proofs.Invariant.{Inv, all_same, all_low, prefixes, lows}
use Rattle.gz_lineage.proofs.Run.{event_ok}
use Rattle.gz_lineage.proofs.Handover.{calm_from}
use Rattle.gz_carry.specs.Seen.{MemberSeen, MessageSeen}
use Rattle.gz_carry.proofs.Sends.{seen_more, lists_more}
use Rattle.gz_steps.specs.Carrying.{journal_in, SeenOn}
use Rattle.gz_steps.specs.Followed.{LedgerSeen}
use Rattle.gz_steps.proofs.Grown.{still_seen, same_ledger}
use Rattle.gz_steps.specs.Steps.{Ready}
use Rattle.gz_steps.proofs.Stepping.{Stepped}
use Rattle.gz_carried.specs.Keys.{KeysCarried, route_by}
use Rattle.gz_carried.specs.Carried.{Carried, Distinct}
use Rattle.gz_carried.specs.Events.{IsStoreSeen}
use Rattle.gz_carried.proofs.KeyChanges.{KeysStepped, keys_stay, present_view}
use Rattle.gz_carried.proofs.Converges.{OnlyKeys, txns_only, converge_all}
use Rattle.gz_carried.proofs.Moves.{all_moves}
use Rattle.gz_label.specs.declared.keys.Change.{Change}
use Rattle.gz_lineage.proofs.Frame.{grows_refl}
use Rattle.gz_carried.proofs.Handing.{KeysSeen, handed_over, in_map}
use Rattle.gz_carried.proofs.Clusters.{sent_is, with_in, distinct_with}
use Rattle.gz_steps.proofs.Reaching.{in_split}
use Rattle.gz_broker.specs.Brokers as brokers
use Rattle.gz_cluster.specs.Events as events
use Rattle.gz_lineage.specs.Nodes as reduced
use Rattle.gz_lineage.specs.World as world
use Rattle.gz_carry.specs.Seen.{IsNumbering}

-- what a cluster comes to is carried by a later world
pub record Arrives (num : List ℕ → ℕ) (j : List ℕ) (w : World) (i : Inv w) (c : Cluster) (said : List Letter) (l : Ledger) : Type 0 where
  pub events : List Event
  pub throughout : HandoverThroughout events w
  pub world : World
  pub goes : run events w ≡ world
  pub inv : Inv world
  pub grows : Grows i.g inv.g
  pub carried : Carried num j c said l world inv.g.text

-- the broker of a name is one of them, and has that name
pub broker_found : (num : List ℕ → ℕ) → IsNumbering num → (name : List ℕ) (bs : List Broker) (b : Broker) → broker_of name bs ≡ Some b → In b bs × (num name ≡ num b.name)
broker_found num same name [] b e = cc
broker_found num same name (x ∷ xs) b e = elim (cases_Bool (bytes_eq name x.name)) [
  | inl t ↦ (let f : Some x ≡ Some b = subst (λ z. (if z then Some x else broker_of name xs) ≡ Some b) t e in
      let g : x ≡ b = cc in
      (inl (sym g), eqb-true (num name) (num x.name) (sym (same name x.name) ∙ t) ∙ ap (λ (y : Broker). num y.name) g))
  | inr t ↦ (let f : broker_of name xs ≡ Some b = subst (λ z. (if z then Some x else broker_of name xs) ≡ Some b) t e in
      let r = broker_found num same name xs b f in (inr r.0, r.1))
]

seen_at : (num : List ℕ → ℕ) (lists : ℕ → List Mark) (said : List reduced.Letter) (from me to other : List ℕ) (msg body : Msg) → from ≡ me → to ≡ other → msg ≡ body → MessageSeen num lists said me other body → MessageSeen num lists said from to msg
seen_at num lists said from me to other msg body f t m a =
    subst (λ x. MessageSeen num lists said x to msg) (sym f) (subst (λ x. MessageSeen num lists said me x msg) (sym t) (subst (λ x. MessageSeen num lists said me other x) (sym m) a))

beyond : (xs : List Bool) (n : ℕ) → length xs ≤ n → slice_index_or xs n false ≡ false
beyond [] n l = refl
beyond (x ∷ xs) zero l = absurd (omega arith)
beyond (x ∷ xs) (suc n) l = beyond xs n (omega arith)

-- the present route's members are those of the newest reduced one
pub present_at : (num : List ℕ → ℕ) (j : List ℕ) (changes : List Change) (v : World) (k : KeysCarried num j changes v) (r : Route) (rs : List Route) → v.state.routes ≡ r ∷ rs → ((o : Route) → In o v.state.routes → r.epoch ≤ o.epoch → (o.lead ≡ r.lead) × (o.others ≡ r.others)) →
    (name : List ℕ) → In name (members_of (route_by j (keys_after changes))) → In (num name) (r.lead ∷ r.others)
present_at num j changes v k r rs e newest name p = go (route_by j (keys_after changes)) refl p
  where
    revision_is : (h : Option Held) (x : RouteHeld) → route_in h ≡ Some x → x.epoch ≡ option_map_or (λ (y : Held). y.mod_revision) h 0
    revision_is None x f = absurd (cc)
    revision_is (Some h) x f = with_ids (ids_of h.value) f
      where
        with_ids : (ids : Option (List (List ℕ))) → route_with h.mod_revision ids ≡ Some x → x.epoch ≡ h.mod_revision
        with_ids None f = absurd (cc)
        with_ids (Some ms) f = let z : record { members = ms; epoch = h.mod_revision } ≡ x = cc in sym (ap (λ (y : RouteHeld). y.epoch) z)

    there : (x : RouteHeld) (ms : List (List ℕ)) → x.members ≡ ms → route_by j (keys_after changes) ≡ Some x → In name ms → In (num name) (r.lead ∷ r.others)
    there x [] m f q = absurd q
    there x (first ∷ others) m f q =
        let o = present_view num j changes v k x first others f m in
        let n = newest o.route o.among (omega (arith, k.late, ap world.latest e, o.at, revision_is (held_at (route_key j) (keys_after changes)) x f)) in
        subst (λ y. In (num name) (y ∷ r.others)) (sym o.leads ∙ n.0) (subst (λ y. In (num name) (num first ∷ y)) (sym o.follow ∙ n.1) (in_map num name (first ∷ others) q))

    go : (o : Option RouteHeld) → route_by j (keys_after changes) ≡ o → In name (members_of (route_by j (keys_after changes))) → In (num name) (r.lead ∷ r.others)
    go None f q = absurd (subst (λ y. In name (members_of y)) f q)
    go (Some x) f q = there x x.members refl f (subst (λ y. In name (members_of y)) f q)

-- ---- the ledger over all brokers

module _ (num : List ℕ → ℕ) (j : List ℕ) (v : World) (k : Inv v) where
  -- where each is seen already
  pub all_stay : (bs : List Broker) → ((b : Broker) → In b bs → MemberSeen num b.name (row_of j b.rows).member (node_at v.state.nodes (num b.name))) → (l : Ledger) → LedgerSeen l v → LedgerSeen (grown_all j l bs) v
  all_stay [] f l s = s
  all_stay (b ∷ bs) f l s = all_stay bs (λ d p. f d (inr p)) (grown_with l (row_of j b.rows).member (row_of j b.rows).member.part) (still_seen num v k (num b.name) b.name (row_of j b.rows).member (f b (inl refl)) l s)

  -- where one has moved from the world before, and each other is seen in both
  pub one_moves : (w : World) (i : Inv w) (new : Broker) (bs : List Broker) → ((b : Broker) → In b bs → MemberSeen num b.name (row_of j b.rows).member (node_at v.state.nodes (num b.name))) →
      ((b : Broker) → In b bs → (b ≡ new) ⊎ MemberSeen num b.name (row_of j b.rows).member (node_at w.state.nodes (num b.name))) →
      ((l : Ledger) → LedgerSeen l w → LedgerSeen (grown_with l (row_of j new.rows).member (row_of j new.rows).member.part) v) → In new bs → (l : Ledger) → LedgerSeen l w → LedgerSeen (grown_all j l bs) v
  one_moves w i new [] f g h p l s = absurd p
  one_moves w i new (b ∷ bs) f g h p l s =
      let moved : b ≡ new → LedgerSeen (grown_all j l (b ∷ bs)) v = λ e. all_stay bs (λ d q. f d (inr q)) (grown_with l (row_of j b.rows).member (row_of j b.rows).member.part)
      (subst (λ (x : Broker). LedgerSeen (grown_with l (row_of j x.rows).member (row_of j x.rows).member.part) v) (sym e) (h l s)) in
      elim (g b (inl refl)) [
        | inl e ↦ moved e
        | inr m ↦ elim p [
          | inl e ↦ moved (sym e)
          | inr q ↦ one_moves w i new bs (λ d x. f d (inr x)) (λ d x. g d (inr x)) h q (grown_with l (row_of j b.rows).member (row_of j b.rows).member.part)
              (still_seen num w i (num b.name) b.name (row_of j b.rows).member m l s)
        ]
      ]

module _ (num : List ℕ → ℕ) (same : IsNumbering num) (j : List ℕ) (c : Cluster) (said : List Letter) (l : Ledger) (w : World) (i : Inv w) (a : Carried num j c said l w i.g.text) where
  -- a running broker is ready for a step
  pub ready_for : (b : Broker) → In b c.brokers → runs c b.name ≡ true → Ready num j w b
  ready_for b here up = record { handed = a.handed; within = a.within b here; running = sym (a.runs b.name (omega (arith, a.within b here, a.many))) ∙ up; member = a.members b here }

  new_in : (new : Broker) (bs : List Broker) (b : Broker) → In b bs → num b.name ≡ num new.name → In new (with_broker new bs)
  new_in new [] b p e = absurd p
  new_in new (x ∷ xs) b p e = elim (cases_Bool (bytes_eq new.name x.name)) [
    | inl t ↦ subst (λ (z : Bool). In new (if z then new ∷ xs else x ∷ with_broker new xs)) (sym t) (inl refl)
    | inr t ↦ subst (λ (z : Bool). In new (if z then new ∷ xs else x ∷ with_broker new xs)) (sym t) (elim p [
      | inl z ↦ absurd (eqb-false (num new.name) (num x.name) (sym (same new.name x.name) ∙ t) (sym e ∙ ap (λ (y : Broker). num y.name) z))
      | inr q ↦ inr (new_in new xs b q e)
    ])
  ]

  -- the whole cluster behind a broker's step
  pub broker_carried : (taken : List Letter) (b : Broker) → In b c.brokers → (out : brokers.Outcome) → Stepped num j w i b out →
      Arrives num j w i (broker_moves taken c out).cluster (said ++ (broker_moves taken c out).said) (ledger_after j l (broker_moves taken c out).cluster)
  broker_carried taken b here out s =
      let v = s.world in
      let named : num out.broker.name ≡ num b.name = ap num s.name in
      let members : (d : Broker) → In d (with_broker out.broker c.brokers) → MemberSeen num d.name (row_of j d.rows).member (node_at v.state.nodes (num d.name)) = λ d p. elim (with_in num same out.broker d c.brokers a.distinct p) [
        | inl e ↦ subst (λ (x : Broker). MemberSeen num x.name (row_of j x.rows).member (node_at v.state.nodes (num x.name))) (sym e)
            (subst (λ n. MemberSeen num n (row_of j out.broker.rows).member (node_at v.state.nodes (num n))) (sym s.name) s.member)
        | inr q ↦ (let z : num d.name ≡ num b.name → ⊥ = λ e. eqb-false (num out.broker.name) (num d.name) (sym (same out.broker.name d.name) ∙ q.1) (named ∙ sym e) in
            subst (λ n. MemberSeen num d.name (row_of j d.rows).member n) (sym (s.others (num d.name) z)) (a.members d q.0))
      ] in
      record {
        events = s.events;
        throughout = calm_from s.events w i a.handed s.calm;
        world = v;
        goes = s.runs;
        inv = s.inv;
        grows = s.grows;
        carried = record {
          members = members;
          within = λ d p. elim (with_in num same out.broker d c.brokers a.distinct p) [
            | inl e ↦ omega (arith, ap (λ (x : Broker). num x.name) e, named, s.many, a.within b here)
            | inr q ↦ omega (arith, s.many, a.within d q.0)
          ];
          runs = λ name less. a.runs name (omega (arith, s.keys.runs_many, less)) ∙ sym (s.keys.runs (num name));
          many = s.keys.runs_many ∙ a.many ∙ sym s.many;
          distinct = distinct_with num same out.broker c.brokers a.distinct;
          mail = λ x p. elim (in_split x said (letters_from c.sent out.broker.name (count_of out.broker.name c.counts) (sends_of out)) p) [
            | inl p ↦ (λ e. lists_more num i.g.text s.inv.g.text v.said x.from x.to s.grows.text x.msg (seen_more num i.g.text w.said v.said x.from x.to s.said x.msg (a.mail x p e)))
            | inr p ↦ (let y = sent_is c.sent out.broker.name (count_of out.broker.name c.counts) (sends_of out) (λ (z : Send). SeenOn num j s.inv.g.text v.said b.name z.to z.msg)
                (each_append (λ (z : Send). SeenOn num j s.inv.g.text v.said b.name z.to z.msg) out.closings out.sends s.closings s.sends) x p in
                λ e. seen_at num s.inv.g.text v.said x.from b.name x.to y.1.0.to x.msg y.1.0.msg (y.0 ∙ s.name) y.1.1 y.1.2 (y.1.3 (sym (ap journal_in y.1.2) ∙ e)))
          ];
          handed = s.handed;
          keys = keys_stay num j (changes_of c) w v i s.keys s.said a.keys;
          ledger = one_moves num j v s.inv w i out.broker (with_broker out.broker c.brokers) members
              (λ d p. elim (with_in num same out.broker d c.brokers a.distinct p) [ inl e ↦ inl e | inr q ↦ inr (a.members d q.0) ])
              s.ledger (new_in out.broker c.brokers b here (sym named)) l a.ledger;
        };
      }

  -- ---- handover, of the reduced world

  -- the present route's members are those of the newest reduced one
  pub present_by : (v : World) (k : KeysCarried num j (changes_of c) v) (r : Route) (rs : List Route) → v.state.routes ≡ r ∷ rs → ((o : Route) → In o v.state.routes → r.epoch ≤ o.epoch → (o.lead ≡ r.lead) × (o.others ≡ r.others)) →
      (name : List ℕ) → In name (members_of (route_by j (keys_after (changes_of c)))) → In (num name) (r.lead ∷ r.others)
  present_by v k r rs e newest name p = present_at num j (changes_of c) v k r rs e newest name p

  -- of what is known, that of the greatest epoch is the newest
  newest_now : (r : Route) (rs : List Route) → w.state.routes ≡ r ∷ rs → (o : Route) → In o w.state.routes → r.epoch ≤ o.epoch → (o.lead ≡ r.lead) × (o.others ≡ r.others)
  newest_now r rs e o p l =
      let rk : RouteOk i.K r = each_in (RouteOk i.K) w.state.routes r i.routes (subst (λ y. In r y) (sym e) (inl refl)) in
      let ok : RouteOk i.K o = each_in (RouteOk i.K) w.state.routes o i.routes p in
      let same_epoch : o.epoch ≡ r.epoch = omega (arith, (i.global.known o.epoch ok.known).1, i.latest, ap world.latest e, l) in
      (sym ok.lead ∙ ap i.K.lead same_epoch ∙ rk.lead, sym ok.others ∙ ap i.K.others same_epoch ∙ rk.others)

  present_now : (r : Route) (rs : List Route) → w.state.routes ≡ r ∷ rs → (name : List ℕ) → In name (members_of (route_by j (keys_after (changes_of c)))) → In (num name) (r.lead ∷ r.others)
  present_now r rs e name p = present_at num j (changes_of c) w a.keys r rs e (newest_now r rs e) name p

  adopted_here : (name : List ℕ) → (adopted_of j c name ≤ (node_at w.state.nodes (num name)).adopted) × (0 < adopted_of j c name → num name < length w.state.nodes)
  adopted_here name = go (broker_of name c.brokers) refl
    where
      go : (o : Option Broker) → broker_of name c.brokers ≡ o → (adopted_by j o ≤ (node_at w.state.nodes (num name)).adopted) × (0 < adopted_by j o → num name < length w.state.nodes)
      go None f = (omega arith, λ p. absurd (omega arith))
      go (Some b) f = let x = broker_found num same name c.brokers b f in
          (subst (λ n. (row_of j b.rows).member.adopted ≤ (node_at w.state.nodes n).adopted) (sym x.1) (omega (arith, (a.members b x.0).adopted)), λ p. omega (arith, x.1, a.within b x.0))

  -- a member stops
  pub crash_carried : (name : List ℕ) → is_member c name ≡ true → num name < length w.state.runs →
      IsStoreSeen j c l w →
      IsHandedOver j (events.after c (Crash name)) l → Arrives num j w i (events.after c (Crash name)) (said ++ (events.happens c (Crash name)).said) (ledger_after j l (events.after c (Crash name)))
  crash_carried name is less stored h =
      let c1 : Cluster = record c { stopped = name ∷ c.stopped } in
      let w1 = world.happens w (world.Crash (num name)) in
      let stops : events.happens c (Crash name) ≡ quiet [] c1 = ap (λ (b : Bool). if b then quiet [] c1 else quiet [] c) is in
      let runs_now : (other : List ℕ) → num other < length w.state.runs → runs c1 other ≡ slice_index_or w1.state.runs (num other) false = λ other small. elim (cases_Bool (bytes_eq other name)) [
        | inl t ↦ (let z : num other ≡ num name = eqb-true (num other) (num name) (sym (same other name) ∙ t) in
            let off : runs c1 other ≡ false = rw t refl in
            off ∙ sym (rw z (get_or-set_same w.state.runs (num name) false false less)))
        | inr t ↦ (let z : num other ≡ num name → ⊥ = eqb-false (num other) (num name) (sym (same other name) ∙ t) in
            let on : runs c1 other ≡ runs c other = rw t refl in
            on ∙ a.runs other small ∙ sym (get_or-set_other w.state.runs (num name) (num other) false false z))
      ] in
      let journal : w1.journal ≡ w.journal = all_same w.journal w.state.nodes (prefixes w i) in
      let top : w1.top ≡ w.top = all_low w.top w.state.nodes (lows w i) in
      let seen : KeysSeen num j c1 l w1 = record {
        sync = a.keys.sync;
        newest = present_now;
        positive = λ o p. (i.global.known o.epoch (each_in (RouteOk i.K) w.state.routes o i.routes p).known).0;
        routes = λ o p. (a.keys.routes o p).members;
        syncs = λ e p pos. elim p [
          | inl x ↦ a.keys.syncs e (subst (λ y. In y w.syncs) (sym x) (i.syncs w.state.sync (i.sync_is (omega (arith, x))))) pos
          | inr x ↦ a.keys.syncs e x pos
        ];
        top = top ∙ sym a.ledger.top;
        adopted = λ n. (adopted_here n).0;
        stopped = λ n e. elim (cases_lt (num n) (length w.state.runs)) [ inl x ↦ sym (runs_now n x) ∙ e | inr x ↦ beyond w1.state.runs (num n) (omega (arith, x, length-set w.state.runs (num name) false)) ];
        up = λ n p e. sym (runs_now n (omega (arith, (adopted_here n).1 p, a.many))) ∙ e;
        stored = λ f. subst (λ x. length x ≤ length w.state.stored) (sym journal) (stored f);
      } in
      let handed : HandoverAt w1 w1.state.routes = handed_over num j c1 l w1 seen (subst (λ (m : Moved). IsHandedOver j m.cluster l) stops h) in
      let went = event_ok w i (world.Crash (num name)) handed in
      subst (λ (m : Moved). Arrives num j w i m.cluster (said ++ m.said) (ledger_after j l m.cluster)) (sym stops) (subst (λ x. Arrives num j w i c1 x (ledger_after j l c1)) (sym (append-nil said)) (record {
        events = world.Crash (num name) ∷ [];
        throughout = (handed, tt);
        world = w1;
        goes = refl;
        inv = went.after;
        grows = went.grows;
        carried = record {
          members = a.members;
          within = a.within;
          runs = λ other x. runs_now other (omega (arith, x, length-set w.state.runs (num name) false));
          many = length-set w.state.runs (num name) false ∙ a.many;
          distinct = a.distinct;
          mail = λ x p e. lists_more num i.g.text went.after.g.text w1.said x.from x.to went.grows.text x.msg (seen_more num i.g.text w.said w1.said x.from x.to (λ y s. rw append-nil s) x.msg (a.mail x p e));
          handed = handed;
          keys = record {
            numbered = a.keys.numbered;
            small = a.keys.small;
            lone = a.keys.lone;
            sync = a.keys.sync;
            views = λ n x r first others e f. let y = a.keys.views n x r first others e f in record { route = y.route; among = y.among; at = y.at; leads = y.leads; follow = y.follow; synced = elim y.synced [ inl z ↦ inl z | inr z ↦ inr (z.0, inr z.1) ] };
            late = a.keys.late;
            past = a.keys.past;
            routes = λ o p. let y = a.keys.routes o p in record { past = y.past; members = y.members; told = rw append-nil y.told };
            syncs = seen.syncs;
          };
          ledger = all_stay num j w1 went.after c.brokers a.members l (same_ledger l w w1 journal top a.ledger);
        };
      }))

  -- ---- transactions of the key space

  -- where only the keys move
  pub keys_behind : (m : Moved) → OnlyKeys c m → (s : KeysStepped num j (changes_of m.cluster) w i) → Carried num j m.cluster (said ++ m.said) (ledger_after j l m.cluster) s.world s.inv.g.text
  keys_behind m only s =
      let v = s.world in
      let back : (b : Broker) → In b m.cluster.brokers → In b c.brokers = λ b p. subst (λ bs. In b bs) only.brokers p in
      let members : (b : Broker) → In b m.cluster.brokers → MemberSeen num b.name (row_of j b.rows).member (node_at v.state.nodes (num b.name)) = λ b p. subst (λ n. MemberSeen num b.name (row_of j b.rows).member n) (sym (s.nodes (num b.name))) (a.members b (back b p)) in
      record {
        members = members;
        within = λ b p. omega (arith, s.many, a.within b (back b p));
        runs = λ name x. ap (λ names. not (is_among name names)) only.stopped ∙ a.runs name (omega (arith, x, s.runs_many)) ∙ sym (s.runs (num name));
        many = s.runs_many ∙ a.many ∙ sym s.many;
        distinct = subst Distinct (sym only.brokers) a.distinct;
        mail = λ x p. elim (in_split x said m.said p) [
          | inl q ↦ (λ e. lists_more num i.g.text s.inv.g.text v.said x.from x.to s.grows.text x.msg (seen_more num i.g.text w.said v.said x.from x.to s.said x.msg (a.mail x q e)))
          | inr q ↦ (λ e. absurd (let z : None ≡ Some j = sym (each_in (λ (y : Letter). journal_in y.msg ≡ None) m.said x only.said q) ∙ e in cc))
        ];
        handed = s.handed;
        keys = s.carried;
        ledger = all_stay num j v s.inv m.cluster.brokers members l (same_ledger l w v s.journal s.top a.ledger);
      }

  pub keys_carried : (m : Moved) → OnlyKeys c m → KeysStepped num j (changes_of m.cluster) w i → Arrives num j w i m.cluster (said ++ m.said) (ledger_after j l m.cluster)
  keys_carried m only s = record { events = s.events; throughout = s.throughout; world = s.world; goes = s.goes; inv = s.inv; grows = s.grows; carried = keys_behind m only s }

  pub keys_still : (changes : List Change) → KeysCarried num j changes w → KeysStepped num j changes w i
  keys_still changes k = record {
    events = [];
    throughout = tt;
    world = w;
    goes = refl;
    inv = i;
    grows = grows_refl i.g;
    handed = a.handed;
    said = λ x p. p;
    nodes = λ x. refl;
    many = refl;
    runs = λ x. refl;
    runs_many = refl;
    stored = refl;
    journal = refl;
    top = refl;
    carried = k;
  }

  -- A converge, whole. That all bytes are stored has to be known of the reduced world's marks.
  pub converge_carried : (journals shards : Pairs) → IsStoreSeen j c l w →
      IsHandedOver j (events.after c (Converge journals shards)) l →
      Arrives num j w i (events.after c (Converge journals shards)) (said ++ (events.happens c (Converge journals shards)).said) (ledger_after j l (events.after c (Converge journals shards)))
  converge_carried journals shards stored h =
      let c0 = with_goal journals c in
      let ts = txns_of (view_of (keys_after (changes_of c))) journals shards in
      let m = txns_move ts c0 in
      let only0 = txns_only ts c0 in
      let only : OnlyKeys c m = record { brokers = only0.brokers; stopped = only0.stopped; indexes = only0.indexes; said = only0.said } in
      let c1 = m.cluster in
      elim (converge_all num j ts (length (changes_of c)) (all_moves (changes_of c) a.keys.numbered journals shards) c0 (omega arith) w i a.keys) [
        | inl k ↦ keys_carried m only (keys_still (changes_of c1) k)
        | inr x ↦ (let e = world.Converge x.0 x.1 x.2 in
            let v = world.happens w e in
            let k : KeysCarried num j (changes_of c1) v = x.3 in
            let r : Route = record { epoch = world.latest w.state.routes + x.0 + 1; lead = x.1; others = x.2; opened = w.state.sync } in
            let journal : v.journal ≡ w.journal = all_same w.journal w.state.nodes (prefixes w i) in
            let top : v.top ≡ w.top = all_low w.top w.state.nodes (lows w i) in
            let adopted : (name : List ℕ) → adopted_of j c1 name ≡ adopted_of j c name = λ name. ap (λ bs. adopted_by j (broker_of name bs)) only.brokers in
            let runs_same : (name : List ℕ) → runs c1 name ≡ runs c name = λ name. ap (λ names. not (is_among name names)) only.stopped in
            let seen : KeysSeen num j c1 l v = record {
              sync = k.sync;
              newest = λ q rs f. let one : r ≡ q = first_of r q w.state.routes rs f in
                  present_at num j (changes_of c1) v k q rs f (λ o p y. elim p [
                    | inl z ↦ (ap (λ (t : Route). t.lead) (z ∙ one), ap (λ (t : Route). t.others) (z ∙ one))
                    | inr z ↦ absurd (let ok : RouteOk i.K o = each_in (RouteOk i.K) w.state.routes o i.routes z in
                        omega (arith, (i.global.known o.epoch ok.known).1, i.latest, y, ap (λ (t : Route). t.epoch) one))
                  ]);
              positive = λ o p. elim p [ inl z ↦ omega (arith, ap (λ (t : Route). t.epoch) z) | inr z ↦ (i.global.known o.epoch (each_in (RouteOk i.K) w.state.routes o i.routes z).known).0 ];
              routes = λ o p. (k.routes o p).members;
              syncs = k.syncs;
              top = top ∙ sym a.ledger.top;
              stopped = λ n f. elim (cases_lt (num n) (length w.state.runs)) [ inl y ↦ sym (a.runs n y) ∙ sym (runs_same n) ∙ f | inr y ↦ beyond w.state.runs (num n) y ];
              up = λ n p f. sym (a.runs n (omega (arith, (adopted_here n).1 (omega (arith, p, adopted n)), a.many))) ∙ sym (runs_same n) ∙ f;
              adopted = λ n. omega (arith, adopted n, (adopted_here n).0);
              stored = λ f. subst (λ y. length y ≤ length w.state.stored) (sym journal) (stored (λ offset less. ap (λ ix. is_some (covering offset (index_of j ix))) (sym only.indexes) ∙ f offset less));
            } in
            let handed : HandoverAt v v.state.routes = handed_over num j c1 l v seen h in
            let went = event_ok w i e handed in
            keys_carried m only (record {
              events = e ∷ [];
              throughout = (handed, tt);
              world = v;
              goes = refl;
              inv = went.after;
              grows = went.grows;
              handed = handed;
              said = λ y p. in_append_left w.said (world.step w e).sends y p;
              nodes = λ y. refl;
              many = refl;
              runs = λ y. refl;
              runs_many = refl;
              stored = refl;
              journal = journal;
              top = top;
              carried = k;
            }))
      ]
    where
      first_of : (r q : Route) (rs qs : List Route) → r ∷ rs ≡ q ∷ qs → r ≡ q
      first_of r q rs qs e = cc
