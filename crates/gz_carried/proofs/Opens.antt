-- A broker takes changes of the keys: where it is first in a route that is written, it opens. Its mirror may be late, and then
-- it opens with what the keys had at that revision, as the reduced world's route of that epoch did. The sync key can't have
-- the route's own epoch yet, since then the lead has adopted it and promised it.
use Rattle.std.proofs.Common.{◌≡◌, ℕ, ◌+◌, ◌<◌, ◌≤◌, List, [], ◌∷◌, ◌++◌, length, take, drop, refl, ap, sym, ◌∙◌, arith, subst, inl, inr, Option, Some, None, false, Bool, zero, suc}
use Rattle.std.specs.Prelude.{if◌then◌else◌, nat_lt, ◌==◌, ◌&&◌, slice_get, codes}
use Rattle.std.specs.Str.{bytes_eq}
use Rattle.std.proofs.lemmas.Bool.{cond_both, cases_Bool, eqb-true, ltb-true, and_parts}
use Rattle.std.proofs.lemmas.List.{take-append-drop}
use Rattle.std.specs.Cmp.Lexicographic.{same_text}
use Rattle.gz_label.specs.declared.keys.KeyWrite.{KeyWrite}
use Rattle.gz_label.specs.declared.keys.Change.{Change}
use Rattle.gz_keyspace.specs.Keys.{same_key, KeyMap, held_at, after_writes, IsNumbered}
use Rattle.gz_keyspace.specs.Mirrors.{Mirrored, applied, IsMirrorOf, AreAmong}
use Rattle.gz_keyspace.specs.Formats.{ids_of}
use Rattle.gz_keyspace.proofs.KeyLemmas.{held_at-after_writes}
use Rattle.gz_keyspace.proofs.MirrorLemmas.{mirror_law, revision_at}
use Rattle.gz_carry.proofs.Numbers.{same_bytes}
use Rattle.gz_replica.specs.Member.{Member}
use Rattle.gz_replica.specs.Opening.{route_key, open_route}
use Rattle.gz_broker.specs.Brokers.{Broker, Row, Outcome, idle, spec_of, row_of, route_in, route_with, route_of, sync_of}
use Rattle.gz_broker.specs.Closing.{ruled, by_rule, is_to_put, row_after}
use Rattle.gz_broker.specs.Taking.{routed_journal, opens_at, opens_with, opens_where, opens_by, opens_each, on_change, on_changes, then_do, before}
use Rattle.gz_lineage.specs.Lists.{In, Each}
use Rattle.gz_lineage.specs.Nodes.{Route}
use Rattle.gz_lineage.specs.World.{World, node_at}
use Rattle.gz_lineage.proofs.Facts.{RouteOk, AllAdopted}
use Rattle.gz_lineage.proofs.Listed.{each_in}
use Rattle.gz_lineage.proofs.Invariant.{Inv}
use Rattle.gz_carry.specs.Seen.{RouteSeen}
use Rattle.gz_carry.proofs.Openings.{open_route_seen}
use Rattle.gz_steps.specs.Steps.{Ready}
use Rattle.gz_steps.proofs.Stepping.{StillStepped, stilly, still_then, ready_after}
use Rattle.gz_steps.proofs.Delivery.{delivery_still}
use Rattle.gz_steps.proofs.Events.{calm_now}
use Rattle.gz_steps.proofs.Calm.{changed_calm}
use Rattle.gz_carried.specs.Keys.{IsLone, AreLone, KeysCarried, MirrorOk, route_by, sync_by}
use Rattle.gz_carried.proofs.KeyChanges.{keys_stay}
use Rattle.gz_steps.proofs.Others.{of_each, other_ruled}
use Rattle.gz_replica.specs.Member as member
use Rattle.gz_lineage.specs.Nodes as reduced
use Rattle.gz_lineage.specs.Rules as rules
use Rattle.gz_replica.specs.declared.part.Route as full_routes
use Rattle.gz_carry.specs.Seen.{IsNumbering}

module _ (num : List ℕ → ℕ) (same : IsNumbering num) (no_keys : (a : List ℕ) → num a ≡ rules.keys → ⊥) (j : List ℕ) (changes : List Change) where
  module _ (w : World) (i : Inv w) (k : KeysCarried num j changes w) (b : Broker) (ready : Ready num j w b) (mirror : MirrorOk changes b.mirror) where
    idles : StillStepped num j w i b (idle b)
    idles = stilly num j w i b ready (idle b) refl refl tt tt

    -- the lead of a synced epoch has promised it
    promised_synced : (o : Route) → In o w.state.routes → In o.epoch w.syncs → o.lead ≡ num b.name → o.epoch ≤ (row_of j b.rows).member.promised
    promised_synced o p s l =
        let ok : RouteOk i.K o = each_in (RouteOk i.K) w.state.routes o i.routes p in
        let all : AllAdopted i.K i.g o.epoch = (i.global.synced o.epoch (i.synced_of o.epoch s (i.global.known o.epoch ok.known).0)).1 in
        let lead : i.K.lead o.epoch ≡ num b.name = ok.lead ∙ l in
        let adopted : o.epoch ≤ i.g.adop (num b.name) = subst (λ n. o.epoch ≤ i.g.adop n) lead all.lead.0 in
        let body = (i.nodes (num b.name)).body in
        omega (arith, adopted, body.adopted, body.order, ready.member.promised)

    -- this broker is first in what its mirror has as the route
    pub opens_stepped : (epoch : ℕ) (first : List ℕ) (others : List (List ℕ)) → route_of j b.mirror ≡ Some (record { members = first ∷ others; epoch = epoch }) → StillStepped num j w i b (opens_at j epoch (first ∷ others) b)
    opens_stepped epoch first others is =
        let r : full_routes.Route = record { epoch = epoch; others = others; opened = sync_of j b.mirror } in
        cond_both (bytes_eq first b.name && nat_lt (row_of j b.rows).member.promised epoch) (ruled b j (λ req m. open_route j req m r)) (idle b) (StillStepped num j w i b)
        (λ t. let both = and_parts (bytes_eq first b.name) (nat_lt (row_of j b.rows).member.promised epoch) t in
        let less : (row_of j b.rows).member.promised < epoch = ltb-true (row_of j b.rows).member.promised epoch both.1 in
        let named : num first ≡ num b.name = eqb-true (num first) (num b.name) (sym (same first b.name) ∙ both.0) in
        let x = k.views b.mirror.revision mirror.made (record { members = first ∷ others; epoch = epoch }) first others (sym (ap (route_by j) mirror.keys) ∙ is) refl in
        let o = x.route in
        let lead : o.lead ≡ num b.name = x.leads ∙ named in
        let opened : o.opened ≡ sync_of j b.mirror = elim x.synced [
          | inl y ↦ sym y ∙ sym (ap (sync_by j) mirror.keys)
          | inr y ↦ absurd (let z = promised_synced o x.among y.1 lead in omega (arith, z, x.at, less))
        ] in
        let seen : RouteSeen num b.name r o = record { epoch = x.at; lead = lead; others = x.follow; opened = opened } in
        let told = (k.routes o x.among).told in
        let calm = changed_calm w.top w.journal (num b.name) (node_at w.state.nodes (num b.name)) (calm_now num same no_keys j w i b ready b.name) o in
        delivery_still num same no_keys j w i b ready rules.keys (reduced.Changed o) (λ req m. open_route j req m r)
        (open_route_seen num j b.name (b.requests + 1) (row_of j b.rows).member (node_at w.state.nodes (num b.name)) ready.member i.g.text r o seen less)
        (inl calm) calm
        (subst (λ n. In (rules.letter rules.keys n (reduced.Changed o)) w.said) lead told))
        (λ _. idles)

    other_opens : (l : List ℕ) → bytes_eq j l ≡ false → (epoch : ℕ) (ms : List (List ℕ)) → StillStepped num j w i b (opens_at l epoch ms b)
    other_opens l d epoch [] = idles
    other_opens l d epoch (first ∷ others) =
        cond_both (bytes_eq first b.name && nat_lt (row_of l b.rows).member.promised epoch) (ruled b l (λ req m. open_route l req m (record { epoch = epoch; others = others; opened = sync_of l b.mirror }))) (idle b) (StillStepped num j w i b)
        (λ _. other_ruled num same j l d w i b ready (λ req m. open_route l req m (record { epoch = epoch; others = others; opened = sync_of l b.mirror })) (inr refl, of_each l _ (inl refl) others))
        (λ _. idles)

    -- the write of a route, which the mirror has already
    opens_where_stepped : (epoch : ℕ) (write : KeyWrite) (at : Option (List ℕ)) → routed_journal write.key ≡ at → ((value : List ℕ) → write.value ≡ Some value → write.key ≡ route_key j → route_of j b.mirror ≡ route_with epoch (ids_of value)) →
        (value : Option (List ℕ)) → write.value ≡ value → StillStepped num j w i b (opens_where at epoch value b)
    opens_where_stepped epoch write None e f value v = idles
    opens_where_stepped epoch write (Some l) e f None v = idles
    opens_where_stepped epoch write (Some l) e f (Some text) v = elim (cases_Bool (bytes_eq j l)) [
      | inr d ↦ other (ids_of text) d
      | inl t ↦ (let z : l ≡ j = sym (same_text j l (sym t)) in
          subst (λ x. StillStepped num j w i b (opens_with x epoch (ids_of text) b)) (sym z)
          (ours (ids_of text) (f text v (key_is write.key l e ∙ ap route_key z))))
    ]
      where
        other : (ids : Option (List (List ℕ))) → bytes_eq j l ≡ false → StillStepped num j w i b (opens_with l epoch ids b)
        other None d = idles
        other (Some ms) d = other_opens l d epoch ms

        ours : (ids : Option (List (List ℕ))) → route_of j b.mirror ≡ route_with epoch ids → StillStepped num j w i b (opens_with j epoch ids b)
        ours None r = idles
        ours (Some []) r = idles
        ours (Some (first ∷ others)) r = opens_stepped epoch first others r

        key_is : (key l : List ℕ) → routed_journal key ≡ Some l → key ≡ route_key l
        key_is key l e = elim (cases_Bool (bytes_eq (take 6 key) (codes "route/"))) [
          | inl t ↦ (let g : Some (drop 6 key) ≡ Some l = subst (λ (c : Bool). (if c then Some (drop 6 key) else None) ≡ Some l) t e in
              let y : drop 6 key ≡ l = cc in
              let x : take 6 key ≡ codes "route/" = same_text (take 6 key) (codes "route/") (sym t) in
              sym (take-append-drop 6 key) ∙ ap (λ f. f ++ drop 6 key) x ∙ ap route_key y)
          | inr t ↦ absurd (let g : None ≡ Some l = subst (λ (c : Bool). (if c then Some (drop 6 key) else None) ≡ Some l) t e in cc)
        ]

  module _ (w : World) (i : Inv w) (k : KeysCarried num j changes w) (b : Broker) (ready : Ready num j w b) (mirror : MirrorOk changes b.mirror) where
    -- a change of the keys is taken
    pub change_stepped : (place : ℕ) (c : Change) → slice_get changes place ≡ Some c → IsLone c.writes → StillStepped num j w i b (on_change c b)
    change_stepped place c here lone = elim (cases_Bool (c.revision == b.mirror.revision + 1)) [
      | inr t ↦ subst (λ (x : Bool). StillStepped num j w i b (if x then opens_each c.revision c.writes (record b { mirror = applied c b.mirror }) else idle b)) (sym t) (stilly num j w i b ready (idle b) refl refl tt tt)
      | inl t ↦ (
          let next : applied c b.mirror ≡ record { revision = c.revision; keys = after_writes c.revision b.mirror.keys c.writes } = ap (λ (x : Bool). if x then record { revision = c.revision; keys = after_writes c.revision b.mirror.keys c.writes } else b.mirror) t in
          let given : IsMirrorOf changes (applied c b.mirror) = (mirror_law changes k.numbered).given b.mirror (c ∷ []) mirror.keys ((place, here), tt) in
          let is : c.revision ≡ 0 + place + 1 = revision_at changes 0 place c k.numbered here in
          let there : (applied c b.mirror).revision ≤ length changes = omega (arith, is, ap (λ (m : Mirrored). m.revision) next, within changes place c here) in
          let b1 : Broker = record b { mirror = applied c b.mirror } in
          let ready1 : Ready num j w b1 = record { handed = ready.handed; within = ready.within; running = ready.running; member = ready.member } in
          let ok1 : MirrorOk changes b1.mirror = record { keys = given; made = there } in
          let opens : StillStepped num j w i b1 (opens_each c.revision c.writes b1) = elim lone [
            | inl none ↦ subst (λ o. StillStepped num j w i b1 o) (sym (none_of c.revision c.writes b1 none)) (stilly num j w i b1 ready1 (idle b1) refl refl tt tt)
            | inr one ↦ subst (λ ws. StillStepped num j w i b1 (opens_each c.revision ws b1)) (sym one.1)
                (let first = opens_where_stepped w i k b1 ready1 ok1 c.revision one.0 (routed_journal one.0.key) refl
                (λ value v key. ap (λ (m : Mirrored). route_of j m) next ∙ ap route_in (written c.revision b.mirror.keys c.writes one.0 value one.1 v key)) one.0.value refl in
                let out = opens_by c.revision one.0 b1 in
                still_then num j w i b1 out (idle out.broker) first
                (stilly num j first.step.world first.step.inv out.broker (ready_after num j w i b1 ready1 out first.step) (idle out.broker) refl refl tt tt))
          ] in
          subst (λ (x : Bool). StillStepped num j w i b (if x then opens_each c.revision c.writes b1 else idle b)) (sym t) (as_before b1 opens))
    ]
      where
        within : (xs : List Change) (place : ℕ) (c : Change) → slice_get xs place ≡ Some c → place < length xs
        within [] place c e = absurd (cc)
        within (x ∷ xs) zero c e = omega arith
        within (x ∷ xs) (suc place) c e = omega (arith, within xs place c e)

        none_of : (epoch : ℕ) (ws : List KeyWrite) (d : Broker) → Each (λ (w : KeyWrite). routed_journal w.key ≡ None) ws → opens_each epoch ws d ≡ idle d
        none_of epoch [] d a = refl
        none_of epoch (x ∷ ws) d a = ap (λ o. then_do (opens_where o epoch x.value d) (opens_each epoch ws)) a.0 ∙ ap (λ o. before (idle d) o) (none_of epoch ws d a.1)

        written : (revision : ℕ) (keys : KeyMap) (ws : List KeyWrite) (one : KeyWrite) (value : List ℕ) → ws ≡ one ∷ [] → one.value ≡ Some value → one.key ≡ route_key j →
            held_at (route_key j) (after_writes revision keys ws) ≡ Some (record { value = value; mod_revision = revision })
        written revision keys ws one value e v key =
            ap (λ xs. held_at (route_key j) (after_writes revision keys xs)) e
            ∙ held_at-after_writes revision (route_key j) (one ∷ []) keys
            ∙ ap (λ (x : List ℕ). if same_key x (route_key j) then Rattle.gz_keyspace.specs.Table.prepared_value revision one.value else held_at (route_key j) keys) key
            ∙ ap (λ (x : Bool). if x then Rattle.gz_keyspace.specs.Table.prepared_value revision one.value else held_at (route_key j) keys) (same_bytes (route_key j))
            ∙ ap (Rattle.gz_keyspace.specs.Table.prepared_value revision) v

        as_before : (d : Broker) → StillStepped num j w i (record b { mirror = applied c b.mirror }) (opens_each c.revision c.writes (record b { mirror = applied c b.mirror })) → StillStepped num j w i b (opens_each c.revision c.writes (record b { mirror = applied c b.mirror }))
        as_before d s = record { step = record { events = s.step.events; calm = s.step.calm; runs = s.step.runs; world = s.step.world; inv = s.step.inv; grows = s.step.grows; handed = s.step.handed; said = s.step.said; keys = s.step.keys; others = s.step.others; many = s.step.many; name = s.step.name; member = s.step.member; closings = s.step.closings; sends = s.step.sends; ledger = s.step.ledger }; still = s.still }

-- ---- the mirror behind a step

same_mirror : (b : Broker) (l : List ℕ) (row : Row) (out : member.Outcome) → (by_rule b l row out).broker.mirror ≡ b.mirror
same_mirror b l row out = cond_both (is_to_put (spec_of l b.mirror) (row_after row out.member).member.part row.member.spool.head (row_after row out.member)) _ _ (λ (o : Outcome). o.broker.mirror ≡ b.mirror) (λ _. refl) (λ _. refl)

pub ruled_mirror : (b : Broker) (l : List ℕ) (rule : ℕ → Member → member.Outcome) → (ruled b l rule).broker.mirror ≡ b.mirror
ruled_mirror b l rule = same_mirror b l (row_of l b.rows) (rule (b.requests + 1) (row_of l b.rows).member)

pub opens_mirror : (l : List ℕ) (epoch : ℕ) (ms : List (List ℕ)) (b : Broker) → (opens_at l epoch ms b).broker.mirror ≡ b.mirror
opens_mirror l epoch [] b = refl
opens_mirror l epoch (first ∷ others) b = cond_both (bytes_eq first b.name && nat_lt (row_of l b.rows).member.promised epoch) _ _ (λ (o : Outcome). o.broker.mirror ≡ b.mirror)
    (λ _. ruled_mirror b l (λ req m. open_route l req m (record { epoch = epoch; others = others; opened = sync_of l b.mirror }))) (λ _. refl)

where_mirror : (at : Option (List ℕ)) (epoch : ℕ) (value : Option (List ℕ)) (b : Broker) → (opens_where at epoch value b).broker.mirror ≡ b.mirror
where_mirror None epoch value b = refl
where_mirror (Some l) epoch None b = refl
where_mirror (Some l) epoch (Some text) b = with_ids (ids_of text)
  where
    with_ids : (ids : Option (List (List ℕ))) → (opens_with l epoch ids b).broker.mirror ≡ b.mirror
    with_ids None = refl
    with_ids (Some ms) = opens_mirror l epoch ms b

each_mirror : (epoch : ℕ) (ws : List KeyWrite) (b : Broker) → (opens_each epoch ws b).broker.mirror ≡ b.mirror
each_mirror epoch [] b = refl
each_mirror epoch (w ∷ ws) b = each_mirror epoch ws (opens_by epoch w b).broker ∙ where_mirror (routed_journal w.key) epoch w.value b

pub change_mirror : (c : Change) (b : Broker) → (on_change c b).broker.mirror ≡ applied c b.mirror
change_mirror c b = elim (cases_Bool (c.revision == b.mirror.revision + 1)) [
  | inl t ↦ subst (λ (x : Bool). (if x then opens_each c.revision c.writes (record b { mirror = applied c b.mirror }) else idle b).broker.mirror ≡ applied c b.mirror) (sym t) (each_mirror c.revision c.writes (record b { mirror = applied c b.mirror }))
  | inr t ↦ subst (λ (x : Bool). (if x then opens_each c.revision c.writes (record b { mirror = applied c b.mirror }) else idle b).broker.mirror ≡ (if x then record { revision = c.revision; keys = after_writes c.revision b.mirror.keys c.writes } else b.mirror)) (sym t) refl
]

module _ (num : List ℕ → ℕ) (same : IsNumbering num) (no_keys : (a : List ℕ) → num a ≡ rules.keys → ⊥) (j : List ℕ) (changes : List Change) where
  place_within : (xs : List Change) (place : ℕ) (c : Change) → slice_get xs place ≡ Some c → place < length xs
  place_within [] place c e = absurd (cc)
  place_within (x ∷ xs) zero c e = omega arith
  place_within (x ∷ xs) (suc place) c e = omega (arith, place_within xs place c e)

  pub mirror_after : IsNumbered changes → (m : Mirrored) → MirrorOk changes m → (place : ℕ) (c : Change) → slice_get changes place ≡ Some c → MirrorOk changes (applied c m)
  mirror_after numbered m ok place c here = record {
    keys = (mirror_law changes numbered).given m (c ∷ []) ok.keys ((place, here), tt);
    made = cond_both (c.revision == m.revision + 1) (record { revision = c.revision; keys = after_writes c.revision m.keys c.writes }) m (λ (x : Mirrored). x.revision ≤ length changes)
        (λ _. omega (arith, revision_at changes 0 place c numbered here, place_within changes place c here)) (λ _. ok.made);
  }

  lone_at : (xs : List Change) (place : ℕ) (c : Change) → AreLone xs → slice_get xs place ≡ Some c → IsLone c.writes
  lone_at [] place c a e = absurd (cc)
  lone_at (x ∷ xs) zero c a e = let z : x ≡ c = cc in subst (λ (y : Change). IsLone y.writes) z a.0
  lone_at (x ∷ xs) (suc place) c a e = lone_at xs place c a.1 e

  -- changes of the keys are taken, with the mirror behind them
  pub record Changed (w : World) (i : Inv w) (b : Broker) (out : Outcome) : Type 0 where
    pub step : StillStepped num j w i b out
    pub mirror : MirrorOk changes out.broker.mirror

  pub one_change : (w : World) (i : Inv w) (k : KeysCarried num j changes w) (b : Broker) → Ready num j w b → MirrorOk changes b.mirror → (place : ℕ) (c : Change) → slice_get changes place ≡ Some c → Changed w i b (on_change c b)
  one_change w i k b ready mirror place c here = record {
    step = change_stepped num same no_keys j changes w i k b ready mirror place c here (lone_at changes place c k.lone here);
    mirror = subst (λ m. MirrorOk changes m) (sym (change_mirror c b)) (mirror_after k.numbered b.mirror mirror place c here);
  }

  pub all_changes : (cs : List Change) → AreAmong changes cs → (w : World) (i : Inv w) (k : KeysCarried num j changes w) (b : Broker) → Ready num j w b → MirrorOk changes b.mirror → Changed w i b (on_changes cs b)
  all_changes [] a w i k b ready mirror = record { step = stilly num j w i b ready (idle b) refl refl tt tt; mirror = mirror }
  all_changes (c ∷ cs) a w i k b ready mirror =
      let first = one_change w i k b ready mirror a.0.0 c a.0.1 in
      let out = on_change c b in
      let rest = all_changes cs a.1 first.step.step.world first.step.step.inv (keys_stay num j changes w first.step.step.world i first.step.step.keys first.step.step.said k) out.broker (ready_after num j w i b ready out first.step.step) first.mirror in
      record { step = still_then num j w i b out (on_changes cs out.broker) first.step rest.step; mirror = rest.mirror }
