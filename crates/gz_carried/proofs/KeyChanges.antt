-- The key space makes a change: what the reduced world knows of the keys (`KeysCarried`) stays true. It is said by revision,
-- since a broker's mirror may be late: at each revision the route, if it has a member, is a reduced route with these
-- members, and the sync key is what that was opened with, or its own epoch. A route of this journal is a converge of the
-- reduced world, a sync of it the key space's answer to a transaction that was asked for; nothing else is seen.
use Rattle.std.proofs.Common.{◌≡◌, ℕ, ◌+◌, ◌-◌, ◌<◌, ◌≤◌, ◌⊎◌, List, [], ◌∷◌, ◌++◌, length, refl, ap, sym, ◌∙◌, arith, subst, inl, inr, Option, Some, None, true, false, Bool}
use Rattle.std.specs.Prelude.{map, flat_map, slice_index_or, if◌then◌else◌, ◌==◌, decimal}
use Rattle.std.proofs.lemmas.Bool.{cases_lt, eq-eqb}
use Rattle.gz_label.specs.declared.keys.KeyWrite.{KeyWrite}
use Rattle.gz_label.specs.declared.keys.Change.{Change}
use Rattle.gz_keyspace.specs.declared.table.Held.{Held}
use Rattle.gz_keyspace.specs.Keys.{same_key, held_at, mod_revision_of, keys_after, keys_at, IsNumbered, IsNumberedFrom}
use Rattle.gz_keyspace.specs.Table.{puts, prepared_of, prepared_value}
use Rattle.gz_keyspace.specs.Space.{last_revision}
use Rattle.gz_keyspace.specs.Formats.{ids_of, number_of}
use Rattle.gz_keyspace.proofs.KeyLemmas.{one_more}
use Rattle.gz_keyspace.proofs.MirrorLemmas.{mirror_law}
use Rattle.gz_keyspace.proofs.PrintLemmas.{number_reads}
use Rattle.gz_replica.specs.Opening.{route_key, sync_key}
use Rattle.gz_broker.specs.Brokers.{RouteHeld, route_in, route_with, sync_in, number_or_zero}
use Rattle.gz_carried.specs.Keys.{IsLone, Known, ViewSeen, route_by, sync_by, RouteKnown, KeysCarried}
use Rattle.gz_cluster.specs.Handover.{members_of, synced_in, synced_by, mirror_at}
use Rattle.gz_lineage.specs.Lists.{In, Each}
use Rattle.gz_lineage.specs.Nodes.{Route, Letter}
use Rattle.gz_lineage.specs.World.{World, Deliver, node_at, grown_all, run}
use Rattle.gz_lineage.specs.Handover.{HandoverAt, HandoverThroughout}
use Rattle.gz_lineage.proofs.Listed.{each_in, in_append_left, each_append}
use Rattle.gz_lineage.proofs.Frame.{grows_trans}
use Rattle.gz_lineage.proofs.History.{Grows}
use Rattle.gz_lineage.proofs.Facts.{LetterOk}
use Rattle.gz_lineage.proofs.Invariant.{Inv, all_same, all_low, lows, prefixes}
use Rattle.gz_lineage.proofs.Run.{event_ok}
use Rattle.gz_lineage.proofs.Handover.{calm_step}
use Rattle.gz_carry.proofs.Sends.{in_right}
use Rattle.gz_carry.specs.Taking.{said_again}
use Rattle.gz_carry.proofs.Redelivery.{delivered_last}
use Rattle.gz_steps.proofs.Reaching.{said_before, in_split}
use Rattle.gz_steps.specs.Steps.{SameKeys}
use Rattle.std.specs.Option.{option_map_or}
use Rattle.gz_carry.proofs.Numbers.{same_bytes}
use Rattle.gz_lineage.specs.Nodes as reduced
use Rattle.gz_lineage.specs.Rules as rules
use Rattle.gz_lineage.specs.World as world

-- no write of these is of the key
abbrev pub LeavesKey : List ℕ → List KeyWrite → Type 0
LeavesKey key ws = Each (λ (w : KeyWrite). same_key w.key key ≡ false) ws

puts_none : (key : List ℕ) (revision : ℕ) (ws : List KeyWrite) (had : Option Held) → LeavesKey key ws → puts key (prepared_of revision ws) had ≡ had
puts_none key revision [] had a = refl
puts_none key revision (w ∷ ws) had a = ap (λ (b : Bool). puts key (prepared_of revision ws) (if b then prepared_value revision w.value else had)) a.0 ∙ puts_none key revision ws had a.1

numbered_from : (n : ℕ) (changes : List Change) (revision : ℕ) (ws : List KeyWrite) → IsNumberedFrom n changes → revision ≡ n + length changes + 1 → IsNumberedFrom n (changes ++ record { revision = revision; writes = ws } ∷ [])
numbered_from n [] revision ws a e = (omega arith, tt)
numbered_from n (c ∷ cs) revision ws a e = (a.0, numbered_from (n + 1) cs revision ws a.1 (omega arith))

-- what the sync key had in some changes it had in these and more
synced_more : (j : List ℕ) (e : ℕ) (cs ds : List Change) → In e (synced_in j cs) → In e (synced_in j (cs ++ ds))
synced_more j e [] ds i = absurd i
synced_more j e (c ∷ cs) ds i = elim (in_split e (flat_map (synced_by j) c.writes) (synced_in j cs) i) [
  | inl x ↦ in_append_left (flat_map (synced_by j) c.writes) (synced_in j (cs ++ ds)) e x
  | inr x ↦ in_right e (flat_map (synced_by j) c.writes) (synced_in j (cs ++ ds)) (synced_more j e cs ds x)
]

synced_new : (j : List ℕ) (e : ℕ) (cs ds : List Change) → In e (synced_in j ds) → In e (synced_in j (cs ++ ds))
synced_new j e [] ds i = i
synced_new j e (c ∷ cs) ds i = in_right e (flat_map (synced_by j) c.writes) (synced_in j (cs ++ ds)) (synced_new j e cs ds i)

-- where the keys stay, and more may be said
pub keys_stay : (num : List ℕ → ℕ) (j : List ℕ) (changes : List Change) (w v : World) → Inv w → SameKeys w v → ((x : Letter) → In x w.said → In x v.said) → KeysCarried num j changes w → KeysCarried num j changes v
keys_stay num j changes w v i s more k = record {
  numbered = k.numbered;
  small = k.small;
  lone = k.lone;
  sync = s.sync ∙ k.sync;
  views = λ n l r first others a b. let x = k.views n l r first others a b in
      record {
        route = x.route;
        among = subst (λ rs. In x.route rs) (sym s.routes) x.among;
        at = x.at;
        leads = x.leads;
        follow = x.follow;
        synced = elim x.synced [ inl y ↦ inl y | inr y ↦ inr (y.0, s.kept x.route.epoch y.1) ];
      };
  late = omega (arith, k.late, ap world.latest s.routes);
  past = omega (arith, k.past, ap world.latest s.routes);
  routes = λ o p. let x = k.routes o (subst (λ rs. In o rs) s.routes p) in record { past = x.past; members = x.members; told = more _ x.told };
  syncs = λ e p pos. elim (s.syncs e p) [
    | inl x ↦ k.syncs e x pos
    | inr x ↦ k.syncs e (subst (λ y. In y w.syncs) (sym x) (i.syncs w.state.sync (i.sync_is (omega (arith, x))))) pos
  ];
}

-- the present route is known
pub present_view : (num : List ℕ → ℕ) (j : List ℕ) (changes : List Change) (w : World) → KeysCarried num j changes w → ViewSeen num w (route_by j (keys_after changes)) (sync_by j (keys_after changes))
present_view num j changes w k = subst (λ ks. ViewSeen num w (route_by j ks) (sync_by j ks)) (sym (mirror_law changes k.numbered).whole) (k.views (length changes) (omega arith))

-- ---- one more change

module _ (num : List ℕ → ℕ) (j : List ℕ) (changes : List Change) (w : World) (k : KeysCarried num j changes w) (ws : List KeyWrite) (room : length changes < last_revision) where
  abbrev pub new_change : Change
  new_change = record { revision = length changes + 1; writes = ws }

  abbrev pub changed : List Change
  changed = changes ++ new_change ∷ []

  pub numbered_now : IsNumbered changed
  numbered_now = numbered_from 0 changes (length changes + 1) ws k.numbered (omega arith)

  pub many : length changed ≡ length changes + 1
  many = more changes
    where
      more : (xs : List Change) → length (xs ++ new_change ∷ []) ≡ length xs + 1
      more [] = refl
      more (x ∷ xs) = omega (arith, more xs)

  -- keys at an old revision are as they were
  pub old_keys : (v : ℕ) → v ≤ length changes → keys_at changed v ≡ keys_at changes v
  old_keys v l = sym ((mirror_law changes k.numbered).goes_on (mirror_at changes v) (new_change ∷ []) l numbered_now refl)

  pub new_keys : keys_at changed (length changes + 1) ≡ keys_after changed
  new_keys = subst (λ n. keys_at changed n ≡ keys_after changed) many (sym (mirror_law changed numbered_now).whole)

  last_keys : keys_at changes (length changes) ≡ keys_after changes
  last_keys = sym (mirror_law changes k.numbered).whole

  pub held_new : (key : List ℕ) → held_at key (keys_after changed) ≡ puts key (prepared_of (length changes + 1) ws) (held_at key (keys_after changes))
  held_new key = sym (one_more changes new_change key)

  pub held_same : (key : List ℕ) → LeavesKey key ws → held_at key (keys_after changed) ≡ held_at key (keys_after changes)
  held_same key a = held_new key ∙ puts_none key (length changes + 1) ws (held_at key (keys_after changes)) a

  -- what is known of a route is known in a world that goes on
  known_more : (v : World) → ((o : Route) → In o w.state.routes → In o v.state.routes) → ((e : ℕ) → In e w.syncs → In e v.syncs) → (epoch : ℕ) (first : List ℕ) (others : List (List ℕ)) (sync : ℕ) → Known num w epoch first others sync → Known num v epoch first others sync
  known_more v f g epoch first others sync x = record { route = x.route; among = f x.route x.among; at = x.at; leads = x.leads; follow = x.follow; synced = elim x.synced [ inl y ↦ inl y | inr y ↦ inr (y.0, g x.route.epoch y.1) ] }

  -- views from those of old and the new one
  pub views_by : (v : World) → ((o : Route) → In o w.state.routes → In o v.state.routes) → ((e : ℕ) → In e w.syncs → In e v.syncs) → ViewSeen num v (route_by j (keys_after changed)) (sync_by j (keys_after changed)) →
      (n : ℕ) → n ≤ length changed → ViewSeen num v (route_by j (keys_at changed n)) (sync_by j (keys_at changed n))
  views_by v f g new n l = elim (cases_lt (length changes) n) [
    | inl x ↦ (let e : n ≡ length changes + 1 = omega (arith, many) in subst (λ ks. ViewSeen num v (route_by j ks) (sync_by j ks)) (sym (ap (keys_at changed) e ∙ new_keys)) new)
    | inr x ↦ subst (λ ks. ViewSeen num v (route_by j ks) (sync_by j ks)) (sym (old_keys n x))
        (λ r first others a b. known_more v f g r.epoch first others (sync_by j (keys_at changes n)) (k.views n x r first others a b))
  ]

  pub last_view : ViewSeen num w (route_by j (keys_after changes)) (sync_by j (keys_after changes))
  last_view = subst (λ ks. ViewSeen num w (route_by j ks) (sync_by j ks)) last_keys (k.views (length changes) (omega arith))

  pub route_now : (v : World) (o : Route) → ((x : Letter) → In x w.said → In x v.said) → RouteKnown num j changes w o → RouteKnown num j changed v o
  route_now v o more x = record {
    past = omega (arith, x.past, many);
    told = more _ x.told;
    members = x.members ∙ ap (λ ks. map num (members_of (route_by j ks))) (sym (old_keys o.epoch x.past));
  }

  -- a change that leaves both keys
  pub other_change : LeavesKey (route_key j) ws → LeavesKey (sync_key j) ws → IsLone ws → KeysCarried num j changed w
  other_change a b c = record {
    numbered = numbered_now;
    small = omega (arith, many, room);
    lone = each_append (λ (c : Change). IsLone c.writes) changes (new_change ∷ []) k.lone (c, tt);
    sync = k.sync ∙ ap sync_in (sym (held_same (sync_key j) b));
    views = views_by w (λ o p. p) (λ e p. p) (subst (λ h. ViewSeen num w (route_in h) (sync_by j (keys_after changed))) (sym (held_same (route_key j) a))
        (subst (λ h. ViewSeen num w (route_by j (keys_after changes)) (sync_in h)) (sym (held_same (sync_key j) b)) last_view));
    late = omega (arith, k.late, ap (λ h. option_map_or (λ (x : Held). x.mod_revision) h 0) (held_same (route_key j) a));
    past = omega (arith, k.past, many);
    routes = λ o p. route_now w o (λ x s. s) (k.routes o p);
    syncs = λ e p pos. synced_more j e changes (new_change ∷ []) (k.syncs e p pos);
  }

-- what of the nodes stays where only the keys move
pub record KeysStepped (num : List ℕ → ℕ) (j : List ℕ) (changes : List Change) (w : World) (i : Inv w) : Type 0 where
  pub events : List world.Event
  pub throughout : HandoverThroughout events w
  pub world : World
  pub goes : run events w ≡ world
  pub inv : Inv world
  pub grows : Grows i.g inv.g
  pub handed : HandoverAt world world.state.routes
  pub said : (x : Letter) → In x w.said → In x world.said
  pub nodes : (x : ℕ) → node_at world.state.nodes x ≡ node_at w.state.nodes x
  pub many : length world.state.nodes ≡ length w.state.nodes
  pub runs : (x : ℕ) → slice_index_or world.state.runs x false ≡ slice_index_or w.state.runs x false
  pub runs_many : length world.state.runs ≡ length w.state.runs
  pub stored : world.state.stored ≡ w.state.stored
  pub journal : world.journal ≡ w.journal
  pub top : world.top ≡ w.top
  pub carried : KeysCarried num j changes world

-- ---- the route is written

module _ (num : List ℕ → ℕ) (j : List ℕ) (changes : List Change) (w : World) (i : Inv w) (k : KeysCarried num j changes w) (text : List ℕ) (room : length changes < last_revision) where
  abbrev pub writes_route : List KeyWrite
  writes_route = record { key = route_key j; value = Some text } ∷ []

  abbrev routed : List Change
  routed = changed num j changes w k writes_route room

  route_held : held_at (route_key j) (keys_after routed) ≡ Some (record { value = text; mod_revision = length changes + 1 })
  route_held = held_new num j changes w k writes_route room (route_key j)
      ∙ ap (λ (b : Bool). if b then Some (record { value = text; mod_revision = length changes + 1 }) else held_at (route_key j) (keys_after changes)) (same_bytes (route_key j))

  sync_held : held_at (sync_key j) (keys_after routed) ≡ held_at (sync_key j) (keys_after changes)
  sync_held = held_same num j changes w k writes_route room (sync_key j) (refl, tt)

  many_now : length routed ≡ length changes + 1
  many_now = many num j changes w k writes_route room

  revision_now : mod_revision_of (route_key j) (keys_after routed) ≡ length changes + 1
  revision_now = ap (λ h. option_map_or (λ (x : Held). x.mod_revision) h 0) route_held

  -- as no list of members
  pub bad_route : ((first : List ℕ) (others : List (List ℕ)) → ids_of text ≡ Some (first ∷ others) → ⊥) → KeysCarried num j routed w
  bad_route none = record {
    numbered = numbered_now num j changes w k writes_route room;
    small = omega (arith, many_now, room);
    lone = each_append (λ (c : Change). IsLone c.writes) changes (new_change num j changes w k writes_route room ∷ []) k.lone (inr (record { key = route_key j; value = Some text }, refl), tt);
    sync = k.sync ∙ ap sync_in (sym sync_held);
    views = views_by num j changes w k writes_route room w (λ o p. p) (λ e p. p)
        (λ r first others a b. absurd (no (ids_of text) r first others (sym (ap route_in route_held) ∙ a) b none));
    late = omega (arith, k.past, revision_now);
    past = omega (arith, k.past, many_now);
    routes = λ o p. route_now num j changes w k writes_route room w o (λ x s. s) (k.routes o p);
    syncs = λ e p pos. synced_more j e changes (new_change num j changes w k writes_route room ∷ []) (k.syncs e p pos);
  }
    where
      no : (ids : Option (List (List ℕ))) (r : RouteHeld) (first : List ℕ) (others : List (List ℕ)) → route_with (length changes + 1) ids ≡ Some r → r.members ≡ first ∷ others → ((first : List ℕ) (others : List (List ℕ)) → ids ≡ Some (first ∷ others) → ⊥) → ⊥
      no None r first others a b f = absurd (cc)
      no (Some ms) r first others a b f = f first others (ap (λ x. Some x) (ap (λ (o : Option RouteHeld). members_of o) a ∙ b))

  -- as this list of members
  module _ (first : List ℕ) (others : List (List ℕ)) (is : ids_of text ≡ Some (first ∷ others)) where
    abbrev pub converge : world.Event
    converge = world.Converge (length changes - world.latest w.state.routes) (num first) (map num others)

    abbrev pub new_route : Route
    new_route = record { epoch = world.latest w.state.routes + (length changes - world.latest w.state.routes) + 1; lead = num first; others = map num others; opened = w.state.sync }

    epoch_now : new_route.epoch ≡ length changes + 1
    epoch_now = omega (arith, k.past)

    pub converge_keys : KeysCarried num j routed (world.happens w converge)
    converge_keys =
        let v = world.happens w converge in
        let here : route_by j (keys_after routed) ≡ Some (record { members = first ∷ others; epoch = length changes + 1 }) = ap route_in route_held ∙ ap (route_with (length changes + 1)) is in
        record {
          numbered = numbered_now num j changes w k writes_route room;
          small = omega (arith, many_now, room);
          lone = each_append (λ (c : Change). IsLone c.writes) changes (new_change num j changes w k writes_route room ∷ []) k.lone (inr (record { key = route_key j; value = Some text }, refl), tt);
          sync = k.sync ∙ ap sync_in (sym sync_held);
          views = views_by num j changes w k writes_route room v (λ o p. inr p) (λ e p. inr p)
              (λ r f os a b.
              let z : Some (record { members = first ∷ others; epoch = length changes + 1 }) ≡ Some r = sym here ∙ a in
              let ep : length changes + 1 ≡ r.epoch = ap (λ (o : Option RouteHeld). epoch_in o) z in
              let ms : first ∷ others ≡ f ∷ os = ap (λ (o : Option RouteHeld). members_of o) z ∙ b in
              record {
                route = new_route;
                among = inl refl;
                at = epoch_now ∙ ep;
                leads = ap (λ l. num (first_in l)) ms;
                follow = ap (λ l. map num (rest_in l)) ms;
                synced = inl (ap sync_in sync_held ∙ sym k.sync);
              });
          late = omega (arith, epoch_now, revision_now);
          past = omega (arith, epoch_now, many_now);
          routes = λ o p. elim p [
            | inl e ↦ (let ep : o.epoch ≡ length changes + 1 = ap (λ (x : Route). x.epoch) e ∙ epoch_now in
                record {
                  past = omega (arith, ep, many_now);
                  members = ap (λ (x : Route). x.lead ∷ x.others) e ∙ ap (λ o. map num (members_of o)) (sym (ap (λ n. route_by j (keys_at routed n)) ep ∙ ap (route_by j) (new_keys num j changes w k writes_route room) ∙ here));
                  told = subst (λ (x : Route). In (rules.letter rules.keys x.lead (reduced.Changed x)) v.said) (sym e) (in_right (rules.letter rules.keys (num first) (reduced.Changed new_route)) w.said (rules.to_each rules.keys (reduced.Changed new_route) (num first ∷ map num others)) (inl refl));
                })
            | inr q ↦ route_now num j changes w k writes_route room v o (λ x s. in_append_left w.said (rules.to_each rules.keys (reduced.Changed new_route) (num first ∷ map num others)) x s) (k.routes o q)
          ];
          syncs = λ e p pos. elim p [
            | inl x ↦ synced_more j e changes (new_change num j changes w k writes_route room ∷ []) (k.syncs e (subst (λ y. In y w.syncs) (sym x) (i.syncs w.state.sync (i.sync_is (omega (arith, x))))) pos)
            | inr x ↦ synced_more j e changes (new_change num j changes w k writes_route room ∷ []) (k.syncs e x pos)
          ];
        }
      where
        epoch_in : Option RouteHeld → ℕ
        epoch_in None = 0
        epoch_in (Some r) = r.epoch

        first_in : List (List ℕ) → List ℕ
        first_in [] = []
        first_in (x ∷ xs) = x

        rest_in : List (List ℕ) → List (List ℕ)
        rest_in [] = []
        rest_in (x ∷ xs) = xs

-- ---- the sync key is written

module _ (num : List ℕ → ℕ) (j : List ℕ) (changes : List Change) (w : World) (i : Inv w) (k : KeysCarried num j changes w) (handed : HandoverAt w w.state.routes) (room : length changes < last_revision)
    (from epoch : ℕ) (asked : In (rules.letter from rules.keys (reduced.Txn epoch)) w.said) (holds : mod_revision_of (route_key j) (keys_after changes) ≡ epoch) where
  abbrev pub writes_sync : List KeyWrite
  writes_sync = record { key = sync_key j; value = Some (decimal epoch) } ∷ []

  abbrev synced : List Change
  synced = changed num j changes w k writes_sync room

  here : (i.K.known epoch ≡ true) × (epoch ≡ world.latest w.state.routes)
  here =
      let ok : LetterOk i.K i.g (rules.letter from rules.keys (reduced.Txn epoch)) = each_in (LetterOk i.K i.g) w.said (rules.letter from rules.keys (reduced.Txn epoch)) i.said asked in
      let known = i.global.known epoch ok.0 in
      (ok.0, omega (arith, known.1, i.latest, k.late, holds))

  sync_now : held_at (sync_key j) (keys_after synced) ≡ Some (record { value = decimal epoch; mod_revision = length changes + 1 })
  sync_now = held_new num j changes w k writes_sync room (sync_key j)
      ∙ ap (λ (b : Bool). if b then Some (record { value = decimal epoch; mod_revision = length changes + 1 }) else held_at (sync_key j) (keys_after changes)) (same_bytes (sync_key j))

  route_still : held_at (route_key j) (keys_after synced) ≡ held_at (route_key j) (keys_after changes)
  route_still = held_same num j changes w k writes_sync room (route_key j) (refl, tt)

  epoch_is : sync_by j (keys_after synced) ≡ epoch
  epoch_is = ap sync_in sync_now ∙ ap number_or_zero (number_reads epoch (omega (arith, here.1, k.past, room)))

  many_then : length synced ≡ length changes + 1
  many_then = many num j changes w k writes_sync room

  new_sync : In epoch (synced_in j (new_change num j changes w k writes_sync room ∷ []))
  new_sync = subst (λ (b : Bool). In epoch (((if b then number_or_zero (number_of (decimal epoch)) ∷ [] else []) ++ []) ++ [])) (sym (same_bytes (sync_key j)))
      (inl (sym (ap number_or_zero (number_reads epoch (omega (arith, here.1, k.past, room))))))

  pub record SyncStepped : Type 0 where
    pub step : KeysStepped num j synced w i
    pub ok : In (rules.letter rules.keys from (reduced.TxnOk epoch)) step.world.said

  pub sync_stepped : SyncStepped
  sync_stepped =
      let letter = rules.letter from rules.keys (reduced.Txn epoch) in
      let again = said_before w letter asked in
      let first = again.0 in
      let first_is = again.2 in
      let events = first ∷ Deliver (length w.state.flight) ∷ [] in
      let h1 = calm_step w i first again.1 handed in
      let w1 = world.happens w first in
      let i1 = event_ok w i first h1 in
      let h2 = calm_step w1 i1.after (Deliver (length w.state.flight)) tt h1 in
      let i2 = event_ok w1 i1.after (Deliver (length w.state.flight)) h2 in
      let w2 = world.run events w in
      let answer = rules.letter rules.keys from (reduced.TxnOk epoch) in
      let u = said_again w letter in
      let v = world.recorded u (world.sent (record u.state { sync = epoch }) w.state.flight letter (answer ∷ [])) in
      let now : (epoch == world.latest w.state.routes) ≡ true = eq-eqb epoch (world.latest w.state.routes) here.1 in
      let comes : w2 ≡ v = delivered_last w letter first first_is ∙ ap (λ (b : Bool). world.recorded u (if b then world.sent (record u.state { sync = epoch }) w.state.flight letter (answer ∷ []) else world.sent u.state w.state.flight letter (rules.letter rules.keys from (reduced.TxnNo epoch) ∷ []))) now in
      let said : (x : Letter) → In x w.said → In x w2.said = λ x s. subst (λ (y : World). In x y.said) (sym comes) (in_append_left (w.said ++ letter ∷ []) (answer ∷ []) x (in_append_left w.said (letter ∷ []) x s)) in
      let same_journal : grown_all w.journal w.state.nodes ≡ w.journal = all_same w.journal w.state.nodes (prefixes w i) in
      let same_top : world.risen_all w.top w.state.nodes ≡ w.top = all_low w.top w.state.nodes (lows w i) in
      let syncs : (x : ℕ) → In x w2.syncs → 0 < x → (x ≡ epoch) ⊎ In x (synced_in j changes) = λ x p pos. elim (subst (λ (y : World). In x y.syncs) comes p) [
        | inl e ↦ inl e
        | inr q ↦ elim q [
          | inl e ↦ inr (k.syncs x (subst (λ y. In y w.syncs) (sym e) (i.syncs w.state.sync (i.sync_is (omega (arith, e))))) pos)
          | inr e ↦ inr (k.syncs x e pos)
        ]
      ] in
      let kept : (x : ℕ) → In x w.syncs → In x w2.syncs = λ x p. subst (λ (y : World). In x y.syncs) (sym comes) (inr (inr p)) in
      let routes : w2.state.routes ≡ w.state.routes = ap (λ (y : World). y.state.routes) comes in
      let among : (o : Route) → In o w.state.routes → In o w2.state.routes = λ o p. subst (λ rs. In o rs) (sym routes) p in
      record {
        ok = subst (λ (y : World). In answer y.said) (sym comes) (in_right answer (w.said ++ letter ∷ []) (answer ∷ []) (inl refl));
        step = record {
          events = events;
          throughout = (h1, (h2, tt));
          world = w2;
          goes = refl;
          inv = i2.after;
          grows = grows_trans i1.grows i2.grows;
          handed = h2;
          said = said;
          nodes = λ x. ap (λ (y : World). node_at y.state.nodes x) comes;
          many = ap (λ (y : World). length y.state.nodes) comes;
          runs = λ x. ap (λ (y : World). slice_index_or y.state.runs x false) comes;
          runs_many = ap (λ (y : World). length y.state.runs) comes;
          stored = ap (λ (y : World). y.state.stored) comes;
          journal = ap (λ (y : World). y.journal) comes ∙ ap (λ x. grown_all x w.state.nodes) same_journal ∙ same_journal;
          top = ap (λ (y : World). y.top) comes ∙ ap (λ x. world.risen_all x w.state.nodes) same_top ∙ same_top;
          carried = record {
            numbered = numbered_now num j changes w k writes_sync room;
            small = omega (arith, many_then, room);
            lone = each_append (λ (c : Change). IsLone c.writes) changes (new_change num j changes w k writes_sync room ∷ []) k.lone (inl (refl, tt), tt);
            sync = ap (λ (y : World). y.state.sync) comes ∙ sym epoch_is;
            views = views_by num j changes w k writes_sync room w2 among kept
                (λ r f os a b.
                let x = last_view num j changes w k writes_sync room r f os (sym (ap route_in route_still) ∙ a) b in
                let ep : r.epoch ≡ epoch = revision_is (held_at (route_key j) (keys_after changes)) r (sym (ap route_in route_still) ∙ a) ∙ holds in
                record {
                  route = x.route;
                  among = among x.route x.among;
                  at = x.at;
                  leads = x.leads;
                  follow = x.follow;
                  synced = inr (epoch_is ∙ sym (x.at ∙ ep), subst (λ (y : World). In x.route.epoch y.syncs) (sym comes) (inl (x.at ∙ ep)));
                });
            late = omega (arith, k.late, ap world.latest routes, ap (λ h. option_map_or (λ (x : Held). x.mod_revision) h 0) route_still);
            past = omega (arith, k.past, ap world.latest routes, many_then);
            routes = λ o p. route_now num j changes w k writes_sync room w2 o said (k.routes o (subst (λ rs. In o rs) routes p));
            syncs = λ x p pos. elim (syncs x p pos) [
              | inl e ↦ subst (λ y. In y (synced_in j synced)) (sym e) (synced_new j epoch changes (new_change num j changes w k writes_sync room ∷ []) new_sync)
              | inr e ↦ synced_more j x changes (new_change num j changes w k writes_sync room ∷ []) e
            ];
          };
        };
      }
    where
      revision_is : (h : Option Held) (r : RouteHeld) → route_in h ≡ Some r → r.epoch ≡ option_map_or (λ (x : Held). x.mod_revision) h 0
      revision_is None r a = absurd (cc)
      revision_is (Some h) r a = with_ids (ids_of h.value) a
        where
          with_ids : (ids : Option (List (List ℕ))) → route_with h.mod_revision ids ≡ Some r → r.epoch ≡ h.mod_revision
          with_ids None a = absurd (cc)
          with_ids (Some ms) a = let z : record { members = ms; epoch = h.mod_revision } ≡ r = cc in sym (ap (λ (x : RouteHeld). x.epoch) z)
