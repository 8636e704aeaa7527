-- What the reduced world knows of the keys, for one journal. It is said by revision, since a broker's mirror may be late: at
-- each revision the route, if it has a member, is a reduced route with these members, and the sync key is what that was
-- opened with, or its own epoch.
use Rattle.std.specs.Prelude.{◌≡◌, ◌⊎◌, ℕ, ◌<◌, ◌≤◌, List, [], ◌∷◌, length, map, Option, Some, None}
use Rattle.gz_label.specs.declared.keys.KeyWrite.{KeyWrite}
use Rattle.gz_label.specs.declared.keys.Change.{Change}
use Rattle.gz_keyspace.specs.Keys.{KeyMap, held_at, mod_revision_of, keys_after, keys_at, IsNumbered}
use Rattle.gz_keyspace.specs.Mirrors.{Mirrored, IsMirrorOf}
use Rattle.gz_keyspace.specs.Space.{last_revision}
use Rattle.gz_replica.specs.Opening.{route_key, sync_key}
use Rattle.gz_broker.specs.Brokers.{RouteHeld, route_in, sync_in}
use Rattle.gz_broker.specs.Taking.{routed_journal}
use Rattle.gz_cluster.specs.Handover.{synced_in, route_at}
use Rattle.gz_lineage.specs.Lists.{In, Each}
use Rattle.gz_lineage.specs.Nodes.{Route}
use Rattle.gz_lineage.specs.World.{World}
use Rattle.gz_lineage.specs.Nodes as reduced
use Rattle.gz_lineage.specs.Rules as rules
use Rattle.gz_lineage.specs.World as world

-- a change that writes a route writes nothing else
abbrev pub IsLone : List KeyWrite → Type 0
IsLone ws = Each (λ (w : KeyWrite). routed_journal w.key ≡ None) ws ⊎ ((w : KeyWrite) × (ws ≡ w ∷ []))

abbrev pub AreLone : List Change → Type 0
AreLone changes = Each (λ (c : Change). IsLone c.writes) changes

-- A route of the reduced world, with what the sync key is where it is the present one: what that was when the route was
-- written, or the route's own epoch, which has been synced then.
pub record Known (num : List ℕ → ℕ) (w : World) (epoch : ℕ) (first : List ℕ) (others : List (List ℕ)) (sync : ℕ) : Type 0 where
  pub route : Route
  pub among : In route w.state.routes
  pub at : route.epoch ≡ epoch
  pub leads : route.lead ≡ num first
  pub follow : route.others ≡ map num others
  pub synced : (sync ≡ route.opened) ⊎ ((sync ≡ route.epoch) × In route.epoch w.syncs)

-- a route of the key space that has a member is known
abbrev pub ViewSeen : (List ℕ → ℕ) → World → Option RouteHeld → ℕ → Type 0
ViewSeen num w route sync = (r : RouteHeld) (first : List ℕ) (others : List (List ℕ)) → route ≡ Some r → r.members ≡ first ∷ others → Known num w r.epoch first others sync

-- the journal's route, and the epoch of its sync key, in a map of keys
abbrev pub route_by : List ℕ → KeyMap → Option RouteHeld
route_by j keys = route_in (held_at (route_key j) keys)

abbrev pub sync_by : List ℕ → KeyMap → ℕ
sync_by j keys = sync_in (held_at (sync_key j) keys)

-- a reduced route has the members of the journal's route at that revision, and its lead was told
pub record RouteKnown (num : List ℕ → ℕ) (j : List ℕ) (changes : List Change) (w : World) (o : Route) : Type 0 where
  pub past : o.epoch ≤ length changes
  pub members : o.lead ∷ o.others ≡ map num (route_at j changes o.epoch)
  pub told : In (rules.letter rules.keys o.lead (reduced.Changed o)) w.said

-- what the reduced world knows of the keys after these changes
pub record KeysCarried (num : List ℕ → ℕ) (j : List ℕ) (changes : List Change) (w : World) : Type 0 where
  pub numbered : IsNumbered changes
  pub small : length changes ≤ last_revision
  pub lone : AreLone changes
  pub sync : w.state.sync ≡ sync_by j (keys_after changes)
  pub views : (v : ℕ) → v ≤ length changes → ViewSeen num w (route_by j (keys_at changes v)) (sync_by j (keys_at changes v))
  pub late : world.latest w.state.routes ≤ mod_revision_of (route_key j) (keys_after changes)
  pub past : world.latest w.state.routes ≤ length changes
  pub routes : (o : Route) → In o w.state.routes → RouteKnown num j changes w o
  pub syncs : (e : ℕ) → In e w.syncs → 0 < e → In e (synced_in j changes)

-- the mirror is the key map at its revision, which was made
pub record MirrorOk (changes : List Change) (m : Mirrored) : Type 0 where
  pub keys : IsMirrorOf changes m
  pub made : m.revision ≤ length changes
