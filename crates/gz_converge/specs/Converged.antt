-- What a converge answers: from a view to problems, and from placements to transactions.
use Rattle.std.specs.Prelude.{◌≡◌, ◌≤◌, ℕ, ◌+◌, ◌++◌, List, [], ◌∷◌, map, filter, filter_map, flat_map, not, Bool, true, false, Option, Some, None, option_map, if◌then◌else◌}
use Rattle.gz_keyspace.specs.Keys.{same_key}
use Rattle.gz_keyspace.specs.Space.{put_of}
use Rattle.gz_alloc.specs.declared.problem.Item.{Item}
use Rattle.gz_alloc.specs.declared.problem.Member.{Member}
use Rattle.gz_alloc.specs.Names.{Asked, is_problem, IsFeasible, IsChoice, size}
use Rattle.gz_converge.specs.declared.view.Listed.{Listed}
use Rattle.gz_converge.specs.declared.view.JournalView.{JournalView}
use Rattle.gz_converge.specs.declared.view.ShardView.{ShardView}
use Rattle.gz_converge.specs.declared.view.MemberView.{MemberView}
use Rattle.gz_converge.specs.declared.txn.Txn.{Txn}
use Rattle.gz_converge.specs.declared.answer.Converged.{Converged}
use Rattle.gz_converge.specs.Views.{View, route_key, assign_key}
use Rattle.gz_converge.specs.Cases.{ids_in, within, next_route, next_list}

-- pairs of a name and a member's id
abbrev pub Pairs : Type 0
Pairs = List (List ℕ × List ℕ)

-- ---- what is to be placed

-- the member is a consumer, or else a broker
abbrev pub is_of_kind : Bool → MemberView → Bool
is_of_kind consumers m = if consumers then m.joined.consumer else not m.joined.consumer

-- the consumers, or else the brokers
abbrev pub holders : Bool → List MemberView → List MemberView
holders consumers members = filter (is_of_kind consumers) members

abbrev pub holder : MemberView → Member
holder m = record { name = m.joined.spec.id; zone = m.joined.spec.zone; limit = m.joined.spec.limit }

abbrev pub ids : List MemberView → List (List ℕ)
ids members = map (λ m. m.joined.spec.id) members

abbrev pub journal_item : JournalView → Item
journal_item j = record { name = j.spec.name; replicas = j.spec.replication }

-- a shard has a first consumer and its standbys
abbrev pub shard_item : ShardView → Item
shard_item s = record { name = s.spec.id; replicas = 1 + s.spec.hot_standbys }

abbrev pub is_enabled : ShardView → Bool
is_enabled s = not s.spec.disable

-- the shards that aren't disabled
abbrev pub enabled : View → List ShardView
enabled view = filter is_enabled view.shards

abbrev pub journals_asked : View → Asked
journals_asked view = record { items = map journal_item view.journals; members = map holder (holders false view.members) }

abbrev pub shards_asked : View → Asked
shards_asked view = record { items = map shard_item (enabled view); members = map holder (holders true view.members) }

-- ---- where they are now

-- the pairs of a list with these members
abbrev pub pairs_of : List (List ℕ) → List ℕ → Option Listed → Pairs
pairs_of members name list = map (λ m. (name, m)) (within members (ids_in list))

-- the routes' brokers
abbrev pub routes_now : View → Pairs
routes_now view = flat_map (λ j. pairs_of (ids (holders false view.members)) j.spec.name j.route) view.journals

-- the consumers in the lists of the shards that aren't disabled
abbrev pub lists_now : View → Pairs
lists_now view = flat_map (λ s. pairs_of (ids (holders true view.members)) s.spec.id s.list) (enabled view)

-- ---- placements

-- A greatest feasible placement, by the choice that is made from where things are and from the goal.
pub record IsGreatest (asked : Asked) (now goal pairs : Pairs) : Type 0 where
  pub feasible : IsFeasible asked pairs
  pub most : (others : Pairs) → IsFeasible asked others → size asked others ≤ size asked pairs
  pub choice : IsChoice asked now goal pairs (size asked pairs)

-- What is placed: of what is no problem, nothing.
pub record IsPlaced (asked : Asked) (now goal pairs : Pairs) : Type 0 where
  pub problem : is_problem asked ≡ true → IsGreatest asked now goal pairs
  pub none : is_problem asked ≡ false → pairs ≡ []

-- the members on which a name is placed, in the order of the pairs
abbrev pub placed_on : Pairs → List ℕ → List (List ℕ)
placed_on pairs name = map (λ p. p.1) (filter (λ p. same_key name p.0) pairs)

-- ---- transactions

-- ids with a comma before each
abbrev pub more_text : List (List ℕ) → List ℕ
more_text [] = []
more_text (id ∷ ids) = 44 ∷ id ++ more_text ids

-- ids with a comma between each two
abbrev pub ids_text : List (List ℕ) → List ℕ
ids_text [] = []
ids_text (id ∷ ids) = id ++ more_text ids

-- the revision of a list, 0 where there is no key
abbrev pub revision_of : Option Listed → ℕ
revision_of None = 0
revision_of (Some list) = list.revision

-- a list is put at a key that is as it was seen
abbrev pub txn_of : List ℕ → Option Listed → List (List ℕ) → Txn
txn_of key old new = record { compare = record { key = key; mod_revision = revision_of old }; write = put_of key (ids_text new) }

abbrev pub journal_txn : List (List ℕ) → Pairs → JournalView → Option Txn
journal_txn members placed j =
    option_map (txn_of (route_key j.spec.name) j.route) (next_route members (placed_on placed j.spec.name) j.route j.sync)

abbrev pub shard_txn : Pairs → ShardView → Option Txn
shard_txn placed s = option_map (txn_of (assign_key s.spec.id) s.list) (next_list (placed_on placed s.spec.id) s.list)

abbrev pub journal_txns : View → Pairs → List Txn
journal_txns view placed = filter_map (journal_txn (ids view.members) placed) view.journals

-- the lists stay where the shards are no problem
abbrev pub shard_txns : View → Pairs → List Txn
shard_txns view placed = if is_problem (shards_asked view) then filter_map (shard_txn placed) view.shards else []

-- the transactions for placements of the journals and of the shards
abbrev pub txns_of : View → Pairs → Pairs → List Txn
txns_of view journals shards = journal_txns view journals ++ shard_txns view shards

-- What a converge answers. The new goal is the placement of the journals; for shards there is no goal.
pub record Converges (view : View) (goal : Pairs) (answer : Converged) : Type 0 where
  pub journals : IsPlaced (journals_asked view) (routes_now view) goal answer.goal
  pub shards : IsPlaced (shards_asked view) (lists_now view) [] answer.shards
  pub txns : answer.txns ≡ txns_of view answer.goal answer.shards
