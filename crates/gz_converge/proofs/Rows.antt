-- Converges, worked out by hand and computed: each case of a route, the lists of a shard, what is read, and the
-- transactions of a whole view.
use Rattle.std.specs.Prelude.{◌≡◌, ℕ, ◌+◌, Bool, true, false, List, [], ◌∷◌, Option, Some, None, codes, refl}
use Rattle.gz_fields.specs.Names.{is_id}
use Rattle.gz_keyspace.specs.declared.table.Held.{Held}
use Rattle.gz_keyspace.specs.Space.{put_of}
use Rattle.gz_converge.specs.declared.view.Listed.{Listed}
use Rattle.gz_converge.specs.declared.view.Synced.{Synced}
use Rattle.gz_converge.specs.declared.view.JournalView.{JournalView}
use Rattle.gz_converge.specs.declared.view.ShardView.{ShardView}
use Rattle.gz_converge.specs.declared.view.MemberView.{MemberView}
use Rattle.gz_converge.specs.declared.txn.Txn.{Txn}
use Rattle.gz_converge.specs.Views.{View, view_of}
use Rattle.gz_converge.specs.Cases.{next_route, next_list}
use Rattle.gz_converge.specs.Converged.{Pairs, routes_now, lists_now, txns_of}
use Rattle.gz_converge.specs.Steps.{Round, changes}

abbrev Ids : Type 0
Ids = List (List ℕ)

abbrev x : List ℕ
x = codes "x"

abbrev s : List ℕ
s = codes "s"

abbrev b1 : List ℕ
b1 = codes "b1"

abbrev b2 : List ℕ
b2 = codes "b2"

abbrev b3 : List ℕ
b3 = codes "b3"

abbrev c1 : List ℕ
c1 = codes "c1"

abbrev c2 : List ℕ
c2 = codes "c2"

abbrev c3 : List ℕ
c3 = codes "c3"

-- all three brokers have their keys, or b1's is gone
abbrev all : Ids
all = b1 ∷ b2 ∷ b3 ∷ []

abbrev two : Ids
two = b2 ∷ b3 ∷ []

-- a list that was put at this revision
abbrev list : ℕ → Ids → Option Listed
list revision ids = Some (record { ids = ids; revision = revision })

-- the sync key says this epoch
abbrev sync : ℕ → Option Synced
sync epoch = Some (record { epoch = epoch; revision = epoch + 1 })

-- ---- the cases of a route

-- placed on none: the route stays, though b1's key is gone
on_none : next_route two [] (list 4 (b1 ∷ b2 ∷ [])) (sync 4) ≡ None
on_none = refl

-- without a route: the placed brokers, in the order of their ids
first_route : next_route all (b1 ∷ b2 ∷ []) None None ≡ Some (b1 ∷ b2 ∷ [])
first_route = refl

-- a broker whose key is gone leaves at once, whatever the sync key says, and another comes
expired : next_route two two (list 4 (b1 ∷ b2 ∷ [])) (sync 3) ≡ Some (b2 ∷ b3 ∷ [])
expired = refl

-- the sync key isn't the epoch: the route waits
waits : next_route all two (list 4 (b1 ∷ b2 ∷ [])) (sync 3) ≡ None
waits = refl

waits_first : next_route all two (list 4 (b1 ∷ b2 ∷ [])) None ≡ None
waits_first = refl

-- placed brokers come before others leave
comes : next_route all two (list 4 (b1 ∷ b2 ∷ [])) (sync 4) ≡ Some (b1 ∷ b2 ∷ b3 ∷ [])
comes = refl

-- the others leave, and the order stays
leaves : next_route all two (list 5 (b1 ∷ b3 ∷ b2 ∷ [])) (sync 5) ≡ Some (b3 ∷ b2 ∷ [])
leaves = refl

-- a route of the placed brokers stays, in any order
stays : next_route all two (list 6 (b3 ∷ b2 ∷ [])) (sync 6) ≡ None
stays = refl

-- ---- replication

-- it rises from two to three, and then falls to one: each time once the sync key says the epoch
rises : next_route all all (list 4 (b2 ∷ b1 ∷ [])) (sync 4) ≡ Some (b2 ∷ b1 ∷ b3 ∷ [])
rises = refl

falls_not_yet : next_route all (b1 ∷ []) (list 7 (b2 ∷ b1 ∷ b3 ∷ [])) (sync 4) ≡ None
falls_not_yet = refl

falls : next_route all (b1 ∷ []) (list 7 (b2 ∷ b1 ∷ b3 ∷ [])) (sync 7) ≡ Some (b1 ∷ [])
falls = refl

-- ---- a shard's list

-- the first consumer expires: its standby goes to its place, and the new one behind it
standby : next_list (c2 ∷ c3 ∷ []) (list 4 (c1 ∷ c3 ∷ [])) ≡ Some (c3 ∷ c2 ∷ [])
standby = refl

-- in any order it stays
same_consumers : next_list (c2 ∷ c3 ∷ []) (list 4 (c3 ∷ c2 ∷ [])) ≡ None
same_consumers = refl

-- disabled, so placed on none: the list is emptied, and where there is no key nothing is written
disabled : next_list [] (list 4 (c1 ∷ [])) ≡ Some []
disabled = refl

never_listed : next_list [] None ≡ None
never_listed = refl

still_empty : next_list [] (list 4 []) ≡ None
still_empty = refl

-- ---- what is read

abbrev held : List ℕ → ℕ → Held
held value revision = record { value = value; mod_revision = revision }

abbrev member : Bool → List ℕ → List ℕ → ℕ → MemberView
member consumer id zone revision = record { joined = record { consumer = consumer; spec = record { id = id; zone = zone; limit = 4 } }; revision = revision }

-- a member, and one whose value isn't of its form
members_read : (view_of ((codes "member/b1", held (codes "broker z 4") 1) ∷ (codes "member/b2", held (codes "broker z") 2) ∷ [])).members
    ≡ member false b1 (codes "z") 1 ∷ []
unfolding is_id
members_read = refl

-- ---- a whole view

abbrev journal : ℕ → Option Listed → Option Synced → JournalView
journal replication route synced = record {
  spec = record { name = x; replication = replication; labels = []; fragment_length = 1 };
  revision = 1;
  route = route;
  sync = synced;
}

abbrev shard : Bool → Option Listed → ShardView
shard disable consumers = record {
  spec = record {
    id = s;
    sources = [];
    recovery_log_prefix = x;
    hint_prefix = x;
    hint_backups = 0;
    hot_standbys = 1;
    disable = disable;
    labels = [];
  };
  revision = 2;
  list = consumers;
}

-- b1 and c1 were there first; then they expired, and b3 and c3 joined
abbrev seen : View
seen = record {
  journals = journal 2 (list 5 (b1 ∷ b2 ∷ [])) (sync 5) ∷ [];
  shards = shard false (list 6 (c1 ∷ c2 ∷ [])) ∷ [];
  members = member false b2 (codes "z2") 3 ∷ member false b3 (codes "z3") 8 ∷ member true c2 (codes "z2") 4 ∷ member true c3 (codes "z3") 9 ∷ [];
}

now : routes_now seen ≡ (x, b2) ∷ []
now = refl

lists : lists_now seen ≡ (s, c2) ∷ []
lists = refl

-- a transaction of a key, the revision that it compares, and the text that it puts
abbrev txn : List ℕ → ℕ → List ℕ → Txn
txn key revision text = record { compare = record { key = key; mod_revision = revision }; write = put_of key text }

-- with the journal on b2 and b3, and the shard on c2 and c3
both : txns_of seen ((x, b2) ∷ (x, b3) ∷ []) ((s, c2) ∷ (s, c3) ∷ [])
    ≡ txn (codes "route/x") 5 (codes "b2,b3") ∷ txn (codes "assign/s") 6 (codes "c2,c3") ∷ []
both = refl

-- where nothing can be placed, the route stays and the list is emptied
neither : txns_of seen [] [] ≡ txn (codes "assign/s") 6 [] ∷ []
neither = refl

-- ---- converges one after another

abbrev round : Pairs → Round
round goal = record { view = seen; answer = record { txns = []; goal = goal; shards = [] } }

-- the answer changes from b1 and b2 to b2 and b3, and then back
one_change : changes (round ((x, b1) ∷ (x, b2) ∷ []) ∷ round ((x, b1) ∷ (x, b2) ∷ []) ∷ round ((x, b2) ∷ (x, b3) ∷ []) ∷ []) ≡ 1
one_change = refl

two_changes : changes (round ((x, b1) ∷ (x, b2) ∷ []) ∷ round ((x, b2) ∷ (x, b3) ∷ []) ∷ round ((x, b1) ∷ (x, b2) ∷ []) ∷ []) ≡ 2
two_changes = refl
