-- What the key space says of journals, shards and members.
use Rattle.std.specs.Prelude.{ℕ, ◌++◌, List, length, take, drop, filter_map, Option, Some, None, option_map, option_and_then, if◌then◌else◌, codes}
use Rattle.std.specs.Result.{result_ok}
use Rattle.std.specs.Str.{bytes_eq}
use Rattle.gz_spec.specs.Records.{JournalSpec, ShardSpec}
use Rattle.gz_spec.specs.Journals.{journal_of}
use Rattle.gz_spec.specs.Shards.{shard_of}
use Rattle.gz_keyspace.specs.declared.table.Held.{Held}
use Rattle.gz_keyspace.specs.Keys.{KeyMap, held_at}
use Rattle.gz_keyspace.specs.Formats.{ids_of, number_of, joined_of}
use Rattle.gz_converge.specs.declared.view.Listed.{Listed}
use Rattle.gz_converge.specs.declared.view.Synced.{Synced}
use Rattle.gz_converge.specs.declared.view.JournalView.{JournalView}
use Rattle.gz_converge.specs.declared.view.ShardView.{ShardView}
use Rattle.gz_converge.specs.declared.view.MemberView.{MemberView}

-- what the key space says: journals in the order of their names, shards and members in that of their ids
pub record View : Type 0 where
  pub journals : List JournalView
  pub shards : List ShardView
  pub members : List MemberView

-- what stands behind the word that a text begins with
abbrev pub behind : List ℕ → List ℕ → Option (List ℕ)
behind word text = if bytes_eq (take (length word) text) word then Some (drop (length word) text) else None

-- a row of the key space: a key with its value and the revision of the change that put it
abbrev pub row_of : List ℕ → List ℕ → ℕ → List ℕ × Held
row_of key value revision = (key, record { value = value; mod_revision = revision })

-- ---- values

-- the list that a key has, where its value is one
abbrev pub listed : Held → Option Listed
listed held = option_map (λ ids. record { ids = ids; revision = held.mod_revision }) (ids_of held.value)

-- the epoch that a key has, where its value is one
abbrev pub synced : Held → Option Synced
synced held = option_map (λ epoch. record { epoch = epoch; revision = held.mod_revision }) (number_of held.value)

-- the journal's specification that the value is, where it is one of this name
abbrev pub journal_named : List ℕ → List ℕ → Option JournalSpec
journal_named name value = option_and_then (λ spec. if bytes_eq spec.name name then Some spec else None) (result_ok (journal_of value))

-- the shard's specification that the value is, where it is one of this id
abbrev pub shard_named : List ℕ → List ℕ → Option ShardSpec
shard_named id value = option_and_then (λ spec. if bytes_eq spec.id id then Some spec else None) (result_ok (shard_of value))

-- ---- keys

abbrev pub route_key : List ℕ → List ℕ
route_key name = codes "route/" ++ name

abbrev pub sync_key : List ℕ → List ℕ
sync_key name = codes "sync/" ++ name

abbrev pub assign_key : List ℕ → List ℕ
assign_key id = codes "assign/" ++ id

-- the list at a key
abbrev pub list_at : KeyMap → List ℕ → Option Listed
list_at keys key = option_and_then listed (held_at key keys)

-- the epoch at a key
abbrev pub sync_at : KeyMap → List ℕ → Option Synced
sync_at keys key = option_and_then synced (held_at key keys)

-- ---- the view

-- a journal of this specification, with its route and its sync key
abbrev pub journal_with : KeyMap → ℕ → JournalSpec → JournalView
journal_with keys revision spec = record {
  spec = spec;
  revision = revision;
  route = list_at keys (route_key spec.name);
  sync = sync_at keys (sync_key spec.name);
}

abbrev pub journal_at : KeyMap → List ℕ → Held → Option JournalView
journal_at keys name held = option_map (journal_with keys held.mod_revision) (journal_named name held.value)

-- a shard of this specification, with its list
abbrev pub shard_with : KeyMap → ℕ → ShardSpec → ShardView
shard_with keys revision spec = record { spec = spec; revision = revision; list = list_at keys (assign_key spec.id) }

abbrev pub shard_at : KeyMap → List ℕ → Held → Option ShardView
shard_at keys id held = option_map (shard_with keys held.mod_revision) (shard_named id held.value)

-- a member, as its key says it
abbrev pub member_at : List ℕ → Held → Option MemberView
member_at id held = option_map (λ joined. record { joined = joined; revision = held.mod_revision }) (joined_of id held.value)

-- what a row of the key space says of a journal, of a shard and of a member
abbrev pub journal_in : KeyMap → List ℕ × Held → Option JournalView
journal_in keys row = option_and_then (λ name. journal_at keys name row.1) (behind (codes "journal/") row.0)

abbrev pub shard_in : KeyMap → List ℕ × Held → Option ShardView
shard_in keys row = option_and_then (λ id. shard_at keys id row.1) (behind (codes "shard/") row.0)

abbrev pub member_in : List ℕ × Held → Option MemberView
member_in row = option_and_then (λ id. member_at id row.1) (behind (codes "member/") row.0)

-- What these keys say. A value that isn't of its key's form is left out.
abbrev pub view_of : KeyMap → View
view_of keys = record {
  journals = filter_map (journal_in keys) keys;
  shards = filter_map (shard_in keys) keys;
  members = filter_map member_in keys;
}
