-- What a client may write into the key space: specifications, each under its key and once, that join those that are there.
use Rattle.std.specs.Prelude.{ℕ, List, [], ◌∷◌, filter_map, map, Bool, true, false, not, ◌&&◌, Option, Some, None, is_some, option_and_then, if◌then◌else◌, codes}
use Rattle.std.specs.Result.{is_ok}
use Rattle.gz_label.specs.declared.keys.KeyWrite.{KeyWrite}
use Rattle.gz_keyspace.specs.Keys.{KeyMap}
use Rattle.gz_keyspace.specs.Formats.{is_in}
use Rattle.gz_spec.specs.Records.{JournalSpec, ShardSpec, Specs}
use Rattle.gz_links.specs.Joins.{join_of}
use Rattle.gz_converge.specs.Views.{View, view_of, behind, journal_named, shard_named}

-- the specification of a journal that is written, under its key
abbrev pub journal_written : KeyWrite → Option JournalSpec
journal_written w = option_and_then (λ name. option_and_then (journal_named name) w.value) (behind (codes "journal/") w.key)

abbrev pub shard_written : KeyWrite → Option ShardSpec
shard_written w = option_and_then (λ id. option_and_then (shard_named id) w.value) (behind (codes "shard/") w.key)

abbrev pub is_spec : KeyWrite → Bool
is_spec w = if is_some (journal_written w) then true else is_some (shard_written w)

-- the first write that is no specification under its key, or whose key is among those before
abbrev pub first_bad : List (List ℕ) → List KeyWrite → Option (List ℕ)
first_bad before [] = None
first_bad before (w ∷ ws) = if is_spec w && not (is_in w.key before) then first_bad (w.key ∷ before) ws else Some w.key

-- the specifications that the keys have
abbrev pub specs_in : View → Specs
specs_in view = record { journals = map (λ j. j.spec) view.journals; shards = map (λ s. s.spec) view.shards; brokers = []; consumers = [] }

-- those that are written
abbrev pub specs_written : List KeyWrite → Specs
specs_written writes = record { journals = filter_map journal_written writes; shards = filter_map shard_written writes; brokers = []; consumers = [] }

abbrev pub do_join : KeyMap → List KeyWrite → Bool
do_join keys writes = is_ok (join_of (specs_in (view_of keys)) (specs_written writes))

-- where the specifications don't join, the first key that is written
abbrev pub unless_joined : Bool → List KeyWrite → Option (List ℕ)
unless_joined joins [] = None
unless_joined joins (w ∷ ws) = if joins then None else Some w.key

abbrev pub or_unless_joined : Option (List ℕ) → KeyMap → List KeyWrite → Option (List ℕ)
or_unless_joined (Some key) keys writes = Some key
or_unless_joined None keys writes = unless_joined (do_join keys writes) writes

-- the key for which a client's transaction isn't allowed, None where it is
abbrev pub first_offender : KeyMap → List KeyWrite → Option (List ℕ)
first_offender keys writes = or_unless_joined (first_bad [] writes) keys writes
