-- What a cluster puts into its key space.
use Rattle.std.specs.Prelude.{ℕ, ◌++◌, List, [], ◌∷◌, map, Bool, true, false, codes}
use Rattle.std.specs.Ordering.{nat_cmp}
use Rattle.std.specs.Cmp.Lexicographic.{slice_cmp}
use Rattle.std.specs.Map.{values_of}
use Rattle.std.specs.BTreeMap.{insert_entry}
use Rattle.gz_label.specs.declared.keys.KeyWrite.{KeyWrite}
use Rattle.gz_spec.specs.Records.{JournalSpec, ShardSpec, MemberSpec, Specs}
use Rattle.gz_print.specs.Printed.{journal_text, shard_text}
use Rattle.gz_keyspace.specs.declared.formats.Joined.{Joined}
use Rattle.gz_keyspace.specs.Space.{put_of}

-- ---- order

-- these things, each beside its name, put one after another among those that are in ascending order of their names
abbrev pub put_named : {A : Type 0} → List (List ℕ × A) → List (List ℕ × A) → List (List ℕ × A)
put_named [] sorted = sorted
put_named (e ∷ es) sorted = put_named es (insert_entry (slice_cmp nat_cmp) sorted e.0 e.1)

-- these things, each beside its name, in ascending order of their names
abbrev pub in_order : {A : Type 0} → List (List ℕ × A) → List A
in_order named = values_of (put_named named [])

-- ---- keys

abbrev pub journal_key : List ℕ → List ℕ
journal_key name = codes "journal/" ++ name

abbrev pub shard_key : List ℕ → List ℕ
shard_key id = codes "shard/" ++ id

abbrev pub member_key : List ℕ → List ℕ
member_key id = codes "member/" ++ id

-- ---- specifications

abbrev pub journal_put : JournalSpec → KeyWrite
journal_put j = put_of (journal_key j.name) (journal_text j)

abbrev pub shard_put : ShardSpec → KeyWrite
shard_put s = put_of (shard_key s.id) (shard_text s)

-- a journal's write beside its name
abbrev pub journal_write : JournalSpec → List ℕ × KeyWrite
journal_write j = (j.name, journal_put j)

-- a shard's write beside its id
abbrev pub shard_write : ShardSpec → List ℕ × KeyWrite
shard_write s = (s.id, shard_put s)

-- the writes of all journals in the order of their names, and then those of all shards in the order of their ids
abbrev pub writes_of : Specs → List KeyWrite
writes_of specs = in_order (map journal_write specs.journals) ++ in_order (map shard_write specs.shards)

-- ---- members

-- a member beside its id: a consumer or else a broker
abbrev pub member_named : Bool → MemberSpec → List ℕ × Joined
member_named consumer m = (m.id, record { consumer = consumer; spec = m })

-- all brokers in the order of their ids, and then all consumers in theirs
abbrev pub members_of : Specs → List Joined
members_of specs = in_order (map (member_named false) specs.brokers) ++ in_order (map (member_named true) specs.consumers)
