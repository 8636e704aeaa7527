-- Specifications as JSON with every member.
use Rattle.std.specs.Prelude.{ℕ, List, [], ◌∷◌, map, if◌then◌else◌, codes}
use Rattle.std.specs.Str.{bytes_eq}
use Rattle.serde_json.specs.Data.{Data, boolean, number, unsigned, string, array, object, Members, no_members, member, put}
use Rattle.serde_json.specs.View.{items_of}
use Rattle.serde_json.specs.Written.{compact_text}
use Rattle.gz_label.specs.declared.label.Label.{Label}
use Rattle.gz_spec.specs.Records.{JournalSpec, SourceSpec, ShardSpec, MemberSpec, Specs}

abbrev pub list_data : List Data → Data
list_data ds = array (items_of ds)

abbrev pub number_data : ℕ → Data
number_data n = number (unsigned n)

-- ---- labels

-- the values of the first labels, as long as they have this name
abbrev pub first_values : List ℕ → List Label → List (List ℕ)
first_values name [] = []
first_values name (l ∷ ls) = if bytes_eq l.name name then l.value ∷ first_values name ls else []

-- the name of the first label, with the values of the first labels
abbrev pub with_first : List Label → Members → Members
with_first [] ms = ms
with_first (l ∷ ls) ms = put l.name (list_data (map string (first_values l.name (l ∷ ls)))) ms

-- each name of the labels, with its values
abbrev pub label_members : List Label → Members
label_members [] = no_members
label_members (l ∷ ls) = with_first (l ∷ ls) (label_members ls)

abbrev pub labels_data : List Label → Data
labels_data labels = object (label_members labels)

-- ---- one specification

abbrev pub fragment_data : ℕ → Data
fragment_data bytes =
    object (member (codes "compression_codec") (string (codes "NONE"))
    (member (codes "length") (number_data bytes) no_members))

abbrev pub journal_data : JournalSpec → Data
journal_data j =
    object (member (codes "fragment") (fragment_data j.fragment_length)
    (member (codes "labels") (labels_data j.labels)
    (member (codes "name") (string j.name)
    (member (codes "replication") (number_data j.replication) no_members))))

abbrev pub source_data : SourceSpec → Data
source_data s =
    object (member (codes "journal") (string s.journal)
    (member (codes "min_offset") (number_data s.min_offset) no_members))

abbrev pub shard_data : ShardSpec → Data
shard_data s =
    object (member (codes "disable") (boolean s.disable)
    (member (codes "hint_backups") (number_data s.hint_backups)
    (member (codes "hint_prefix") (string s.hint_prefix)
    (member (codes "hot_standbys") (number_data s.hot_standbys)
    (member (codes "id") (string s.id)
    (member (codes "labels") (labels_data s.labels)
    (member (codes "recovery_log_prefix") (string s.recovery_log_prefix)
    (member (codes "sources") (list_data (map source_data s.sources)) no_members))))))))

abbrev pub member_data : MemberSpec → Data
member_data m =
    object (member (codes "id") (string m.id)
    (member (codes "limit") (number_data m.limit)
    (member (codes "zone") (string m.zone) no_members)))

-- ---- the four lists

abbrev pub four_lists : Specs → Members
four_lists s =
    member (codes "brokers") (list_data (map member_data s.brokers))
    (member (codes "consumers") (list_data (map member_data s.consumers))
    (member (codes "journals") (list_data (map journal_data s.journals))
    (member (codes "shards") (list_data (map shard_data s.shards)) no_members)))

abbrev pub specs_data : Specs → Data
specs_data s = object (four_lists s)

-- the four lists, and the event that says them
unfoldable pub specs_data_as : List ℕ → Specs → Data
specs_data_as event s = object (put (codes "do") (string event) (four_lists s))

-- ---- as text

unfoldable pub journal_text : JournalSpec → List ℕ
journal_text j = compact_text (journal_data j)

unfoldable pub shard_text : ShardSpec → List ℕ
shard_text s = compact_text (shard_data s)

unfoldable pub specs_text : Specs → List ℕ
specs_text s = compact_text (specs_data s)
