-- What the journals and shards of a cluster are, by its specifications.
use Rattle.std.specs.Prelude.{◌≡◌, ℕ, List, [], ◌∷◌, map, filter, Option, Some, None, true, codes}
use Rattle.std.specs.Ordering.{nat_cmp}
use Rattle.std.specs.Cmp.Lexicographic.{slice_cmp}
use Rattle.std.specs.BTreeMap.{insert_entry}
use Rattle.gz_label.specs.Labels.{values_of}
use Rattle.gz_spec.specs.Records.{JournalSpec, SourceSpec, ShardSpec, Specs}
use Rattle.gz_links.specs.Joins.{is_new}
use Rattle.gz_links.specs.Links.{outputs_of}
use Rattle.gz_spec.specs.Shards.{app_of}
use Rattle.gz_spec.specs.Specs.{name_of_journal}
use Rattle.gz_spec.specs.Valid.{are_specs}
use Rattle.gz_app.specs.declared.app.AppKind.{AppKind}
use Rattle.gz_app.specs.declared.app.AppKind.TheVariants.{Count, Relay, Latest}
use Rattle.gz_plain.specs.Definitions as shards
use Rattle.gz_plain.specs.Definitions.{Definition}
use Rattle.gz_plain.specs.Places.{names_of}
use Rattle.gz_plain.specs.Runs.{nothing, changed}
use Rattle.gz_plain.specs.Shards as plain
use Rattle.gz_promise.specs.Sources.{Source}

-- ---- the order of shards

-- the shards in ascending order of their ids, each beside its id
abbrev pub put_shards : List ShardSpec → List (List ℕ × ShardSpec) → List (List ℕ × ShardSpec)
put_shards [] entries = entries
put_shards (s ∷ ss) entries = put_shards ss (insert_entry (slice_cmp nat_cmp) entries s.id s)

abbrev pub in_id_order : List ShardSpec → List (List ℕ × ShardSpec)
in_id_order shards = put_shards shards []

-- ---- a shard

-- The application of this name. A shard that was read has one.
abbrev pub kind_of : Option AppKind → AppKind
kind_of None = Count
kind_of (Some app) = app

-- a source is read from its least offset on
abbrev pub source_of : SourceSpec → Source
source_of s = record { journal = s.journal; from = s.min_offset }

abbrev pub definition_of : ShardSpec → Definition
definition_of s = record {
  id = s.id;
  log = s.recovery_log_prefix;
  sources = map source_of s.sources;
  outputs = outputs_of s;
  app = kind_of (app_of (values_of (codes "app") s.labels));
  is_disabled = s.disable;
}

-- ---- all of them

-- the shard of an entry
abbrev pub defined : List ℕ × ShardSpec → Definition
defined e = definition_of e.1

-- what the shards are said to be, in the order of their ids
abbrev pub definitions_of : List ShardSpec → List Definition
definitions_of shards = map defined (in_id_order shards)

-- the names of journals, in their order
abbrev pub names_of_journals : List JournalSpec → List (List ℕ)
names_of_journals journals = map name_of_journal journals

-- empty journals, and shards that have read nothing
abbrev pub cluster_start : Specs → plain.World
cluster_start specs = changed (names_of_journals specs.journals) (definitions_of specs.shards) nothing

-- ---- with more of them

-- the journals among more that aren't there
abbrev pub new_journals : Specs → Specs → List JournalSpec
new_journals specs more = filter (is_new name_of_journal specs.journals) more.journals

-- The cluster where specifications come to more of them, and all together are these: the new journals are empty, and
-- each shard is from now on what they say.
abbrev pub cluster_with : Specs → Specs → Specs → plain.World → plain.World
cluster_with specs more all w = changed (names_of_journals (new_journals specs more)) (definitions_of all.shards) w

-- ---- what holds at each time

-- A cluster is as specifications say, in which there is nothing to refuse: its journals are those that they name, and its
-- shards are of their definitions.
pub record IsSpecified (specs : Specs) (w : plain.World) : Type 0 where
  pub valid : are_specs specs ≡ true
  pub names : names_of w.journals ≡ names_of_journals specs.journals
  pub said : map shards.definition_of w.shards ≡ definitions_of specs.shards
