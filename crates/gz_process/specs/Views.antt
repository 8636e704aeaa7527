-- What the mirror of a consumer says of shards, and of the members of journals.
use Rattle.std.specs.Prelude.{ℕ, List, ◌++◌, Bool, false, Option, Some, None, option_and_then, option_map, slice_get, codes}
use Rattle.std.specs.Str.{bytes_eq}
use Rattle.gz_label.specs.Labels.{values_of}
use Rattle.gz_keyspace.specs.declared.table.Held.{Held}
use Rattle.gz_keyspace.specs.Keys.{held_at}
use Rattle.gz_keyspace.specs.Mirrors.{Mirrored}
use Rattle.gz_keyspace.specs.Formats.{is_in}
use Rattle.gz_spec.specs.Records.{ShardSpec}
use Rattle.gz_spec.specs.Shards.{app_of}
use Rattle.gz_app.specs.declared.app.AppKind.{AppKind}
use Rattle.gz_registry.specs.Keys.{shard_key}
use Rattle.gz_converge.specs.Views.{route_key, assign_key, list_at, shard_named}
use Rattle.gz_converge.specs.Cases.{ids_in}
use Rattle.gz_process.specs.Processes.{Definition}

-- the ids that a key lists, none where it is absent
abbrev pub ids_at : List ℕ → Mirrored → List (List ℕ)
ids_at key m = ids_in (list_at m.keys key)

-- the node that requests on a journal go to: the first member of its route
abbrev pub asked_node : List ℕ → Mirrored → Option (List ℕ)
asked_node journal m = slice_get (ids_at (route_key journal) m) 0

-- the consumer is among those that the shard is given to
abbrev pub is_listed : List ℕ → List ℕ → Mirrored → Bool
is_listed name shard m = is_in name (ids_at (assign_key shard) m)

abbrev pub is_it : List ℕ → Option (List ℕ) → Bool
is_it name None = false
is_it name (Some first) = bytes_eq name first

-- it is the first of them
abbrev pub is_primary : List ℕ → List ℕ → Mirrored → Bool
is_primary name shard m = is_it name (slice_get (ids_at (assign_key shard) m) 0)

abbrev pub defined_as : ShardSpec → AppKind → Definition
defined_as spec app = record {
  id = spec.id;
  log = spec.recovery_log_prefix ++ (codes "/" ++ spec.id);
  sources = spec.sources;
  outputs = values_of (codes "output") spec.labels;
  app = app;
}

-- what a specification says that a shard is
abbrev pub defined_by : ShardSpec → Option Definition
defined_by spec = option_map (defined_as spec) (app_of (values_of (codes "app") spec.labels))

abbrev pub definition_in : List ℕ → Option Held → Option Definition
definition_in shard held = option_and_then (λ h. option_and_then defined_by (shard_named shard h.value)) held

-- what a shard is said to be, where its key has a specification of it
abbrev pub definition_of : List ℕ → Mirrored → Option Definition
definition_of shard m = definition_in shard (held_at (shard_key shard) m.keys)
