-- A shard's specification as JSON.
use Rattle.std.specs.Prelude.{ℕ, ◌^◌, List, [], ◌∷◌, length, Option, None, Result, Ok, Err, if◌then◌else◌, codes, nat_eq, false}
use Rattle.serde_json.specs.Data.{Data}
use Rattle.gz_model.specs.Steps.{◌>>=◌}
use Rattle.gz_label.specs.Labels.{values_of}
use Rattle.gz_label.specs.declared.label.Label.{Label}
use Rattle.gz_fields.specs.Paths.{below}
use Rattle.gz_fields.specs.Names.{is_id, is_journal_name}
use Rattle.gz_spec.specs.Reserved.{is_hint_prefix}
use Rattle.gz_fields.specs.Form.{value_of, found, has_only, name_at, name_or, number_or, flag_or, items_at}
use Rattle.gz_spec.specs.Labels.{labels_at}
use Rattle.gz_fields.specs.Lists.{count, no_more_than, unused, each}
use Rattle.gz_fields.specs.declared.error.FieldError.{FieldError}
use Rattle.gz_fields.specs.declared.error.FieldError.TheVariants.{BadField}
use Rattle.gz_app.specs.Applications.{app_named}
use Rattle.gz_app.specs.declared.app.AppKind.{AppKind}
use Rattle.gz_app.specs.declared.app.AppKind.TheVariants.{Count, Relay, Latest}
use Rattle.gz_spec.specs.Records.{SourceSpec, ShardSpec}

-- ---- sources

abbrev pub source_members : List (List ℕ)
source_members = codes "journal" ∷ codes "min_offset" ∷ []

-- a source, behind sources of these journals
unfoldable pub next_source : List ℕ → List (List ℕ) → Data → Result SourceSpec FieldError
next_source path used d = do
  _ ← has_only path source_members d
  journal ← name_at is_journal_name path (codes "journal") d
  _ ← unused (below path (codes "journal")) used journal
  min_offset ← number_or 0 0 (2 ^ 62) path (codes "min_offset") d
  Ok (record { journal = journal; min_offset = min_offset })

abbrev pub journal_named : SourceSpec → List ℕ
journal_named s = s.journal

-- a list of this length has something in it
abbrev pub not_empty : List ℕ → ℕ → Result (Unit {0}) FieldError
not_empty path n = if nat_eq n 0 then Err (BadField path) else Ok tt

-- 1 to 16 sources, no two of one journal
unfoldable pub sources_at : List ℕ → Data → Result (List SourceSpec) FieldError
sources_at path d = do
  items ← items_at path (codes "sources") d
  _ ← not_empty (below path (codes "sources")) (count items)
  _ ← no_more_than 16 (below path (codes "sources")) (count items)
  each next_source journal_named (below path (codes "sources")) 0 [] items

-- ---- what a shard does

-- One value names the application.
abbrev pub app_of : List (List ℕ) → Option AppKind
app_of [] = None
app_of (v ∷ []) = app_named v
app_of (v ∷ w ∷ vs) = None

-- The applications `count` and `relay` have 1 to 8 outputs, and `latest` has none.
abbrev pub outputs_fit : List ℕ → ℕ → AppKind → Result (Unit {0}) FieldError
outputs_fit path n Count = not_empty path n >>= λ _. no_more_than 8 path n
outputs_fit path n Relay = not_empty path n >>= λ _. no_more_than 8 path n
outputs_fit path n Latest = if nat_eq n 0 then Ok tt else Err (BadField path)

-- what a shard's labels say of its application and its outputs
unfoldable pub labels_fit : List ℕ → List Label → Result (Unit {0}) FieldError
labels_fit path labels = do
  app ← found path (app_of (values_of (codes "app") labels))
  outputs_fit path (length (values_of (codes "output") labels)) app

-- ---- shards

abbrev pub shard_members : List (List ℕ)
shard_members = codes "id" ∷ codes "sources" ∷ codes "recovery_log_prefix" ∷ codes "hint_prefix" ∷ codes "hint_backups" ∷ codes "hot_standbys" ∷ codes "disable" ∷ codes "labels" ∷ []

-- the shard of this id, by what follows the id
unfoldable pub shard_with : List ℕ → List ℕ → Data → Result ShardSpec FieldError
shard_with path id d = do
  sources ← sources_at path d
  recovery_log_prefix ← name_at is_journal_name path (codes "recovery_log_prefix") d
  hint_prefix ← name_or is_hint_prefix (codes "hint") path (codes "hint_prefix") d
  hint_backups ← number_or 0 0 4 path (codes "hint_backups") d
  hot_standbys ← number_or 0 0 4 path (codes "hot_standbys") d
  disable ← flag_or false path (codes "disable") d
  labels ← labels_at path d
  _ ← labels_fit (below path (codes "labels")) labels
  Ok (record { id = id; sources = sources; recovery_log_prefix = recovery_log_prefix; hint_prefix = hint_prefix; hint_backups = hint_backups; hot_standbys = hot_standbys; disable = disable; labels = labels })

-- a shard by itself
unfoldable pub shard_at : List ℕ → Data → Result ShardSpec FieldError
shard_at path d = do
  _ ← has_only path shard_members d
  id ← name_at is_id path (codes "id") d
  shard_with path id d

-- a shard in a list, behind shards of these ids
unfoldable pub next_shard : List ℕ → List (List ℕ) → Data → Result ShardSpec FieldError
next_shard path used d = do
  _ ← has_only path shard_members d
  id ← name_at is_id path (codes "id") d
  _ ← unused (below path (codes "id")) used id
  shard_with path id d

-- the shard that a text is
unfoldable pub shard_of : List ℕ → Result ShardSpec FieldError
shard_of bytes = do
  d ← value_of bytes
  shard_at [] d
