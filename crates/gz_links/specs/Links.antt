-- The journals that shards name.
use Rattle.std.specs.Prelude.{ℕ, ◌+◌, List, [], ◌∷◌, ◌++◌, Option, Some, None, Result, Ok, Err, ◌&&◌, Bool, true, false, if◌then◌else◌, codes}
use Rattle.std.specs.List.{list_all}
use Rattle.std.specs.Str.{bytes_eq}
use Rattle.gz_model.specs.Steps.{◌>>=◌}
use Rattle.gz_label.specs.Labels.{values_of}
use Rattle.gz_fields.specs.Paths.{below, at_place}
use Rattle.gz_links.specs.declared.error.SpecError.{SpecError}
use Rattle.gz_links.specs.declared.error.SpecError.TheVariants.{NoJournal}
use Rattle.gz_spec.specs.declared.framing.Framing.{Framing}
use Rattle.gz_spec.specs.declared.framing.Framing.TheVariants.{Lines, FixedFrames, RecoveryLog, Bytes}
use Rattle.gz_spec.specs.Framings.{framing_in}
use Rattle.gz_spec.specs.Records.{JournalSpec, SourceSpec, ShardSpec}

-- what the journal of this name holds, if there is one
abbrev pub framing_at : List JournalSpec → List ℕ → Option Framing
framing_at [] name = None
framing_at (j ∷ js) name = if bytes_eq j.name name then Some (framing_in j.labels) else framing_at js name

-- ---- what a shard names

-- a journal that isn't a recovery log
abbrev pub is_readable : Option Framing → Bool
is_readable None = false
is_readable (Some Lines) = true
is_readable (Some FixedFrames) = true
is_readable (Some RecoveryLog) = false
is_readable (Some Bytes) = true

abbrev pub is_lines : Option Framing → Bool
is_lines None = false
is_lines (Some Lines) = true
is_lines (Some FixedFrames) = false
is_lines (Some RecoveryLog) = false
is_lines (Some Bytes) = false

abbrev pub is_log : Option Framing → Bool
is_log None = false
is_log (Some Lines) = false
is_log (Some FixedFrames) = false
is_log (Some RecoveryLog) = true
is_log (Some Bytes) = false

-- the sources from place k on
abbrev pub sources_linked : List JournalSpec → List ℕ → ℕ → List SourceSpec → Result (Unit {0}) SpecError
sources_linked journals path k [] = Ok tt
sources_linked journals path k (s ∷ ss) = if is_readable (framing_at journals s.journal) then sources_linked journals path (k + 1) ss else Err (NoJournal (at_place path k))

-- A shard's recovery log has the prefix, `/` and the shard's id for a name.
abbrev pub log_name : ShardSpec → List ℕ
log_name shard = shard.recovery_log_prefix ++ codes "/" ++ shard.id

abbrev pub log_linked : List JournalSpec → List ℕ → ShardSpec → Result (Unit {0}) SpecError
log_linked journals path shard = if is_log (framing_at journals (log_name shard)) then Ok tt else Err (NoJournal (below path (codes "recovery_log_prefix")))

abbrev pub outputs_of : ShardSpec → List (List ℕ)
outputs_of shard = values_of (codes "output") shard.labels

abbrev pub outputs_linked : List JournalSpec → List ℕ → ShardSpec → Result (Unit {0}) SpecError
outputs_linked journals path shard = if list_all (λ o. is_lines (framing_at journals o)) (outputs_of shard) then Ok tt else Err (NoJournal (below path (codes "labels")))

-- the journals of one shard: its sources, its recovery log, and its outputs
unfoldable pub shard_linked : List JournalSpec → List ℕ → ShardSpec → Result (Unit {0}) SpecError
shard_linked journals path shard = do
  _ ← sources_linked journals (below path (codes "sources")) 0 shard.sources
  _ ← log_linked journals path shard
  outputs_linked journals path shard

-- the journals of the shards from place i on
abbrev pub all_linked : List JournalSpec → ℕ → List ShardSpec → Result (Unit {0}) SpecError
all_linked journals i [] = Ok tt
all_linked journals i (s ∷ ss) = shard_linked journals (at_place (codes "shards") i) s >>= λ _. all_linked journals (i + 1) ss

-- ---- shards whose journals are all there

-- Each source can be read, the recovery log is one, and each output is a journal of lines.
abbrev pub is_linked : List JournalSpec → ShardSpec → Bool
is_linked journals shard =
    list_all (λ s. is_readable (framing_at journals s.journal)) shard.sources
    && (is_log (framing_at journals (log_name shard)) && list_all (λ o. is_lines (framing_at journals o)) (outputs_of shard))

abbrev pub are_linked : List JournalSpec → List ShardSpec → Bool
are_linked journals shards = list_all (is_linked journals) shards
