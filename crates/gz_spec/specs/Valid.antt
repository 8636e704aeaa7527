-- Specifications that have nothing to refuse, but that a journal isn't there or that shards reach themselves.
use Rattle.std.specs.Prelude.{ℕ, ◌^◌, ◌+◌, ◌&&◌, List, [], ◌∷◌, ◌++◌, length, map, Bool, true, false, not, Option, Some, None, codes, nat_le, nat_eq}
use Rattle.std.specs.List.{list_all}
use Rattle.gz_label.specs.Labels.{is_label_set, values_of}
use Rattle.gz_label.specs.declared.label.Label.{Label}
use Rattle.gz_fields.specs.Names.{is_id, is_journal_name}
use Rattle.gz_spec.specs.Reserved.{is_reserved, is_hint_prefix}
use Rattle.gz_fields.specs.Lists.{is_used}
use Rattle.gz_fields.specs.Form.{is_between}
use Rattle.gz_spec.specs.Limits.{max_journals, max_shards, max_members, max_limit}
use Rattle.gz_spec.specs.Shards.{app_of, journal_named}
use Rattle.gz_spec.specs.Specs.{name_of_journal, id_of_shard, id_of_member}
use Rattle.gz_app.specs.declared.app.AppKind.{AppKind}
use Rattle.gz_app.specs.declared.app.AppKind.TheVariants.{Count, Relay, Latest}
use Rattle.gz_spec.specs.Records.{JournalSpec, SourceSpec, ShardSpec, MemberSpec, Specs}

-- no two of one name, and none of the used ones
abbrev pub are_fresh : {A : Type 0} → (A → List ℕ) → List (List ℕ) → List A → Bool
are_fresh name_of used [] = true
are_fresh name_of used (a ∷ as_) = not (is_used used (name_of a)) && are_fresh name_of (used ++ name_of a ∷ []) as_

-- ---- one specification

abbrev pub is_journal : JournalSpec → Bool
is_journal j = is_journal_name j.name && (is_between 1 5 j.replication && (is_label_set j.labels && is_between 1 1073741824 j.fragment_length))

abbrev pub is_source : SourceSpec → Bool
is_source s = is_journal_name s.journal && is_between 0 (2 ^ 62) s.min_offset

-- The applications `count` and `relay` have 1 to 8 outputs, and `latest` has none.
abbrev pub app_takes : ℕ → Option AppKind → Bool
app_takes n None = false
app_takes n (Some Count) = is_between 1 8 n
app_takes n (Some Relay) = is_between 1 8 n
app_takes n (Some Latest) = nat_eq n 0

abbrev pub are_shard_labels : List Label → Bool
are_shard_labels labels = app_takes (length (values_of (codes "output") labels)) (app_of (values_of (codes "app") labels))

-- 1 to 16 sources, no two of one journal
abbrev pub are_sources : List SourceSpec → Bool
are_sources sources = is_between 1 16 (length sources) && (list_all is_source sources && are_fresh journal_named [] sources)

abbrev pub is_shard : ShardSpec → Bool
is_shard s =
    is_id s.id && (are_sources s.sources && (is_journal_name s.recovery_log_prefix && (is_hint_prefix s.hint_prefix
    && (is_between 0 4 s.hint_backups && (is_between 0 4 s.hot_standbys && (is_label_set s.labels && are_shard_labels s.labels))))))

-- a member by itself, of a reserved id too
abbrev pub is_lone_member : MemberSpec → Bool
is_lone_member m = is_id m.id && (is_id m.zone && is_between 0 max_limit m.limit)

-- a member of a cluster
abbrev pub is_member : MemberSpec → Bool
is_member m = is_id m.id && (not (is_reserved m.id) && (is_id m.zone && is_between 0 max_limit m.limit))

-- ---- the four lists

abbrev pub are_journals : List JournalSpec → Bool
are_journals js = nat_le (length js) max_journals && (list_all is_journal js && are_fresh name_of_journal [] js)

abbrev pub are_shards : List ShardSpec → Bool
are_shards ss = nat_le (length ss) max_shards && (list_all is_shard ss && are_fresh id_of_shard [] ss)

-- members behind those of these ids, at most 64 in all
abbrev pub are_members : List (List ℕ) → List MemberSpec → Bool
are_members used ms = nat_le (length used + length ms) max_members && (list_all is_member ms && are_fresh id_of_member used ms)

abbrev pub are_specs : Specs → Bool
are_specs s = are_journals s.journals && (are_shards s.shards && (are_members [] s.brokers && are_members (map id_of_member s.brokers) s.consumers))
