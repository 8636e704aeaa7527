-- Specifications with more of them: journals and shards of one name are replaced, and new ones follow.
use Rattle.std.specs.Prelude.{ℕ, ◌+◌, List, [], ◌∷◌, ◌++◌, length, map, filter, not, Bool, true, Option, Some, None, is_some, unwrap_or, Result, Ok, Err, if◌then◌else◌, codes}
use Rattle.std.specs.Str.{bytes_eq}
use Rattle.std.specs.Cmp.Lexicographic.{pointwise}
use Rattle.gz_model.specs.Steps.{◌>>=◌}
use Rattle.gz_label.specs.Labels.{labels_named, same_label}
use Rattle.gz_label.specs.declared.label.Label.{Label}
use Rattle.gz_fields.specs.Paths.{below, at_place}
use Rattle.gz_fields.specs.Lists.{no_more_than}
use Rattle.gz_spec.specs.Specs.{name_of_journal, id_of_shard}
use Rattle.gz_links.specs.Whole.{whole}
use Rattle.gz_fields.specs.declared.error.FieldError.{FieldError}
use Rattle.gz_links.specs.declared.error.SpecError.{SpecError}
use Rattle.gz_fields.specs.declared.error.FieldError.TheVariants.{BadField}
use Rattle.gz_spec.specs.Limits.{max_journals, max_shards}
use Rattle.gz_spec.specs.Records.{JournalSpec, Specs}
use Rattle.gz_links.specs.Outcomes.{of_fields}

-- ---- lists of things with names

-- the thing of this name, if there is one
abbrev pub named_in : {A : Type 0} → (A → List ℕ) → List ℕ → List A → Option A
named_in name_of name [] = None
named_in name_of name (a ∷ as_) = if bytes_eq (name_of a) name then Some a else named_in name_of name as_

-- the one among more that has its name, or else itself
abbrev pub replaced : {A : Type 0} → (A → List ℕ) → List A → A → A
replaced name_of more a = unwrap_or (named_in name_of (name_of a) more) a

-- none of these has its name
abbrev pub is_new : {A : Type 0} → (A → List ℕ) → List A → A → Bool
is_new name_of old m = not (is_some (named_in name_of (name_of m) old))

-- Each in its place is replaced by the one among more that has its name, and the new ones follow in their order.
abbrev pub joined : {A : Type 0} → (A → List ℕ) → List A → List A → List A
joined name_of old more = map (replaced name_of more) old ++ filter (is_new name_of old) more

-- ---- what a journal holds

-- the labels say the same of what a journal holds
abbrev pub same_content : List Label → List Label → Bool
same_content a b = pointwise same_label (labels_named (codes "content-type") a) (labels_named (codes "content-type") b)

abbrev pub keeps_content : Option JournalSpec → JournalSpec → Bool
keeps_content None m = true
keeps_content (Some j) m = same_content j.labels m.labels

-- Of more, from place i on, the first that changes what a journal holds is a bad field.
abbrev pub contents_kept : List JournalSpec → ℕ → List JournalSpec → Result (Unit {0}) FieldError
contents_kept old i [] = Ok tt
contents_kept old i (m ∷ ms) = if keeps_content (named_in name_of_journal m.name old) m then contents_kept old (i + 1) ms else Err (BadField (below (at_place (codes "journals") i) (codes "labels")))

-- ---- specifications

-- the journals and shards of both; the members stay
abbrev pub both_of : Specs → Specs → Specs
both_of specs more = record {
  journals = joined name_of_journal specs.journals more.journals;
  shards = joined id_of_shard specs.shards more.shards;
  brokers = specs.brokers;
  consumers = specs.consumers;
}

-- No journal changes what it holds, the lists aren't too long, and then the shards are judged among the journals.
unfoldable pub join_of : Specs → Specs → Result Specs SpecError
join_of specs more = do
  _ ← of_fields (contents_kept specs.journals 0 more.journals)
  _ ← of_fields (no_more_than max_journals (codes "journals") (length (both_of specs more).journals))
  _ ← of_fields (no_more_than max_shards (codes "shards") (length (both_of specs more).shards))
  whole (both_of specs more)
