-- A journal's specification as JSON.
use Rattle.std.specs.Prelude.{ℕ, List, [], ◌∷◌, Option, Some, None, Result, Ok, Err, if◌then◌else◌, codes}
use Rattle.std.specs.Str.{bytes_eq}
use Rattle.serde_json.specs.Data.{Data}
use Rattle.serde_json.specs.Find.{get, as_str}
use Rattle.gz_model.specs.Steps.{◌>>=◌}
use Rattle.gz_fields.specs.Paths.{below}
use Rattle.gz_fields.specs.Names.{is_journal_name}
use Rattle.gz_fields.specs.Form.{value_of, found, has_only, name_at, number_or}
use Rattle.gz_spec.specs.Labels.{labels_at}
use Rattle.gz_fields.specs.Lists.{unused}
use Rattle.gz_fields.specs.declared.error.FieldError.{FieldError}
use Rattle.gz_fields.specs.declared.error.FieldError.TheVariants.{Unsupported}
use Rattle.gz_spec.specs.Records.{JournalSpec}

abbrev pub journal_members : List (List ℕ)
journal_members = codes "name" ∷ codes "replication" ∷ codes "labels" ∷ codes "fragment" ∷ []

abbrev pub fragment_members : List (List ℕ)
fragment_members = codes "length" ∷ codes "compression_codec" ∷ []

-- ---- fragments

-- the bytes of a fragment, where nothing else is said
abbrev pub default_fragment : ℕ
default_fragment = 67108864

-- Fragments aren't compressed.
abbrev pub codec_named : List ℕ → List ℕ → Result (Unit {0}) FieldError
codec_named path text = if bytes_eq text (codes "NONE") then Ok tt else Err (Unsupported path)

abbrev pub codec_if : List ℕ → Option Data → Result (Unit {0}) FieldError
codec_if path None = Ok tt
codec_if path (Some d) = found path (as_str d) >>= λ text. codec_named path text

unfoldable pub fragment_in : List ℕ → Data → Result ℕ FieldError
fragment_in path d = do
  _ ← has_only path fragment_members d
  bytes ← number_or default_fragment 1 1073741824 path (codes "length") d
  _ ← codec_if (below path (codes "compression_codec")) (get (codes "compression_codec") d)
  Ok bytes

abbrev pub fragment_if : List ℕ → Option Data → Result ℕ FieldError
fragment_if path None = Ok default_fragment
fragment_if path (Some d) = fragment_in path d

abbrev pub fragment_at : List ℕ → Data → Result ℕ FieldError
fragment_at path d = fragment_if (below path (codes "fragment")) (get (codes "fragment") d)

-- ---- journals

-- the journal of this name, by what follows the name
unfoldable pub journal_with : List ℕ → List ℕ → Data → Result JournalSpec FieldError
journal_with path name d = do
  replication ← number_or 1 1 5 path (codes "replication") d
  labels ← labels_at path d
  fragment_length ← fragment_at path d
  Ok (record { name = name; replication = replication; labels = labels; fragment_length = fragment_length })

-- a journal by itself
unfoldable pub journal_at : List ℕ → Data → Result JournalSpec FieldError
journal_at path d = do
  _ ← has_only path journal_members d
  name ← name_at is_journal_name path (codes "name") d
  journal_with path name d

-- a journal in a list, behind journals of these names
unfoldable pub next_journal : List ℕ → List (List ℕ) → Data → Result JournalSpec FieldError
next_journal path used d = do
  _ ← has_only path journal_members d
  name ← name_at is_journal_name path (codes "name") d
  _ ← unused (below path (codes "name")) used name
  journal_with path name d

-- the journal that a text is
unfoldable pub journal_of : List ℕ → Result JournalSpec FieldError
journal_of bytes = do
  d ← value_of bytes
  journal_at [] d
