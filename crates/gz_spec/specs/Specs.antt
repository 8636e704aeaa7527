-- The specifications of a cluster as JSON: four lists.
use Rattle.std.specs.Prelude.{ℕ, ◌+◌, List, [], ◌∷◌, length, map, Result, Ok, codes}
use Rattle.serde_json.specs.Data.{Data}
use Rattle.gz_model.specs.Steps.{◌>>=◌}
use Rattle.gz_fields.specs.Form.{value_of, has_only, items_or_none}
use Rattle.gz_fields.specs.Lists.{count, no_more_than, each}
use Rattle.gz_spec.specs.Journals.{next_journal}
use Rattle.gz_spec.specs.Shards.{next_shard}
use Rattle.gz_spec.specs.Members.{next_member}
use Rattle.gz_fields.specs.declared.error.FieldError.{FieldError}
use Rattle.gz_spec.specs.Limits.{max_journals, max_shards, max_members}
use Rattle.gz_spec.specs.Records.{JournalSpec, ShardSpec, MemberSpec, Specs}

abbrev pub specs_members : List (List ℕ)
specs_members = codes "do" ∷ codes "journals" ∷ codes "shards" ∷ codes "brokers" ∷ codes "consumers" ∷ []

abbrev pub name_of_journal : JournalSpec → List ℕ
name_of_journal j = j.name

abbrev pub id_of_shard : ShardSpec → List ℕ
id_of_shard s = s.id

abbrev pub id_of_member : MemberSpec → List ℕ
id_of_member m = m.id

-- at most 1,024 journals, no two of one name
unfoldable pub journals_in : Data → Result (List JournalSpec) FieldError
journals_in d = do
  items ← items_or_none [] (codes "journals") d
  _ ← no_more_than max_journals (codes "journals") (count items)
  each next_journal name_of_journal (codes "journals") 0 [] items

-- at most 256 shards, no two of one id
unfoldable pub shards_in : Data → Result (List ShardSpec) FieldError
shards_in d = do
  items ← items_or_none [] (codes "shards") d
  _ ← no_more_than max_shards (codes "shards") (count items)
  each next_shard id_of_shard (codes "shards") 0 [] items

-- Members of the list of this name, behind members of these ids. All together are at most 64, and no two have one id.
unfoldable pub members_in : List ℕ → List (List ℕ) → Data → Result (List MemberSpec) FieldError
members_in name used d = do
  items ← items_or_none [] name d
  _ ← no_more_than max_members name (length used + count items)
  each next_member id_of_member name 0 used items

-- the four lists of an object, each by itself
unfoldable pub part_in : Data → Result Specs FieldError
part_in d = do
  _ ← has_only [] specs_members d
  journals ← journals_in d
  shards ← shards_in d
  brokers ← members_in (codes "brokers") [] d
  consumers ← members_in (codes "consumers") (map id_of_member brokers) d
  Ok (record { journals = journals; shards = shards; brokers = brokers; consumers = consumers })

-- the four lists that a text says, each by itself
unfoldable pub part_of : List ℕ → Result Specs FieldError
part_of bytes = do
  d ← value_of bytes
  part_in d
