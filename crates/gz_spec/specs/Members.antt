-- The members of a cluster: brokers and consumers.
use Rattle.std.specs.Prelude.{ℕ, List, [], ◌∷◌, Result, Ok, Err, if◌then◌else◌, codes}
use Rattle.serde_json.specs.Data.{Data}
use Rattle.gz_model.specs.Steps.{◌>>=◌}
use Rattle.gz_fields.specs.Names.{is_id}
use Rattle.gz_spec.specs.Reserved.{is_reserved}
use Rattle.gz_fields.specs.Paths.{below}
use Rattle.gz_fields.specs.Lists.{unused}
use Rattle.gz_fields.specs.Form.{value_of, has_only, name_at, number_at}
use Rattle.gz_fields.specs.declared.error.FieldError.{FieldError}
use Rattle.gz_fields.specs.declared.error.FieldError.TheVariants.{BadName}
use Rattle.gz_spec.specs.Limits.{max_limit}
use Rattle.gz_spec.specs.Records.{MemberSpec}

abbrev pub member_names : List (List ℕ)
member_names = codes "id" ∷ codes "zone" ∷ codes "limit" ∷ []

-- the member of this id, by what follows the id
unfoldable pub member_with : List ℕ → List ℕ → Data → Result MemberSpec FieldError
member_with path id d = do
  zone ← name_at is_id path (codes "zone") d
  limit ← number_at 0 max_limit path (codes "limit") d
  Ok (record { id = id; zone = zone; limit = limit })

unfoldable pub member_at : List ℕ → Data → Result MemberSpec FieldError
member_at path d = do
  _ ← has_only path member_names d
  id ← name_at is_id path (codes "id") d
  member_with path id d

-- An id in a list isn't reserved.
abbrev pub not_reserved : List ℕ → List ℕ → Result (Unit {0}) FieldError
not_reserved path id = if is_reserved id then Err (BadName path) else Ok tt

-- a member in a list, behind members of these ids
unfoldable pub next_member : List ℕ → List (List ℕ) → Data → Result MemberSpec FieldError
next_member path used d = do
  _ ← has_only path member_names d
  id ← name_at is_id path (codes "id") d
  _ ← not_reserved (below path (codes "id")) id
  _ ← unused (below path (codes "id")) used id
  member_with path id d

-- the member that a text is
unfoldable pub member_of : List ℕ → Result MemberSpec FieldError
member_of bytes = do
  d ← value_of bytes
  member_at [] d
