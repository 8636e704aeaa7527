-- The fields of a JSON object, each by its name, its place and what it is to be.
use Rattle.std.specs.Prelude.{ℕ, ◌&&◌, List, Option, Some, None, option_and_then, Result, Ok, Err, Bool, if◌then◌else◌, nat_le}
use Rattle.serde_json.specs.Data.{Data, Items, no_items}
use Rattle.serde_json.specs.Find.{get, as_str, as_bool, as_number, as_u64, as_array, as_object}
use Rattle.gz_model.specs.Steps.{◌>>=◌}
use Rattle.gz_json.specs.Json.{json_of, first_unknown}
use Rattle.gz_fields.specs.Paths.{below}
use Rattle.gz_fields.specs.declared.error.FieldError.{FieldError}
use Rattle.gz_fields.specs.declared.error.FieldError.TheVariants.{NotJson, BadField, BadName, BadNumber}

-- what was found at this place; what is missing there, or of another type, is a bad field
abbrev pub found : {A : Type 0} → List ℕ → Option A → Result A FieldError
found path None = Err (BadField path)
found path (Some a) = Ok a

-- ---- the text, and its objects

abbrev pub parsed : Option Data → Result Data FieldError
parsed None = Err NotJson
parsed (Some d) = Ok d

-- the JSON value of a text
abbrev pub value_of : List ℕ → Result Data FieldError
value_of bytes = parsed (json_of bytes)

-- The first unknown member, in name order, is a bad field.
abbrev pub none_unknown : List ℕ → Option (List ℕ) → Result (Unit {0}) FieldError
none_unknown path None = Ok tt
none_unknown path (Some name) = Err (BadField (below path name))

-- an object with no members but these
abbrev pub has_only : List ℕ → List (List ℕ) → Data → Result (Unit {0}) FieldError
has_only path names d = found path (as_object d) >>= λ ms. none_unknown path (first_unknown names ms)

-- ---- texts and names

abbrev pub text_at : List ℕ → List ℕ → Data → Result (List ℕ) FieldError
text_at path name d = found (below path name) (option_and_then as_str (get name d))

-- a text that passes the test of its names
abbrev pub named : (List ℕ → Bool) → List ℕ → List ℕ → Result (List ℕ) FieldError
named is_good path text = if is_good text then Ok text else Err (BadName path)

abbrev pub name_at : (List ℕ → Bool) → List ℕ → List ℕ → Data → Result (List ℕ) FieldError
name_at is_good path name d = text_at path name d >>= λ text. named is_good (below path name) text

abbrev pub name_if : (List ℕ → Bool) → List ℕ → List ℕ → Option Data → Result (List ℕ) FieldError
name_if is_good default path None = Ok default
name_if is_good default path (Some d) = found path (as_str d) >>= λ text. named is_good path text

-- a name that may be absent, and is this one then
abbrev pub name_or : (List ℕ → Bool) → List ℕ → List ℕ → List ℕ → Data → Result (List ℕ) FieldError
name_or is_good default path name d = name_if is_good default (below path name) (get name d)

-- ---- numbers

abbrev pub is_between : ℕ → ℕ → ℕ → Bool
is_between least most n = nat_le least n && nat_le n most

-- A whole number from least to most. Any other number is out of its range.
abbrev pub in_range : ℕ → ℕ → List ℕ → Option ℕ → Result ℕ FieldError
in_range least most path None = Err (BadNumber path)
in_range least most path (Some n) = if is_between least most n then Ok n else Err (BadNumber path)

abbrev pub number_from : ℕ → ℕ → List ℕ → Data → Result ℕ FieldError
number_from least most path d = found path (as_number d) >>= λ n. in_range least most path (as_u64 n)

abbrev pub number_at : ℕ → ℕ → List ℕ → List ℕ → Data → Result ℕ FieldError
number_at least most path name d = found (below path name) (get name d) >>= λ v. number_from least most (below path name) v

abbrev pub number_if : ℕ → ℕ → ℕ → List ℕ → Option Data → Result ℕ FieldError
number_if default least most path None = Ok default
number_if default least most path (Some d) = number_from least most path d

-- a number that may be absent, and is this one then
abbrev pub number_or : ℕ → ℕ → ℕ → List ℕ → List ℕ → Data → Result ℕ FieldError
number_or default least most path name d = number_if default least most (below path name) (get name d)

-- ---- flags and lists

abbrev pub flag_if : Bool → List ℕ → Option Data → Result Bool FieldError
flag_if default path None = Ok default
flag_if default path (Some d) = found path (as_bool d)

-- a flag that may be absent, and is this one then
abbrev pub flag_or : Bool → List ℕ → List ℕ → Data → Result Bool FieldError
flag_or default path name d = flag_if default (below path name) (get name d)

abbrev pub items_at : List ℕ → List ℕ → Data → Result Items FieldError
items_at path name d = found (below path name) (option_and_then as_array (get name d))

abbrev pub items_if : List ℕ → Option Data → Result Items FieldError
items_if path None = Ok no_items
items_if path (Some d) = found path (as_array d)

-- a list that may be absent, and is empty then
abbrev pub items_or_none : List ℕ → List ℕ → Data → Result Items FieldError
items_or_none path name d = items_if (below path name) (get name d)
