-- Labels as JSON: an object from label names to lists of values.
use Rattle.std.specs.Prelude.{ℕ, ◌+◌, List, [], ◌∷◌, ◌++◌, Option, Some, None, Result, Ok, Err, codes}
use Rattle.serde_json.specs.Data.{Data, Items, no_items, item, Members, no_members, member}
use Rattle.serde_json.specs.Find.{get, as_str, as_array, as_object}
use Rattle.gz_model.specs.Steps.{◌>>=◌}
use Rattle.gz_label.specs.Labels.{is_label_name, is_label_value, with_label}
use Rattle.gz_label.specs.declared.label.Label.{Label}
use Rattle.gz_label.specs.declared.name.LabelError.{LabelError}
use Rattle.gz_label.specs.declared.name.LabelError.TheVariants as cause
use Rattle.gz_fields.specs.Paths.{below, at_place}
use Rattle.gz_fields.specs.Form.{found, named}
use Rattle.gz_fields.specs.declared.error.FieldError.{FieldError}
use Rattle.gz_fields.specs.declared.error.FieldError.TheVariants.{BadName, BadNumber, NoMemory}

-- the label of this name whose value stands here
unfoldable pub label_at : List ℕ → List ℕ → Data → Result Label FieldError
label_at path name d = do
  text ← found path (as_str d)
  value ← named is_label_value path text
  Ok (record { name = name; value = value })

-- the labels of one name, by the values from place i on
abbrev pub labels_from : List ℕ → List ℕ → ℕ → Items → Result (List Label) FieldError
labels_from path name i no_items = Ok []
labels_from path name i (item d ds) = label_at (at_place path i) name d >>= λ label. labels_from path name (i + 1) ds >>= λ rest. Ok (label ∷ rest)

-- the labels of one name
unfoldable pub labels_named : List ℕ → List ℕ → Data → Result (List Label) FieldError
labels_named path name d = do
  _ ← named is_label_name path name
  items ← found path (as_array d)
  labels_from path name 0 items

-- the labels of each name, in the order of the names
abbrev pub all_labels : List ℕ → Members → Result (List Label) FieldError
all_labels path no_members = Ok []
all_labels path (member name d ms) = labels_named (below path name) name d >>= λ here. all_labels path ms >>= λ rest. Ok (here ++ rest)

-- A set takes no more than so many labels.
abbrev pub fitting : {A : Type 0} → List ℕ → Result A LabelError → Result A FieldError
fitting path (Ok a) = Ok a
fitting path (Err (cause.BadName at)) = Err (BadName path)
fitting path (Err cause.TooMany) = Err (BadNumber path)
fitting path (Err cause.NoMemory) = Err NoMemory

-- each of the labels in its place in the set
abbrev pub put_each : List ℕ → List Label → List Label → Result (List Label) FieldError
put_each path set [] = Ok set
put_each path set (l ∷ ls) = fitting path (with_label l set) >>= λ more. put_each path more ls

-- The labels of an object. That they are too many is judged when all of them are read.
unfoldable pub labels_in : List ℕ → Data → Result (List Label) FieldError
labels_in path d = do
  ms ← found path (as_object d)
  labels ← all_labels path ms
  put_each path [] labels

abbrev pub labels_if : List ℕ → Option Data → Result (List Label) FieldError
labels_if path None = Ok []
labels_if path (Some d) = labels_in path d

-- labels that may be absent, and are none then
abbrev pub labels_at : List ℕ → Data → Result (List Label) FieldError
labels_at path d = labels_if (below path (codes "labels")) (get (codes "labels") d)
