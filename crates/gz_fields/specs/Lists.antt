-- Lists of objects, each of a name that no earlier one has.
use Rattle.std.specs.Prelude.{ℕ, suc, ◌+◌, List, [], ◌∷◌, ◌++◌, Bool, Result, Ok, Err, if◌then◌else◌, nat_le}
use Rattle.std.specs.List.{list_any}
use Rattle.std.specs.Str.{bytes_eq}
use Rattle.serde_json.specs.Data.{Data, Items, no_items, item}
use Rattle.gz_model.specs.Steps.{◌>>=◌}
use Rattle.gz_fields.specs.Paths.{at_place}
use Rattle.gz_fields.specs.declared.error.FieldError.{FieldError}
use Rattle.gz_fields.specs.declared.error.FieldError.TheVariants.{BadNumber, Twice}

-- ---- how many

abbrev pub count : Items → ℕ
count no_items = 0
count (item d ds) = suc (count ds)

abbrev pub no_more_than : ℕ → List ℕ → ℕ → Result (Unit {0}) FieldError
no_more_than most path n = if nat_le n most then Ok tt else Err (BadNumber path)

-- ---- names that were used before

abbrev pub is_used : List (List ℕ) → List ℕ → Bool
is_used used name = list_any (bytes_eq name) used

abbrev pub unused : List ℕ → List (List ℕ) → List ℕ → Result (Unit {0}) FieldError
unused path used name = if is_used used name then Err (Twice path) else Ok tt

-- The items from place i on, each read where the names of all before it were used.
abbrev pub each : {A : Type 0} → (List ℕ → List (List ℕ) → Data → Result A FieldError) → (A → List ℕ) → List ℕ → ℕ → List (List ℕ) → Items → Result (List A) FieldError
each read name_of path i used no_items = Ok []
each read name_of path i used (item d ds) = read (at_place path i) used d >>= λ a. each read name_of path (i + 1) (used ++ name_of a ∷ []) ds >>= λ rest. Ok (a ∷ rest)
