-- What a reader of whole specifications returned, against what reading gives.
use Rattle.std.specs.Prelude.{◌≡◌, Result, Ok, Err, ⊤}
use Rattle.gz_fields.specs.declared.error.FieldError.{FieldError}
use Rattle.gz_fields.specs.declared.error.FieldError.TheVariants as field
use Rattle.gz_links.specs.declared.error.SpecError.{SpecError}
use Rattle.gz_links.specs.declared.error.SpecError.TheVariants.{Field, NoJournal, Cycle, NoMemory}

-- an error is the one that reading gives, with its path, or out of memory
abbrev pub Fails : {Y : Type 0} → SpecError → Result Y SpecError → Type 0
Fails (Field error) read = read ≡ Err (Field error)
Fails (NoJournal path) read = read ≡ Err (NoJournal path)
Fails (Cycle path) read = read ≡ Err (Cycle path)
Fails NoMemory read = ⊤

-- what was returned, seen by view, is what reading gives, unless memory ran out
abbrev pub Gives : {X Y : Type 0} → (X → Y) → Result X SpecError → Result Y SpecError → Type 0
Gives view (Ok x) read = read ≡ Ok (view x)
Gives view (Err e) read = Fails e read

-- why a field is refused, as a reason why specifications are
abbrev pub of_field : FieldError → SpecError
of_field field.NotJson = Field field.NotJson
of_field (field.BadField path) = Field (field.BadField path)
of_field (field.BadName path) = Field (field.BadName path)
of_field (field.BadNumber path) = Field (field.BadNumber path)
of_field (field.Unsupported path) = Field (field.Unsupported path)
of_field (field.Twice path) = Field (field.Twice path)
of_field field.NoMemory = NoMemory

-- what was read of fields
abbrev pub of_fields : {A : Type 0} → Result A FieldError → Result A SpecError
of_fields (Ok a) = Ok a
of_fields (Err e) = Err (of_field e)
