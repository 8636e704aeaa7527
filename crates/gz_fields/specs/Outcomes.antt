-- What a reader returned, against what reading gives.
use Rattle.std.specs.Prelude.{◌≡◌, Result, Ok, Err, ⊤}
use Rattle.gz_fields.specs.declared.error.FieldError.{FieldError}
use Rattle.gz_fields.specs.declared.error.FieldError.TheVariants.{NotJson, BadField, BadName, BadNumber, Unsupported, Twice, NoMemory}

-- an error is the one that reading gives, with its path, or out of memory
abbrev pub Fails : {Y : Type 0} → FieldError → Result Y FieldError → Type 0
Fails NotJson read = read ≡ Err NotJson
Fails (BadField path) read = read ≡ Err (BadField path)
Fails (BadName path) read = read ≡ Err (BadName path)
Fails (BadNumber path) read = read ≡ Err (BadNumber path)
Fails (Unsupported path) read = read ≡ Err (Unsupported path)
Fails (Twice path) read = read ≡ Err (Twice path)
Fails NoMemory read = ⊤

-- what was returned, seen by view, is what reading gives, unless memory ran out
abbrev pub Gives : {X Y : Type 0} → (X → Y) → Result X FieldError → Result Y FieldError → Type 0
Gives view (Ok x) read = read ≡ Ok (view x)
Gives view (Err e) read = Fails e read
