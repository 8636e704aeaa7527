-- What a reader returned, against what reading gives.
use Rattle.std.specs.Prelude.{◌≡◌, Result, Ok, Err, ⊤}
use Rattle.gz_label.specs.declared.name.LabelError.{LabelError}
use Rattle.gz_label.specs.declared.name.LabelError.TheVariants.{BadName, TooMany, NoMemory}

-- an error is the one that reading gives, or out of memory
abbrev pub Fails : {Y : Type 0} → LabelError → Result Y LabelError → Type 0
Fails (BadName at) read = read ≡ Err (BadName at)
Fails TooMany read = read ≡ Err TooMany
Fails NoMemory read = ⊤

-- what was returned, seen by view, is what reading gives, unless memory ran out
abbrev pub Gives : {X Y : Type 0} → (X → Y) → Result X LabelError → Result Y LabelError → Type 0
Gives view (Ok x) read = read ≡ Ok (view x)
Gives view (Err e) read = Fails e read
