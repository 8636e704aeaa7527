-- What a reader returned, against what reading gives.
use Rattle.std.specs.Prelude.{◌≡◌, Result, Ok, Err, ⊤}
use Rattle.gz_scenario.specs.declared.error.ScenarioError.{ScenarioError}
use Rattle.gz_scenario.specs.declared.error.ScenarioError.TheVariants.{Limit, NotJson, Unknown, BadField, NoMemory}

-- an error is the one that reading gives, with its line and its path, or out of memory
abbrev pub Fails : {Y : Type 0} → ScenarioError → Result Y ScenarioError → Type 0
Fails (Limit line) read = read ≡ Err (Limit line)
Fails (NotJson line) read = read ≡ Err (NotJson line)
Fails (Unknown line) read = read ≡ Err (Unknown line)
Fails (BadField line path) read = read ≡ Err (BadField line path)
Fails NoMemory read = ⊤

-- what was returned, seen by view, is what reading gives, unless memory ran out
abbrev pub Gives : {X Y : Type 0} → (X → Y) → Result X ScenarioError → Result Y ScenarioError → Type 0
Gives view (Ok x) read = read ≡ Ok (view x)
Gives view (Err e) read = Fails e read
