-- What a replay answers.
use Rattle.std.specs.Prelude.{◌≡◌, Result, Ok, Err, ⊤}
use Rattle.gz_scenario.specs.declared.error.ScenarioError.{ScenarioError}
use Rattle.gz_scenario.specs.declared.error.ScenarioError.TheVariants as scenario
use Rattle.gz_world.specs.declared.replays.ReplayError.{ReplayError}
use Rattle.gz_world.specs.declared.replays.ReplayError.TheVariants.{Refused, Fault, NoMemory}

-- a line is refused, or memory ran out where it was read
abbrev pub refused_or : ScenarioError → ReplayError
refused_or (scenario.Limit line) = Refused (scenario.Limit line)
refused_or (scenario.NotJson line) = Refused (scenario.NotJson line)
refused_or (scenario.Unknown line) = Refused (scenario.Unknown line)
refused_or (scenario.BadField line path) = Refused (scenario.BadField line path)
refused_or scenario.NoMemory = NoMemory

-- an error is the refusal, or out of memory; nothing was read
abbrev pub Fails : {Y : Type 0} → ReplayError → Result Y ScenarioError → Type 0
Fails (Refused e) judged = judged ≡ Err e
Fails Fault judged = ⊥
Fails NoMemory judged = ⊤

-- what was answered is what was judged, unless memory ran out
abbrev pub Gives : {Y : Type 0} → Y → Result (Unit {0}) ReplayError → Result Y ScenarioError → Type 0
Gives y (Ok u) judged = judged ≡ Ok y
Gives y (Err e) judged = Fails e judged

-- the value, seen so, is what was judged, unless memory ran out
abbrev pub GivesValue : {X Y : Type 0} → (X → Y) → Result X ReplayError → Result Y ScenarioError → Type 0
GivesValue view (Ok x) judged = judged ≡ Ok (view x)
GivesValue view (Err e) judged = Fails e judged
