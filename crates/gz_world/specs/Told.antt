-- What bytes say that are told.
use Rattle.std.specs.Prelude.{◌≡◌, ℕ, List, Option, Some, None, Result, Ok, Err, ⊤}
use Rattle.std.specs.Io.KnownBytes.{IsAtEnd}
use Rattle.gz_model.specs.Lines.{lines_of}
use Rattle.gz_model.specs.Told.{TakesLine, HasLongLine}
use Rattle.gz_scenario.specs.Events.{max_line}
use Rattle.gz_scenario.specs.declared.error.ScenarioError.{ScenarioError}
use Rattle.gz_scenario.specs.declared.error.ScenarioError.TheVariants.{Limit}
use Rattle.gz_world.specs.declared.replays.ReplayError.{ReplayError}
use Rattle.gz_world.specs.declared.replays.ReplayError.TheVariants.{Refused, Fault, NoMemory}
use Rattle.gz_world.specs.Run.{Scenario, read_on, outcome_of}

-- the outcome of the bytes, where they are told
abbrev pub HasOutcome : Option (List ℕ) → Result (Option Scenario) ScenarioError → Type 0
HasOutcome None outcome = ⊤
HasOutcome (Some bytes) outcome = outcome_of bytes ≡ outcome

-- the lines ahead, from the second one on, make this of a scenario, where they are told
abbrev pub ReadsOn : Option (List ℕ) → ℕ → Scenario → Result Scenario ScenarioError → Type 0
ReadsOn None before s outcome = ⊤
ReadsOn (Some ahead) before s outcome = read_on (lines_of ahead) 2 before s ≡ outcome

-- what all that was ahead says goes on from here
abbrev pub GoesOn : Option (List ℕ) → Option (List ℕ) → ℕ → Scenario → ℕ → ℕ → Scenario → Type 0
GoesOn None now before start number bytes s = ⊤
GoesOn (Some all) None before start number bytes s = ⊥
GoesOn (Some all) (Some now) before start number bytes s = read_on (lines_of all) 2 before start ≡ read_on (lines_of now) number bytes s

-- what taking a line may refuse: one that is longer than a line may be
abbrev pub IsLong : ScenarioError → ℕ → Option (List ℕ) → Type 0
IsLong refusal number old = (refusal ≡ Limit number) × HasLongLine max_line old

-- the next line is taken from what is ahead, or there is none
abbrev pub TakesNext : Result (Option (List ℕ)) ReplayError → ℕ → Option (List ℕ) → Option (List ℕ) → Option (List ℕ) → Type 0
TakesNext (Ok None) number old new left = IsAtEnd old × IsAtEnd left
TakesNext (Ok (Some line)) number old new left = TakesLine old new line
TakesNext (Err (Refused refusal)) number old new left = IsLong refusal number old
TakesNext (Err Fault) number old new left = ⊤
TakesNext (Err NoMemory) number old new left = ⊤
