-- What the lines of an input say, and the runs of that.
use Rattle.std.specs.Prelude.{◌≡◌, ℕ, ◌+◌, List, [], ◌∷◌, ◌++◌, length, map, option_map, Option, Some, None, Result, Ok, Err, if◌then◌else◌, nat_le, codes, true, ⊤}
use Rattle.std.specs.List.{list_all}
use Rattle.gz_model.specs.Lines.{lines_of}
use Rattle.gz_model.specs.Steps.{◌>>=◌}
use Rattle.gz_spec.specs.Records.{Specs as SpecLists}
use Rattle.gz_scenario.specs.Events.{event_of}
use Rattle.gz_scenario.specs.Lawful.{is_start, is_event}
use Rattle.gz_scenario.specs.Refusals as scenario
use Rattle.gz_scenario.specs.declared.error.ScenarioError.{ScenarioError}
use Rattle.gz_scenario.specs.declared.error.ScenarioError.TheVariants.{Limit, Unknown}
use Rattle.gz_scenario.specs.declared.event.Event.{Event}
use Rattle.gz_scenario.specs.declared.event.Event.TheVariants.{Specs, Publish, Settle, Converge, Apply, Join, Expire}
use Rattle.gz_world.specs.Worlds.{World, Step, IsRun}

-- the most bytes of an input; of a line, and how many lines there may be, is judged where lines are read
abbrev pub max_input : ℕ
max_input = 134217728

-- ---- what lines say

-- A scenario: the specifications that it begins with, and then its events, each with its line.
pub record Scenario : Type 0 where
  pub begun : SpecLists
  pub events : List (ℕ × Event)

-- the specifications start a scenario, and no other event does
abbrev pub started : Event → Result Scenario ScenarioError
started (Specs specs) = Ok (record { begun = specs; events = [] })
started (Publish p) = Err (Unknown 1)
started Settle = Err (Unknown 1)
started Converge = Err (Unknown 1)
started (Apply more) = Err (Unknown 1)
started (Join j) = Err (Unknown 1)
started (Expire name) = Err (Unknown 1)

-- the first line starts a scenario
abbrev pub judged_first : List ℕ → Result Scenario ScenarioError
judged_first line = event_of 1 line >>= λ e. started e

-- one more event
abbrev pub with_event : ℕ → Event → Scenario → Scenario
with_event line e s = record { begun = s.begun; events = s.events ++ (line, e) ∷ [] }

-- each further line says an event, if the input isn't too long with it
abbrev pub judged : ℕ → ℕ → List ℕ → Scenario → Result Scenario ScenarioError
judged number before line s = if nat_le (before + length line) max_input then (event_of number line >>= λ e. Ok (with_event number e s)) else Err (Limit number)

-- the scenario with what further lines say
abbrev pub read_on : List (List ℕ) → ℕ → ℕ → Scenario → Result Scenario ScenarioError
read_on [] number before s = Ok s
read_on (line ∷ lines) number before s = judged number before line s >>= λ next. read_on lines (number + 1) (before + length line) next

-- what lines say: a scenario, nothing where there are none, or the refusal of the first one that is refused
abbrev pub outcome_from : List (List ℕ) → Result (Option Scenario) ScenarioError
outcome_from [] = Ok None
outcome_from (line ∷ lines) = judged_first line >>= λ s. read_on lines 2 (length line) s >>= λ s. Ok (Some s)

abbrev pub outcome_of : List ℕ → Result (Option Scenario) ScenarioError
outcome_of input = outcome_from (lines_of input)

-- each line, the first of which has the number, says the event beside it
abbrev pub AreSaid : ℕ → List (List ℕ) → List (ℕ × Event) → Type 0
AreSaid number [] [] = ⊤
AreSaid number [] (h ∷ hs) = ⊥
AreSaid number (line ∷ lines) [] = ⊥
AreSaid number (line ∷ lines) (h ∷ hs) = (h.0 ≡ number) × (event_of number line ≡ Ok h.1) × AreSaid (number + 1) lines hs

-- the first line says the specifications that a scenario begins with, and the others its events
abbrev pub IsSaid : List (List ℕ) → Scenario → Type 0
IsSaid [] s = ⊥
IsSaid (line ∷ lines) s = (event_of 1 line ≡ Ok (Specs s.begun)) × AreSaid 2 lines s.events

-- they are such as reading accepts
pub record IsLawful (s : Scenario) : Type 0 where
  pub start : is_start s.begun ≡ true
  pub events : list_all (λ h. is_event h.1) s.events ≡ true

-- what is said of a refused line
abbrev pub refusal_line : ScenarioError → List ℕ
refusal_line e = scenario.refusal_text e ++ codes "\n"

-- ---- runs of that

-- an event with its line
abbrev pub on_its_line : Step × Event → ℕ × Event
on_its_line h = (h.0.line, h.1)

-- the scenario that a world is a run of
abbrev pub scenario_of : World → Scenario
scenario_of w = record { begun = w.begun; events = map on_its_line w.events }

-- nothing runs where there is no line
abbrev pub IsRunIf : Option World → Type 0
IsRunIf None = ⊤
IsRunIf (Some w) = IsRun w

-- The world of a run of what the bytes say, or none where they are empty.
pub record IsRunOf (input : List ℕ) (w : Option World) : Type 0 where
  pub outcome : outcome_of input ≡ Ok (option_map scenario_of w)
  pub run : IsRunIf w
