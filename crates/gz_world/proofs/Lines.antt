-- The events that lines say.
use Rattle.std.proofs.Common.{◌≡◌, ℕ, ◌+◌, ◌<◌, ◌≤◌, ◌&&◌, List, length, refl, Bool, true, false, cond, nat_le, Option, Some, None, Result, Ok, Err, arith}
use Rattle.std.specs.Prelude.{codes, option_and_then}
use Rattle.std.specs.Str.{bytes_eq}
use Rattle.std.proofs.lemmas.Grind.{common_steps}
use Rattle.serde_json.specs.Data.{Data}
use Rattle.serde_json.specs.Find.{get, as_str}
use Rattle.gz_json.specs.Json.{json_of}
use Rattle.gz_links.specs.Whole.{specs_of}
use Rattle.gz_spec.specs.Records.{Specs as SpecLists}
use Rattle.gz_links.specs.declared.error.SpecError.{SpecError}
use Rattle.gz_scenario.specs.Events.{event_of, event_in, event_if, max_lines, max_line}
use Rattle.gz_scenario.specs.Outcomes as scenario
use Rattle.gz_scenario.specs.Refusals.{specs_on_line}
use Rattle.gz_scenario.specs.declared.error.ScenarioError.{ScenarioError}
use Rattle.gz_scenario.specs.declared.error.ScenarioError.TheVariants.{Limit, NotJson, Unknown, BadField, NoMemory}
use Rattle.gz_scenario.specs.declared.event.Event.{Event}
use Rattle.gz_scenario.specs.declared.event.Event.TheVariants.{Specs}
use Rattle.gz_model.specs.Steps.{◌>>=◌}
use Rattle.gz_world.specs.Run.{Scenario, max_input, started, judged, judged_first, with_event}
use Rattle.gz_world.specs.Replays.{refused_or, Fails}

-- a reader's error is the refusal of a line, or out of memory
pub read_gives : {Y : Type 0} (e : ScenarioError) (read : Result Y ScenarioError) → scenario.Fails e read → Fails (refused_or e) read
read_gives (Limit line) read fails = fails
read_gives (NotJson line) read fails = fails
read_gives (Unknown line) read fails = fails
read_gives (BadField line path) read fails = fails
read_gives NoMemory read fails = fails

-- ---- lines that say an event

chosen : {A : Type 0} (t : Bool) (r : Result A ScenarioError) (e : ScenarioError) (a : A) → cond t r (Err e) ≡ Ok a → (t ≡ true) × (r ≡ Ok a)
chosen true r e a is = (refl, is)
chosen false r e a is = absurd (cc)

first_part : (a b : Bool) → (a && b) ≡ true → a ≡ true
first_part true b is = refl
first_part false b is = is

second_part : (a b : Bool) → (a && b) ≡ true → b ≡ true
second_part true b is = is
second_part false b is = absurd (cc)

at_most : (n m : ℕ) → nat_le n m ≡ true → n ≤ m
at_most n m is = grind (arith, common_steps)

-- a line that says an event isn't past the last one
pub within_lines : (number : ℕ) (line : List ℕ) (e : Event) → event_of number line ≡ Ok e → number ≤ 65536
unfolding event_of
within_lines number line e is =
    let c = chosen (nat_le number max_lines && nat_le (length line) max_line) (event_in number line (json_of line)) (Limit number) e is in
    at_most number max_lines (first_part (nat_le number max_lines) (nat_le (length line) max_line) c.0)

-- ---- the first line

-- ---- lines that are too long

not_within : (a : Bool) (n m : ℕ) → m < n → (a && nat_le n m) ≡ false
not_within true n m long = grind (arith, common_steps)
not_within false n m long = refl

event_long : (number : ℕ) (line : List ℕ) → max_line < length line → event_of number line ≡ Err (Limit number)
unfolding event_of
event_long number line long = rw (not_within (nat_le number max_lines) (length line) max_line long) refl

long_if : (t : Bool) (number : ℕ) (r : Result Scenario ScenarioError) → r ≡ Err (Limit number) → cond t r (Err (Limit number)) ≡ Err (Limit number)
long_if true number r is = is
long_if false number r is = refl

pub long_judged : (number before : ℕ) (line : List ℕ) (w : Scenario) → max_line < length line → judged number before line w ≡ Err (Limit number)
long_judged number before line w long =
    long_if (nat_le (before + length line) max_input) number (event_of number line >>= λ e. Ok (with_event number e w)) (rw (event_long number line long) refl)

pub long_first : (line : List ℕ) → max_line < length line → judged_first line ≡ Err (Limit 1)
long_first line long = rw (event_long 1 line long) refl

-- the line that starts a scenario isn't too long
first_within : (line : List ℕ) (r : Result Event ScenarioError) (w : Scenario) → event_of 1 line ≡ r → (r >>= λ e. started e) ≡ Ok w → length line ≤ 134217728
unfolding event_of
first_within line (Ok e) w said is =
    let c = chosen (nat_le 1 max_lines && nat_le (length line) max_line) (event_in 1 line (json_of line)) (Limit 1) e said in
    let least : length line ≤ max_line = at_most (length line) max_line (second_part (nat_le 1 max_lines) (nat_le (length line) max_line) c.0) in
    omega (arith, least)
first_within line (Err e) w said is = absurd (cc)

pub first_short : (line : List ℕ) (w : Scenario) → judged_first line ≡ Ok w → length line ≤ 134217728
first_short line w is = first_within line (event_of 1 line) w refl is
