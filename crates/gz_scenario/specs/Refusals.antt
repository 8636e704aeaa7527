-- Why a line is refused, and how that is said.
use Rattle.std.specs.Prelude.{ℕ, List, ◌++◌, Result, Ok, Err, codes, decimal}
use Rattle.gz_fields.specs.declared.error.FieldError.{FieldError}
use Rattle.gz_fields.specs.declared.error.FieldError.TheVariants as field
use Rattle.gz_links.specs.declared.error.SpecError.{SpecError}
use Rattle.gz_links.specs.declared.error.SpecError.TheVariants as spec
use Rattle.gz_scenario.specs.declared.error.ScenarioError.{ScenarioError}
use Rattle.gz_scenario.specs.declared.error.ScenarioError.TheVariants.{Limit, NotJson, Unknown, BadField, NoMemory}

-- whatever is wrong at a place of this line is a bad field there
abbrev pub bad_field : ℕ → FieldError → ScenarioError
bad_field line field.NotJson = NotJson line
bad_field line (field.BadField path) = BadField line path
bad_field line (field.BadName path) = BadField line path
bad_field line (field.BadNumber path) = BadField line path
bad_field line (field.Unsupported path) = BadField line path
bad_field line (field.Twice path) = BadField line path
bad_field line field.NoMemory = NoMemory

-- and so is what is wrong with its specifications
abbrev pub bad_specs : ℕ → SpecError → ScenarioError
bad_specs line (spec.Field error) = bad_field line error
bad_specs line (spec.NoJournal path) = BadField line path
bad_specs line (spec.Cycle path) = BadField line path
bad_specs line spec.NoMemory = NoMemory

-- what this line says, where nothing is wrong in it
abbrev pub on_line : {A B : Type 0} → ℕ → (A → B) → Result A FieldError → Result B ScenarioError
on_line line f (Ok a) = Ok (f a)
on_line line f (Err e) = Err (bad_field line e)

-- the same of its specifications
abbrev pub specs_on_line : {A B : Type 0} → ℕ → (A → B) → Result A SpecError → Result B ScenarioError
specs_on_line line f (Ok a) = Ok (f a)
specs_on_line line f (Err e) = Err (bad_specs line e)

-- the line's number, and what is wrong with it
abbrev pub about : ℕ → List ℕ → List ℕ
about line words = codes "line " ++ decimal line ++ codes ": " ++ words

-- the text of a refusal
abbrev pub refusal_text : ScenarioError → List ℕ
refusal_text (Limit line) = about line (codes "limit")
refusal_text (NotJson line) = about line (codes "not JSON")
refusal_text (Unknown line) = about line (codes "unknown event")
refusal_text (BadField line path) = about line (codes "bad field " ++ path)
refusal_text NoMemory = codes "no memory"
