-- Specifications that are refused, as the refusal of their line.
use Rattle.std.proofs.Common.{ℕ, refl, Result, Err}
use Rattle.gz_fields.specs.declared.error.FieldError.{FieldError}
use Rattle.gz_fields.specs.declared.error.FieldError.TheVariants as field
use Rattle.gz_links.specs.Outcomes as links
use Rattle.gz_links.specs.declared.error.SpecError.{SpecError}
use Rattle.gz_links.specs.declared.error.SpecError.TheVariants as spec
use Rattle.gz_scenario.specs.Outcomes.{Fails}
use Rattle.gz_scenario.specs.Refusals.{bad_field, bad_specs, specs_on_line}
use Rattle.gz_scenario.specs.declared.error.ScenarioError.{ScenarioError}

field_fails : (Y : Type 0) (line : ℕ) (e : FieldError) → (let r : Result Y ScenarioError = Err (bad_field line e) in Fails (bad_field line e) r)
field_fails Y line field.NotJson = refl
field_fails Y line (field.BadField path) = refl
field_fails Y line (field.BadName path) = refl
field_fails Y line (field.BadNumber path) = refl
field_fails Y line (field.Unsupported path) = refl
field_fails Y line (field.Twice path) = refl
field_fails Y line field.NoMemory = tt

-- why specifications are refused is why their line is
pub specs_fail : {A B : Type 0} (line : ℕ) (f : A → B) (e : SpecError) (r : Result A SpecError)
    → links.Fails e r → Fails (bad_specs line e) (specs_on_line line f r)
specs_fail line f (spec.Field error) r is = rw is (field_fails _ line error)
specs_fail line f (spec.NoJournal path) r is = rw is refl
specs_fail line f (spec.Cycle path) r is = rw is refl
specs_fail line f spec.NoMemory r is = tt
