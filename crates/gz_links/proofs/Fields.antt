-- What was read of fields, as a step of what is read of specifications.
use Rattle.std.proofs.Common.{◌≡◌, ap, Result, Ok, Err}
use Rattle.gz_model.specs.Steps.{◌>>=◌}
use Rattle.gz_fields.specs.Outcomes as fields
use Rattle.gz_fields.specs.declared.error.FieldError.{FieldError}
use Rattle.gz_fields.specs.declared.error.FieldError.TheVariants as field
use Rattle.gz_links.specs.declared.error.SpecError.{SpecError}
use Rattle.gz_links.specs.Outcomes.{Fails, of_field, of_fields}

-- where a field is refused, all is
pub fields_fail : {A B : Type 0} (e : FieldError) (r : Result A FieldError) (f : A → Result B SpecError)
    → fields.Fails e r → Fails (of_field e) (of_fields r >>= f)
fields_fail field.NotJson r f is = ap (λ x. of_fields x >>= f) is
fields_fail (field.BadField path) r f is = ap (λ x. of_fields x >>= f) is
fields_fail (field.BadName path) r f is = ap (λ x. of_fields x >>= f) is
fields_fail (field.BadNumber path) r f is = ap (λ x. of_fields x >>= f) is
fields_fail (field.Unsupported path) r f is = ap (λ x. of_fields x >>= f) is
fields_fail (field.Twice path) r f is = ap (λ x. of_fields x >>= f) is
fields_fail field.NoMemory r f is = tt

-- what went well was read well
pub fields_went : {A : Type 0} (r : Result A FieldError) (a : A) → of_fields r ≡ Ok a → r ≡ Ok a
fields_went (Ok b) a is = ap Ok (cc)
fields_went (Err e) a is = absurd (cc)
