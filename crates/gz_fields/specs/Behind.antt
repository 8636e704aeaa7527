-- What is read behind a prefix that was read before.
use Rattle.std.specs.Prelude.{List, ◌++◌, Result, Ok}
use Rattle.gz_model.specs.Steps.{◌>>=◌}
use Rattle.gz_fields.specs.declared.error.FieldError.{FieldError}

abbrev pub behind : {A : Type 0} → List A → Result (List A) FieldError → Result (List A) FieldError
behind prefix read = read >>= λ rest. Ok (prefix ++ rest)
