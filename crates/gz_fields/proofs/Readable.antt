-- What is read is good: steps that went well, names of their form, and numbers in their range.
use Rattle.std.proofs.Common.{◌≡◌, ℕ, List, refl, sym, ap, ◌∙◌, cond, Bool, true, false, Result, Ok, Err, Option, Some, None}
use Rattle.serde_json.specs.Data.{Data}
use Rattle.serde_json.specs.Find.{as_number, as_u64}
use Rattle.gz_model.specs.Steps.{◌>>=◌}
use Rattle.gz_fields.specs.declared.error.FieldError.TheVariants.{BadName, BadNumber}
use Rattle.gz_fields.specs.Paths.{below}
use Rattle.gz_fields.specs.Form.{is_between, found, named, text_at, name_at, in_range, number_from, number_if}

-- ---- steps

-- both steps went well
pub step : {A B E : Type 0} (r : Result A E) (f : A → Result B E) (b : B) → (r >>= f) ≡ Ok b → (a : A) × (r ≡ Ok a) × (f a ≡ Ok b)
step (Ok a) f b is = (a, refl, is)
step (Err e) f b is = absurd (cc)

pub same_ok : {A E : Type 0} (a b : A) → (let r : Result A E = Ok a in r ≡ Ok b) → a ≡ b
same_ok a b is = cc

pub chosen : {A E : Type 0} (t : Bool) (a b : A) (e : E) → (cond t (Ok a) (Err e)) ≡ Ok b → (t ≡ true) × (a ≡ b)
chosen true a b e is = (refl, same_ok a b is)
chosen false a b e is = absurd (cc)

-- ---- names and numbers

pub named_good : (is_good : List ℕ → Bool) (path text name : List ℕ) → named is_good path text ≡ Ok name → is_good name ≡ true
named_good is_good path text name is =
    let c = chosen (is_good text) text name (BadName path) is in
    ap is_good (sym c.1) ∙ c.0

pub name_good : (is_good : List ℕ → Bool) (path member name : List ℕ) (d : Data) → name_at is_good path member d ≡ Ok name → is_good name ≡ true
name_good is_good path member name d is =
    let s = step (text_at path member d) (named is_good (below path member)) name is in
    named_good is_good (below path member) s.0 name s.2

in_range_good : (least most : ℕ) (path : List ℕ) (o : Option ℕ) (n : ℕ) → in_range least most path o ≡ Ok n → is_between least most n ≡ true
in_range_good least most path None n is = absurd (cc)
in_range_good least most path (Some m) n is =
    let c = chosen (is_between least most m) m n (BadNumber path) is in
    ap (is_between least most) (sym c.1) ∙ c.0

pub number_good : (least most : ℕ) (path : List ℕ) (d : Data) (n : ℕ) → number_from least most path d ≡ Ok n → is_between least most n ≡ true
number_good least most path d n is =
    let s = step (found path (as_number d)) (λ v. in_range least most path (as_u64 v)) n is in
    in_range_good least most path (as_u64 s.0) n s.2

pub number_or_good : (default least most : ℕ) (path : List ℕ) (o : Option Data) (n : ℕ) → is_between least most default ≡ true → number_if default least most path o ≡ Ok n → is_between least most n ≡ true
number_or_good default least most path None n fits is = ap (is_between least most) (sym (same_ok default n is)) ∙ fits
number_or_good default least most path (Some d) n fits is = number_good least most path d n is
