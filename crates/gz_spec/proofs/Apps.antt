-- The application that the values of a label name.
use Rattle.std.proofs.Common.{◌≡◌, ◌≢◌, ℕ, List, [], ◌∷◌, length, refl, arith, Some, None}
use Rattle.gz_spec.specs.Firsts.{first}
use Rattle.gz_app.specs.Applications.{app_named}
use Rattle.gz_spec.specs.Shards.{app_of}
use Rattle.gz_spec.specs.Framings.{framing_of, framing_named}
use Rattle.gz_spec.specs.declared.framing.Framing.TheVariants.{Bytes}

pub app_of_one : (vs : List (List ℕ)) (v : List ℕ) → first vs ≡ Some v → length vs ≡ 1 → app_of vs ≡ app_named v
app_of_one [] v is one = absurd (omega arith)
app_of_one (w ∷ []) v is one = let e : w ≡ v = cc in rw e refl
app_of_one (w ∷ x ∷ vs) v is one = absurd (omega arith)

pub app_of_more : (vs : List (List ℕ)) → length vs ≢ 1 → app_of vs ≡ None
app_of_more [] other = refl
app_of_more (w ∷ []) other = absurd (other refl)
app_of_more (w ∷ x ∷ vs) other = refl

pub framing_of_one : (vs : List (List ℕ)) (v : List ℕ) → first vs ≡ Some v → length vs ≡ 1 → framing_of vs ≡ framing_named v
framing_of_one [] v is one = absurd (omega arith)
framing_of_one (w ∷ []) v is one = let e : w ≡ v = cc in rw e refl
framing_of_one (w ∷ x ∷ vs) v is one = absurd (omega arith)

pub framing_of_more : (vs : List (List ℕ)) → length vs ≢ 1 → framing_of vs ≡ Bytes
framing_of_more [] other = refl
framing_of_more (w ∷ []) other = absurd (other refl)
framing_of_more (w ∷ x ∷ vs) other = refl
