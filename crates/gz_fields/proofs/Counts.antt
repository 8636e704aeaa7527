-- How many items a list has.
use Rattle.std.proofs.Common.{◌≡◌, ℕ, suc, List, [], ◌∷◌, length, refl, ap}
use Rattle.serde_json.specs.View.{items_view}
use Rattle.serde_json.specs.declared.value.Value.{Value}
use Rattle.gz_fields.specs.Lists.{count}

pub count_view : (values : List Value) → count (items_view values) ≡ length values
count_view [] = refl
count_view (v ∷ vs) = ap (λ (n : ℕ). suc n) (count_view vs)
