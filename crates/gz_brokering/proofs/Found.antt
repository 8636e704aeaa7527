-- Rows as a table.
use Rattle.std.proofs.Common.{◌≡◌, ℕ, Bool, true, false, cond, List, [], ◌∷◌, refl, sym, ap, ◌∙◌, Option, Some, unwrap_or}
use Rattle.std.specs.Map.{lookup}
use Rattle.std.specs.Str.{bytes_eq}
use Rattle.std.proofs.lemmas.Slice.Eq.{bytes_eq-Decides}
use Rattle.indexmap.specs.IndexMap.{insert_entry}
use Rattle.gz_broker.specs.Brokers.{Row, new_row, row_of, with_row}

-- what is found in the table, or a new row
pub row_found : (j : List ℕ) (rs : List (List ℕ × Row)) → row_of j rs ≡ unwrap_or (lookup (bytes_eq j) rs) new_row
row_found j [] = refl
row_found j (r ∷ rs) = step (bytes_eq j r.0) (row_found j rs) where
  step : (b : Bool) → row_of j rs ≡ unwrap_or (lookup (bytes_eq j) rs) new_row → cond b r.1 (row_of j rs) ≡ unwrap_or (cond b (Some r.1) (lookup (bytes_eq j) rs)) new_row
  step true more = refl
  step false more = more

pub row_inserted : (j : List ℕ) (row : Row) (rs : List (List ℕ × Row)) → insert_entry bytes_eq rs j row ≡ with_row j row rs
row_inserted j row [] = refl
row_inserted j row (r ∷ rs) = ap (λ l. cond (bytes_eq j r.0) ((r.0, row) ∷ rs) (r ∷ l)) (row_inserted j row rs)

-- what was found is the journal's row
pub row_taken : (j : List ℕ) (rs : List (List ℕ × Row)) (found : Option Row) → found ≡ lookup (bytes_eq j) rs → unwrap_or found new_row ≡ row_of j rs
row_taken j rs found is = ap (λ (o : Option Row). unwrap_or o new_row) is ∙ sym (row_found j rs)

same_itself : (x : List ℕ) → bytes_eq x x ≡ true
same_itself x = (bytes_eq-Decides x x).1 refl

-- of two rows that a journal takes, the later one counts
pub row_twice : (j : List ℕ) (row later : Row) (rs : List (List ℕ × Row)) → with_row j later (with_row j row rs) ≡ with_row j later rs
row_twice j row later [] = ap (λ b. cond b ((j, later) ∷ []) ((j, row) ∷ (j, later) ∷ [])) (same_itself j)
row_twice j row later (r ∷ rs) = step (bytes_eq j r.0) refl (row_twice j row later rs) where
  step : (b : Bool) → bytes_eq j r.0 ≡ b → with_row j later (with_row j row rs) ≡ with_row j later rs
      → with_row j later (cond b ((r.0, row) ∷ rs) (r ∷ with_row j row rs)) ≡ cond b ((r.0, later) ∷ rs) (r ∷ with_row j later rs)
  step true t more = ap (λ b. cond b ((r.0, later) ∷ rs) ((r.0, row) ∷ with_row j later rs)) t
  step false t more = ap (λ b. cond b ((r.0, later) ∷ with_row j row rs) (r ∷ with_row j later (with_row j row rs))) t ∙ ap (λ l. r ∷ l) more
