-- The entries of journals, by the places of their names.
use Rattle.std.proofs.Common.{◌≡◌, ℕ, suc, ◌<◌, ◌≤◌, List, [], ◌∷◌, length, refl, ap, cond, get_or, Bool, true, false, arith}
use Rattle.std.specs.Str.{bytes_eq}
use Rattle.gz_promise.specs.Journals.{Journal, entries_of, place_of}

found_if : (name : List ℕ) (j k : Journal) (js : List Journal) (b : Bool) → (place_of name js < length js → ((d : Journal) → k ≡ get_or js (place_of name js) d) → k.entries ≡ entries_of name js)
    → cond b 0 (suc (place_of name js)) < length (j ∷ js) → ((d : Journal) → k ≡ get_or (j ∷ js) (cond b 0 (suc (place_of name js))) d) → k.entries ≡ cond b j.entries (entries_of name js)
found_if name j k js true rest within at = ap (λ (x : Journal). x.entries) (at j)
found_if name j k js false rest within at = rest (omega (arith, within)) at

entries_found : (name : List ℕ) (js : List Journal) (k : Journal) → place_of name js < length js → ((d : Journal) → k ≡ get_or js (place_of name js) d) → k.entries ≡ entries_of name js
entries_found name [] k within at = absurd (omega (arith, within))
entries_found name (j ∷ js) k within at = found_if name j k js (bytes_eq j.name name) (entries_found name js k) within at

none_if : (name : List ℕ) (j : Journal) (js : List Journal) (b : Bool) → (length js ≤ place_of name js → entries_of name js ≡ []) → length (j ∷ js) ≤ cond b 0 (suc (place_of name js))
    → cond b j.entries (entries_of name js) ≡ []
none_if name j js true rest past = absurd (omega (arith, past))
none_if name j js false rest past = rest (omega (arith, past))

no_entries : (name : List ℕ) (js : List Journal) → length js ≤ place_of name js → entries_of name js ≡ []
no_entries name [] past = refl
no_entries name (j ∷ js) past = none_if name j js (bytes_eq j.name name) (no_entries name js) past

-- the journal at the place of a name has its entries
pub entries_at_place : (name : List ℕ) (js seen : List Journal) (place : ℕ) (k : Journal) → seen ≡ js → place ≡ place_of name js → place < length seen → ((d : Journal) → k ≡ get_or seen place d)
    → k.entries ≡ entries_of name js
entries_at_place name js seen place k same is within at = entries_found name js k (rw (← is, ← same) within) (λ d. rw (← is, ← same) (at d))

-- where there is no journal at the place of a name, it has no entries
pub no_entries_at_place : (name : List ℕ) (js seen : List Journal) (place : ℕ) → seen ≡ js → place ≡ place_of name js → length seen ≤ place → entries_of name js ≡ []
no_entries_at_place name js seen place same is past = no_entries name js (rw (← is, ← same) past)
