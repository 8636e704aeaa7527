-- Names that were used before, and names that are none of them.
use Rattle.std.proofs.Common.{◌≡◌, ◌&&◌, ◌||◌, ℕ, List, [], ◌∷◌, ◌++◌, map, refl, sym, ap, ◌∙◌, not, Bool, true, false}
use Rattle.std.specs.Str.{bytes_eq}
use Rattle.std.proofs.lemmas.Slice.Eq.{bytes_eq-Decides}
use Rattle.gz_fields.specs.Lists.{is_used}
use Rattle.gz_spec.specs.Specs.{name_of_journal}
use Rattle.gz_spec.specs.Valid.{are_fresh}
use Rattle.gz_spec.specs.Records.{JournalSpec}
use Rattle.gz_promise.specs.Names.{Apart}
use Rattle.gz_promise.specs.Names.{Distinct}
use Rattle.gz_plain.proofs.Starts.{unequal}

pub not_parts : (a b : Bool) → (not a && b) ≡ true → (a ≡ false) × (b ≡ true)
not_parts true b is = absurd (cc)
not_parts false b is = (refl, is)

not_used : (used : List (List ℕ)) (name key : List ℕ) → is_used used name ≡ false → is_used used key ≡ true → name ≡ key → ⊥
not_used used name key free taken same = let wrong : true ≡ false = sym taken ∙ ap (is_used used) (sym same) ∙ free in cc

-- a name that isn't used is none of the used ones
pub other_name : (used : List (List ℕ)) (name key : List ℕ) → is_used used name ≡ false → is_used used key ≡ true → bytes_eq name key ≡ false
other_name used name key free taken = unequal name key (not_used used name key free taken)

other_key : (used : List (List ℕ)) (name key : List ℕ) → is_used used name ≡ false → is_used used key ≡ true → bytes_eq key name ≡ false
other_key used name key free taken = unequal key name (λ same. not_used used name key free taken (sym same))

used_later : (a b : Bool) → b ≡ true → (a || b) ≡ true
used_later true b is = refl
used_later false b is = is

same_name : (name : List ℕ) → bytes_eq name name ≡ true
same_name name = (bytes_eq-Decides name name).1 refl

more_if : (b rest more : Bool) → (rest ≡ true → more ≡ true) → (b || rest) ≡ true → (b || more) ≡ true
more_if true rest more then_ is = refl
more_if false rest more then_ is = then_ is

pub used_more : (used : List (List ℕ)) (name key : List ℕ) → is_used used key ≡ true → is_used (used ++ name ∷ []) key ≡ true
used_more [] name key is = absurd (cc)
used_more (u ∷ us) name key is = more_if (bytes_eq key u) (is_used us key) (is_used (us ++ name ∷ []) key) (used_more us name key) is

pub used_last : (used : List (List ℕ)) (name : List ℕ) → is_used (used ++ name ∷ []) name ≡ true
used_last [] name = rw (same_name name) refl
used_last (u ∷ us) name = used_later (bytes_eq name u) (is_used (us ++ name ∷ []) name) (used_last us name)

-- ---- journals of names of their own

apart_fresh : (used : List (List ℕ)) (js : List JournalSpec) (name : List ℕ) → is_used used name ≡ true → are_fresh name_of_journal used js ≡ true → Apart name (map name_of_journal js)
apart_fresh used [] name taken fresh = tt
apart_fresh used (j ∷ js) name taken fresh =
    let f = not_parts (is_used used j.name) (are_fresh name_of_journal (used ++ j.name ∷ []) js) fresh in (
      other_key used j.name name f.0 taken,
      other_name used j.name name f.0 taken,
      apart_fresh (used ++ j.name ∷ []) js name (used_more used j.name name taken) f.1,
    )

pub distinct_fresh : (used : List (List ℕ)) (js : List JournalSpec) → are_fresh name_of_journal used js ≡ true → Distinct (map name_of_journal js)
distinct_fresh used [] fresh = tt
distinct_fresh used (j ∷ js) fresh =
    let f = not_parts (is_used used j.name) (are_fresh name_of_journal (used ++ j.name ∷ []) js) fresh in
    (apart_fresh (used ++ j.name ∷ []) js j.name (used_last used j.name) f.1, distinct_fresh (used ++ j.name ∷ []) js f.1)
