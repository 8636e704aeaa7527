-- Slots with a value for each name, slot by slot.
use Rattle.std.proofs.Common.{◌≡◌, ℕ, zero, suc, ◌+◌, ◌<◌, ◌≤◌, Bool, true, false, List, [], ◌∷◌, ◌++◌, length, drop, set, get_or, Option, Some, None, is_some, is_none, refl, ap, ap₂, sym, ◌∙◌, arith, append_assoc}
use Rattle.std.specs.Prelude.{if◌then◌else◌}
use Rattle.std.specs.Str.{bytes_eq}
use Rattle.std.proofs.lemmas.List.{drop_more}
use Rattle.gz_replica.specs.Slots.{Slots, emptied, fill, first_there, missing, place_of, slots_for, value_at}

-- ---- slots that haven't told

-- a slot for one more name
pub slots_left : {A : Type 0} (done : Slots A) (names : List (List ℕ)) (i : ℕ) (m : List ℕ) → i < length names → m ≡ get_or names i m
    → (done ++ (m, None) ∷ []) ++ slots_for (drop (i + 1) names) ≡ done ++ slots_for (drop i names)
slots_left done names i m within is =
    append_assoc done ((m, None) ∷ []) (slots_for (drop (i + 1) names))
    ∙ ap (λ (y : List ℕ). done ++ slots_for (y ∷ drop (i + 1) names)) is
    ∙ ap (λ (ns : List (List ℕ)). done ++ slots_for ns) (sym (drop_more names i m within))

first_missing : {A : Type 0} (n : List ℕ) (o : Option A) (rest : List (List ℕ)) → is_none o ≡ true → (if is_some o then rest else n ∷ rest) ≡ n ∷ rest
first_missing n None rest none = refl
first_missing n (Some v) rest none = absurd (cc)

first_told : {A : Type 0} (n : List ℕ) (o : Option A) (rest : List (List ℕ)) → is_none o ≡ false → (if is_some o then rest else n ∷ rest) ≡ rest
first_told n None rest some = absurd (cc)
first_told n (Some v) rest some = refl

-- one more name is missing
pub missing_left : {A : Type 0} (done : List (List ℕ)) (ps : Slots A) (i : ℕ) (p : List ℕ × Option A) → i < length ps → p ≡ get_or ps i p → is_none p.1 ≡ true
    → (done ++ p.0 ∷ []) ++ missing (drop (i + 1) ps) ≡ done ++ missing (drop i ps)
missing_left done ps i p within is none =
    append_assoc done (p.0 ∷ []) (missing (drop (i + 1) ps))
    ∙ ap (λ (ns : List (List ℕ)). done ++ ns) (sym (first_missing p.0 p.1 (missing (drop (i + 1) ps)) none))
    ∙ ap (λ q. done ++ missing (q ∷ drop (i + 1) ps)) is
    ∙ ap (λ qs. done ++ missing qs) (sym (drop_more ps i p within))

-- a slot that has told is passed over
pub missing_told : {A : Type 0} (ps : Slots A) (i : ℕ) (p : List ℕ × Option A) → i < length ps → p ≡ get_or ps i p → is_none p.1 ≡ false
    → missing (drop (i + 1) ps) ≡ missing (drop i ps)
missing_told ps i p within is some =
    sym (first_told p.0 p.1 (missing (drop (i + 1) ps)) some)
    ∙ ap (λ q. missing (q ∷ drop (i + 1) ps)) is
    ∙ ap (λ qs. missing qs) (sym (drop_more ps i p within))

-- ---- values by their places

pub value_read : {A : Type 0} (ps : Slots A) (i : ℕ) (p : List ℕ × Option A) → i < length ps → p ≡ get_or ps i p → value_at ps i ≡ p.1
value_read [] i p within is = absurd (omega arith)
value_read (x ∷ ps) zero p within is = ap (λ q. q.1) (sym is)
value_read (x ∷ ps) (suc i) p within is = value_read ps i p (omega arith) is

pub value_past : {A : Type 0} (ps : Slots A) (i : ℕ) → length ps ≤ i → value_at ps i ≡ None
value_past [] i past = refl
value_past (x ∷ ps) zero past = absurd (omega arith)
value_past (x ∷ ps) (suc i) past = value_past ps i (omega arith)

-- ---- a slot that takes a value

fill_past_first : {A : Type 0} (m : List ℕ) (v : A) (p : List ℕ × Option A) (ps : Slots A) (b : Bool) → suc (length ps) ≤ (if b then 0 else suc (place_of m ps))
    → (length ps ≤ place_of m ps → fill m v ps ≡ ps) → (if b then (p.0, Some (first_there p.1 v)) ∷ ps else p ∷ fill m v ps) ≡ p ∷ ps
fill_past_first m v p ps true past ih = absurd (omega arith)
fill_past_first m v p ps false past ih = ap (λ qs. p ∷ qs) (ih (omega arith))

-- where no slot is of that name
pub fill_past : {A : Type 0} (m : List ℕ) (v : A) (ps : Slots A) → length ps ≤ place_of m ps → fill m v ps ≡ ps
fill_past m v [] past = refl
fill_past m v (p ∷ ps) past = fill_past_first m v p ps (bytes_eq m p.0) past (λ past. fill_past m v ps past)

same_value : {A : Type 0} (n : List ℕ) (o : Option A) (v : A) → is_some o ≡ true → ◌≡◌ {A = List ℕ × Option A} (n, Some (first_there o v)) (n, o)
same_value n None v some = absurd (cc)
same_value n (Some x) v some = refl

fill_full_first : {A : Type 0} (m : List ℕ) (v : A) (x : List ℕ × Option A) (ps : Slots A) (i : ℕ) (p : List ℕ × Option A) (b : Bool)
    → i ≡ (if b then 0 else suc (place_of m ps)) → i < suc (length ps) → p ≡ get_or (x ∷ ps) i p → is_some p.1 ≡ true
    → ((k : ℕ) → k ≡ place_of m ps → k < length ps → p ≡ get_or ps k p → fill m v ps ≡ ps)
    → (if b then (x.0, Some (first_there x.1 v)) ∷ ps else x ∷ fill m v ps) ≡ x ∷ ps
fill_full_first m v x ps zero p true at within is some ih = ap (λ q. q ∷ ps) (same_value x.0 x.1 v (ap (λ q. is_some q.1) (sym is) ∙ some))
fill_full_first m v x ps (suc i) p true at within is some ih = absurd (omega arith)
fill_full_first m v x ps zero p false at within is some ih = absurd (omega arith)
fill_full_first m v x ps (suc i) p false at within is some ih = ap (λ qs. x ∷ qs) (ih i (omega arith) (omega arith) is)

-- where the first slot of that name has told
pub fill_full : {A : Type 0} (m : List ℕ) (v : A) (ps : Slots A) (i : ℕ) (p : List ℕ × Option A) → i ≡ place_of m ps → i < length ps → p ≡ get_or ps i p → is_some p.1 ≡ true
    → fill m v ps ≡ ps
fill_full m v [] i p at within is some = refl
fill_full m v (x ∷ ps) i p at within is some =
    fill_full_first m v x ps i p (bytes_eq m x.0) at within is some (λ k k_at k_within k_is. fill_full m v ps k p k_at k_within k_is some)

new_value : {A : Type 0} (o : Option A) (v : A) → is_some o ≡ false → first_there o v ≡ v
new_value None v none = refl
new_value (Some x) v none = absurd (cc)

fill_there_first : {A : Type 0} (m : List ℕ) (v : A) (x : List ℕ × Option A) (ps : Slots A) (i : ℕ) (p q : List ℕ × Option A) (b : Bool)
    → i ≡ (if b then 0 else suc (place_of m ps)) → i < suc (length ps) → p ≡ get_or (x ∷ ps) i p → is_some p.1 ≡ false → q.0 ≡ p.0 → q.1 ≡ Some v
    → ((k : ℕ) → k ≡ place_of m ps → k < length ps → p ≡ get_or ps k p → set ps k q ≡ fill m v ps)
    → set (x ∷ ps) i q ≡ (if b then (x.0, Some (first_there x.1 v)) ∷ ps else x ∷ fill m v ps)
fill_there_first m v x ps zero p q true at within is none name value ih =
    let new : first_there x.1 v ≡ v = new_value x.1 v (ap (λ y. is_some y.1) (sym is) ∙ none) in
    ap₂ (λ n o. (n, o) ∷ ps) (name ∙ ap (λ y. y.0) is) (value ∙ ap (λ w. Some w) (sym new))
fill_there_first m v x ps (suc i) p q true at within is none name value ih = absurd (omega arith)
fill_there_first m v x ps zero p q false at within is none name value ih = absurd (omega arith)
fill_there_first m v x ps (suc i) p q false at within is none name value ih = ap (λ qs. x ∷ qs) (ih i (omega arith) (omega arith) is)

-- where it hasn't: it takes the value
pub fill_there : {A : Type 0} (m : List ℕ) (v : A) (ps : Slots A) (i : ℕ) (p q : List ℕ × Option A) → i ≡ place_of m ps → i < length ps → p ≡ get_or ps i p → is_some p.1 ≡ false
    → q.0 ≡ p.0 → q.1 ≡ Some v → set ps i q ≡ fill m v ps
fill_there m v [] i p q at within is none name value = absurd (omega arith)
fill_there m v (x ∷ ps) i p q at within is none name value =
    fill_there_first m v x ps i p q (bytes_eq m x.0) at within is none name value
    (λ k k_at k_within k_is. fill_there m v ps k p q k_at k_within k_is none name value)

-- ---- and gives it back

no_value : {A : Type 0} (o : Option A) → is_some o ≡ false → None ≡ o
no_value None none = refl
no_value (Some x) none = absurd (cc)

-- a slot that took a value hasn't told, and is as it was
pub emptied_there : {A : Type 0} (ps : Slots A) (i : ℕ) (p q : List ℕ × Option A) → i < length ps → p ≡ get_or ps i p → is_some p.1 ≡ false → q.0 ≡ p.0 → emptied (set ps i q) i ≡ ps
emptied_there [] i p q within is none name = absurd (omega arith)
emptied_there (x ∷ ps) zero p q within is none name =
    ap₂ (λ n o. (n, o) ∷ ps) (name ∙ ap (λ y. y.0) is) (no_value x.1 (ap (λ y. is_some y.1) (sym is) ∙ none))
emptied_there (x ∷ ps) (suc i) p q within is none name = ap (λ qs. x ∷ qs) (emptied_there ps i p q (omega arith) is none name)

-- the place of none
pub emptied_past : {A : Type 0} (ps : Slots A) (i : ℕ) → length ps ≤ i → emptied ps i ≡ ps
emptied_past [] i past = refl
emptied_past (x ∷ ps) zero past = absurd (omega arith)
emptied_past (x ∷ ps) (suc i) past = ap (λ qs. x ∷ qs) (emptied_past ps i (omega arith))

-- a slot without a value
pub emptied_set : {A : Type 0} (ps : Slots A) (i : ℕ) (p q : List ℕ × Option A) → i < length ps → p ≡ get_or ps i p → q.0 ≡ p.0 → q.1 ≡ None → set ps i q ≡ emptied ps i
emptied_set [] i p q within is name none = absurd (omega arith)
emptied_set (x ∷ ps) zero p q within is name none = ap₂ (λ n o. (n, o) ∷ ps) (name ∙ ap (λ y. y.0) is) none
emptied_set (x ∷ ps) (suc i) p q within is name none = ap (λ qs. x ∷ qs) (emptied_set ps i p q (omega arith) is name none)
