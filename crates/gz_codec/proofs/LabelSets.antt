-- Labels in the order of a set.
use Rattle.std.proofs.Common.{◌≡◌, ℕ, ◌≤◌, List, [], ◌∷◌, ◌++◌, length, true, refl, sym, ap, ◌∙◌, append_assoc, is_lt, nat_le, Result, Ok, subst, Less, Greater, arith}
use Rattle.std.proofs.lemmas.Grind.{common_steps}
use Rattle.std.proofs.lemmas.List.{length-append}
use Rattle.std.specs.List.{list_all}
use Rattle.gz_label.specs.declared.label.Label.{Label}
use Rattle.gz_label.specs.Labels.{is_label, label_cmp, comes_before, are_ascending, is_label_set, put_label, with_label}
use Rattle.gz_label.specs.declared.name.LabelError.{LabelError}
use Rattle.gz_label.proofs.Sets.{label_total, less, both_left, both_right, ascending_of_set, valid_of_set, few_of_set}

-- a label of an ascending list comes before each that stands behind it
before_later : (m : Label) (ms : List Label) (l : Label) (rest : List Label) → are_ascending (m ∷ (ms ++ l ∷ rest)) ≡ true → label_cmp m l ≡ Less
before_later m [] l rest up = less (label_cmp m l) (both_left (is_lt (label_cmp m l)) (are_ascending (l ∷ rest)) up)
before_later m (k ∷ ms) l rest up =
    let first : label_cmp m k ≡ Less = less (label_cmp m k) (both_left (is_lt (label_cmp m k)) (are_ascending (k ∷ (ms ++ l ∷ rest))) up) in
    label_total.trans m k l first (before_later k ms l rest (both_right (is_lt (label_cmp m k)) (are_ascending (k ∷ (ms ++ l ∷ rest))) up))

greater : (l m : Label) → label_cmp m l ≡ Less → label_cmp l m ≡ Greater
greater l m before = rw (label_total.antisymm l m, before) refl

-- the next label of an ascending list is put behind those before it
put_next : (ms : List Label) (l : Label) (rest : List Label) → are_ascending (ms ++ l ∷ rest) ≡ true → put_label l ms ≡ ms ++ l ∷ []
put_next [] l rest up = refl
put_next (m ∷ ms) l rest up =
    let after : label_cmp l m ≡ Greater = greater l m (before_later m ms l rest up) in
    let more : put_label l ms ≡ ms ++ l ∷ [] = put_next ms l rest (both_right (comes_before m (ms ++ l ∷ rest)) (are_ascending (ms ++ l ∷ rest)) up) in
    rw after (ap (λ (ks : List Label). m ∷ ks) more)

valid_at : (ms : List Label) (l : Label) (rest : List Label) → list_all is_label (ms ++ l ∷ rest) ≡ true → is_label l ≡ true
valid_at [] l rest all = both_left (is_label l) (list_all is_label rest) all
valid_at (m ∷ ms) l rest all = valid_at ms l rest (both_right (is_label m) (list_all is_label (ms ++ l ∷ rest)) all)

fits : (n : ℕ) → n ≤ 64 → nat_le n 64 ≡ true
fits n few = grind (arith, common_steps)

-- so it is put behind them in a set
pub with_next : (ms : List Label) (l : Label) (rest : List Label) → is_label_set (ms ++ l ∷ rest) ≡ true → with_label l ms ≡ Ok (ms ++ l ∷ [])
unfolding with_label
with_next ms l rest set =
    let valid : is_label l ≡ true = valid_at ms l rest (valid_of_set (ms ++ l ∷ rest) set) in
    let placed : put_label l ms ≡ ms ++ l ∷ [] = put_next ms l rest (ascending_of_set (ms ++ l ∷ rest) set) in
    let few : length (ms ++ l ∷ rest) ≤ 64 = few_of_set (ms ++ l ∷ rest) set in
    let short : nat_le (length (ms ++ l ∷ [])) 64 ≡ true = fits (length (ms ++ l ∷ [])) (omega (arith, length-append ms (l ∷ rest), length-append ms (l ∷ []), few)) in
    rw (valid, placed, short) refl

abbrev pub done : List Label → Result (List Label) LabelError
done ls = Ok ls

-- the same, where the rest of the labels is in the place of the next one and those behind it
pub next_set : (ms : List Label) (l : Label) (left rest all after : List Label) → left ≡ l ∷ rest → ms ++ left ≡ all → is_label_set all ≡ true → with_label l ms ≡ done after → after ++ rest ≡ all
next_set ms l left rest all after split joined set put =
    let whole : ms ++ l ∷ rest ≡ all = subst (λ (r : List Label). ms ++ r ≡ all) split joined in
    let placed : done (ms ++ l ∷ []) ≡ done after = sym (with_next ms l rest (subst (λ (ls : List Label). is_label_set ls ≡ true) (sym whole) set)) ∙ put in
    let is : after ≡ ms ++ l ∷ [] = cc in
    rw is (append_assoc ms (l ∷ []) rest ∙ whole)
