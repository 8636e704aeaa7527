-- What is printed is read back.
use Rattle.std.proofs.Common.{◌≡◌, ℕ, suc, ◌+◌, ◌<◌, ◌==◌, ◌&&◌, List, [], ◌∷◌, ◌++◌, length, take, drop, map, refl, ap, sym, ◌∙◌, cond, not, nat_lt, is_lt, Bool, true, false, Option, Some, None, Ok, Ordering, Less, Greater, arith, length-append, append_assoc}
use Rattle.std.proofs.lemmas.Grind.{common_steps}
use Rattle.std.proofs.lemmas.List.{append-nil}
use Rattle.std.proofs.lemmas.List.Folds.{list_all-append}
use Rattle.std.proofs.lemmas.Bool.{lt-ltb}
use Rattle.std.proofs.Math.Seq.{take-append_seam, drop-append-add}
use Rattle.std.specs.List.{list_all, onto_first}
use Rattle.gz_label.specs.declared.label.Label.{Label}
use Rattle.gz_label.specs.Items.{place_of, parts_of, items_of, first_bad}
use Rattle.gz_label.specs.Labels.{is_name_byte, is_value_byte, is_label_name, is_label_value, is_label, label_cmp, comes_before, are_ascending, is_label_set, put_label, put_labels, spelling, print_of, print_more, label_of, label_in, is_label_item, labels_in, set_of}
use Rattle.gz_label.proofs.Sets.{both_left, both_right, label_total, ascending_of_set, valid_of_set, limited_set, less}
use Rattle.gz_label.proofs.Printed.{print_first}

-- ---- bytes

apart_name : (b : ℕ) → is_name_byte b ≡ true → (not (b == 44) && not (b == 61)) ≡ true
apart_name b is = grind (arith, common_steps)

apart_value : (b : ℕ) → is_value_byte b ≡ true → not (b == 44) ≡ true
apart_value b is = grind (arith, common_steps)

weaker : (p q : ℕ → Bool) → ((b : ℕ) → p b ≡ true → q b ≡ true) → (bs : List ℕ) → list_all p bs ≡ true → list_all q bs ≡ true
weaker p q each [] all = refl
weaker p q each (b ∷ bs) all = rw (each b (both_left (p b) (list_all p bs) all), weaker p q each bs (both_right (p b) (list_all p bs) all)) refl

name_bytes : (l : Label) → is_label l ≡ true → list_all is_name_byte l.name ≡ true
unfolding is_label is_label_name
name_bytes l valid = both_right (Rattle.std.proofs.Common.nat_le 1 (length l.name) && Rattle.std.proofs.Common.nat_le (length l.name) 64) (list_all is_name_byte l.name) (both_left (is_label_name l.name) (is_label_value l.value) valid)

value_bytes : (l : Label) → is_label l ≡ true → list_all is_value_byte l.value ≡ true
unfolding is_label is_label_value
value_bytes l valid = both_right (Rattle.std.proofs.Common.nat_le (length l.value) 255) (list_all is_value_byte l.value) (both_right (is_label_name l.name) (is_label_value l.value) valid)

no_comma : (l : Label) → is_label l ≡ true → list_all (λ b. not (b == 44)) (spelling l) ≡ true
no_comma l valid =
    rw (
      list_all-append (λ (b : ℕ). not (b == 44)) l.name (61 ∷ l.value),
      weaker is_name_byte (λ b. not (b == 44)) (λ b is. both_left (not (b == 44)) (not (b == 61)) (apart_name b is)) l.name (name_bytes l valid),
      weaker is_value_byte (λ b. not (b == 44)) apart_value l.value (value_bytes l valid),
    ) refl

no_equals : (l : Label) → is_label l ≡ true → list_all (λ b. not (b == 61)) l.name ≡ true
no_equals l valid = weaker is_name_byte (λ b. not (b == 61)) (λ b is. both_right (not (b == 44)) (not (b == 61)) (apart_name b is)) l.name (name_bytes l valid)

-- ---- items

last_step : (comma : Bool) (b : ℕ) (bs : List ℕ) → (not comma && list_all (λ c. not (c == 44)) bs) ≡ true → parts_of bs ≡ bs ∷ [] → cond comma ([] ∷ parts_of bs) (onto_first b (parts_of bs)) ≡ (b ∷ bs) ∷ []
last_step true b bs plain is = cc
last_step false b bs plain is = rw is refl

parts_last : (bs : List ℕ) → list_all (λ b. not (b == 44)) bs ≡ true → parts_of bs ≡ bs ∷ []
parts_last [] plain = refl
parts_last (b ∷ bs) plain = last_step (b == 44) b bs plain (parts_last bs (both_right (not (b == 44)) (list_all (λ c. not (c == 44)) bs) plain))

more_step : (comma : Bool) (b : ℕ) (bs rest : List ℕ) → (not comma && list_all (λ c. not (c == 44)) bs) ≡ true → parts_of (bs ++ 44 ∷ rest) ≡ bs ∷ parts_of rest
    → cond comma ([] ∷ parts_of (bs ++ 44 ∷ rest)) (onto_first b (parts_of (bs ++ 44 ∷ rest))) ≡ (b ∷ bs) ∷ parts_of rest
more_step true b bs rest plain is = cc
more_step false b bs rest plain is = rw is refl

parts_more : (bs rest : List ℕ) → list_all (λ b. not (b == 44)) bs ≡ true → parts_of (bs ++ 44 ∷ rest) ≡ bs ∷ parts_of rest
parts_more [] rest plain = refl
parts_more (b ∷ bs) rest plain = more_step (b == 44) b bs rest plain (parts_more bs rest (both_right (not (b == 44)) (list_all (λ c. not (c == 44)) bs) plain))

parts_printed : (ls : List Label) (l : Label) → is_label l ≡ true → list_all is_label ls ≡ true → parts_of (spelling l ++ print_more ls) ≡ map spelling (l ∷ ls)
parts_printed [] l valid all = rw (append-nil (spelling l)) (parts_last (spelling l) (no_comma l valid))
parts_printed (m ∷ ms) l valid all =
    let rest : parts_of (spelling m ++ print_more ms) ≡ map spelling (m ∷ ms) = parts_printed ms m (both_left (is_label m) (list_all is_label ms) all) (both_right (is_label m) (list_all is_label ms) all) in
    parts_more (spelling l) (spelling m ++ print_more ms) (no_comma l valid) ∙ ap (λ (items : List (List ℕ)). spelling l ∷ items) rest

some_bytes : (l : Label) (rest : List ℕ) → nat_lt 0 (length (spelling l ++ rest)) ≡ true
some_bytes l rest = lt-ltb 0 (length (spelling l ++ rest)) (omega (arith, length-append (spelling l) rest, length-append l.name (61 ∷ l.value)))

items_printed : (ls : List Label) → list_all is_label ls ≡ true → items_of (print_of ls) ≡ map spelling ls
items_printed [] all = refl
items_printed (l ∷ ls) all =
    let parts : parts_of (spelling l ++ print_more ls) ≡ map spelling (l ∷ ls) = parts_printed ls l (both_left (is_label l) (list_all is_label ls) all) (both_right (is_label l) (list_all is_label ls) all) in
    rw (print_first l ls, some_bytes l (print_more ls)) parts

-- ---- a label

place_step : (equals : Bool) (bs rest : List ℕ) → (not equals && list_all (λ c. not (c == 61)) bs) ≡ true → place_of 61 (bs ++ 61 ∷ rest) ≡ length bs
    → cond (not equals) (1 + place_of 61 (bs ++ 61 ∷ rest)) 0 ≡ suc (length bs)
place_step true bs rest plain is = cc
place_step false bs rest plain is = omega arith

place_here : (bs rest : List ℕ) → list_all (λ b. not (b == 61)) bs ≡ true → place_of 61 (bs ++ 61 ∷ rest) ≡ length bs
place_here [] rest plain = refl
place_here (b ∷ bs) rest plain = place_step (b == 61) bs rest plain (place_here bs rest (both_right (not (b == 61)) (list_all (λ c. not (c == 61)) bs) plain))

label_of_valid : (l : Label) → is_label l ≡ true → label_of l.name l.value ≡ Some l
unfolding is_label label_of
label_of_valid l valid = rw valid refl

-- a label's spelling says it
label_in_spelling : (l : Label) → is_label l ≡ true → label_in (spelling l) ≡ Some l
label_in_spelling l valid =
    let place : place_of 61 (spelling l) ≡ length l.name = place_here l.name l.value (no_equals l valid) in
    let within : nat_lt (length l.name) (length (spelling l)) ≡ true = lt-ltb (length l.name) (length (spelling l)) (omega (arith, length-append l.name (61 ∷ l.value))) in
    let before : take (length l.name) (spelling l) ≡ l.name = take-append_seam l.name (61 ∷ l.value) in
    let after : drop (length l.name + 1) (spelling l) ≡ l.value = drop-append-add l.name (61 ∷ l.value) 1 in
    rw (place, within, before, after) (label_of_valid l valid)

none_bad : (ls : List Label) (at : ℕ) → list_all is_label ls ≡ true → first_bad is_label_item at (map spelling ls) ≡ None
none_bad [] at all = refl
none_bad (l ∷ ls) at all =
    rw (label_in_spelling l (both_left (is_label l) (list_all is_label ls) all)) (none_bad ls (at + length (spelling l) + 1) (both_right (is_label l) (list_all is_label ls) all))

labels_back : (ls : List Label) → list_all is_label ls ≡ true → labels_in (map spelling ls) ≡ ls
labels_back [] all = refl
labels_back (l ∷ ls) all =
    rw (label_in_spelling l (both_left (is_label l) (list_all is_label ls) all), labels_back ls (both_right (is_label l) (list_all is_label ls) all)) refl

-- ---- ascending labels

before_all : (xs : List Label) (a l : Label) (ls : List Label) → comes_before a (xs ++ l ∷ ls) ≡ true → are_ascending (xs ++ l ∷ ls) ≡ true → label_cmp a l ≡ Less
before_all [] a l ls first up = less (label_cmp a l) first
before_all (x ∷ xs) a l ls first up =
    let next : label_cmp x l ≡ Less = before_all xs x l ls (both_left (comes_before x (xs ++ l ∷ ls)) (are_ascending (xs ++ l ∷ ls)) up) (both_right (comes_before x (xs ++ l ∷ ls)) (are_ascending (xs ++ l ∷ ls)) up) in
    label_total.trans a x l (less (label_cmp a x) first) next

put_last : (xs : List Label) (l : Label) (ls : List Label) → are_ascending (xs ++ l ∷ ls) ≡ true → put_label l xs ≡ xs ++ l ∷ []
put_last [] l ls up = refl
put_last (x ∷ xs) l ls up =
    let first : comes_before x (xs ++ l ∷ ls) ≡ true = both_left (comes_before x (xs ++ l ∷ ls)) (are_ascending (xs ++ l ∷ ls)) up in
    let rest : are_ascending (xs ++ l ∷ ls) ≡ true = both_right (comes_before x (xs ++ l ∷ ls)) (are_ascending (xs ++ l ∷ ls)) up in
    let after : label_cmp l x ≡ Greater = rw (label_total.antisymm l x, before_all xs x l ls first rest) refl in
    rw after (ap (λ (ms : List Label). x ∷ ms) (put_last xs l ls rest))

put_ascending : (ls xs : List Label) → are_ascending (xs ++ ls) ≡ true → put_labels ls xs ≡ xs ++ ls
put_ascending [] xs up = sym (append-nil xs)
put_ascending (l ∷ ls) xs up =
    let same : (xs ++ l ∷ []) ++ ls ≡ xs ++ l ∷ ls = append_assoc xs (l ∷ []) ls in
    rw (put_last xs l ls up) (put_ascending ls (xs ++ l ∷ []) (rw same up) ∙ same)

-- reading what a set is printed as gives the set
pub read_back : (set : List Label) → is_label_set set ≡ true → set_of (print_of set) ≡ Ok set
read_back set is =
    let valid : list_all is_label set ≡ true = valid_of_set set is in
    rw (items_printed set valid, none_bad set 0 valid, labels_back set valid, put_ascending set [] (ascending_of_set set is)) (limited_set set is)
