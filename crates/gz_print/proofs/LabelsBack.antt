-- Labels that are printed are read back.
use Rattle.std.proofs.Common.{◌≡◌, ℕ, ◌+◌, ◌≤◌, ◌&&◌, List, [], ◌∷◌, ◌++◌, map, length, refl, sym, ap, ◌∙◌, append_assoc, append-nil, Bool, true, false, is_lt, is_eq, nat_le, nat_cmp, Ordering, Less, Equal, Greater, Ok, cond, arith}
use Rattle.std.specs.Str.{bytes_eq}
use Rattle.std.specs.List.{list_all}
use Rattle.std.specs.Cmp.Lexicographic.{slice_cmp}
use Rattle.std.proofs.lemmas.Map.Text.{is_eq-slice_cmp}
use Rattle.std.proofs.lemmas.Slice.Eq.{bytes_eq-Decides}
use Rattle.std.proofs.lemmas.Grind.{common_steps}
use Rattle.std.proofs.lemmas.List.{length-append}
use Rattle.serde_json.specs.Data.{Data, string, Members, no_members, member, put}
use Rattle.serde_json.specs.View.{items_of}
use Rattle.gz_label.specs.declared.label.Label.{Label}
use Rattle.gz_label.specs.Labels.{is_label, is_label_name, is_label_value, is_label_set, label_cmp, comes_before, are_ascending, put_label, with_label}
use Rattle.gz_label.proofs.Sets.{label_total, less, both_left, both_right, ascending_of_set, valid_of_set, few_of_set}
use Rattle.gz_fields.specs.Paths.{below, at_place}
use Rattle.gz_spec.specs.Labels.{label_at, labels_from, labels_named, all_labels, fitting, put_each, labels_in}
use Rattle.gz_print.specs.Printed.{list_data, first_values, label_members, labels_data}

-- ---- texts

pub same_bytes : (xs : List ℕ) → bytes_eq xs xs ≡ true
same_bytes xs = (bytes_eq-Decides xs xs).1 refl

equal : (o : Ordering) → is_eq o ≡ true → o ≡ Equal
equal Less is = cc
equal Equal is = refl
equal Greater is = cc

same_order : (xs : List ℕ) → slice_cmp nat_cmp xs xs ≡ Equal
same_order xs = equal (slice_cmp nat_cmp xs xs) (is_eq-slice_cmp xs xs ∙ same_bytes xs)

equal_texts : (xs ys : List ℕ) → slice_cmp nat_cmp xs ys ≡ Equal → xs ≡ ys
equal_texts xs ys is = (bytes_eq-Decides xs ys).0 (sym (is_eq-slice_cmp xs ys) ∙ rw is refl)

not_same : (b : Bool) → (b ≡ true → ⊥) → b ≡ false
not_same true never = absurd (never refl)
not_same false never = refl

apart : (xs ys : List ℕ) → slice_cmp nat_cmp xs ys ≡ Less → ys ≡ xs → ⊥
apart xs ys is same = let e : slice_cmp nat_cmp xs xs ≡ Less = ap (slice_cmp nat_cmp xs) (sym same) ∙ is in let f : slice_cmp nat_cmp xs xs ≡ Equal = same_order xs in cc

other_texts : (xs ys : List ℕ) → slice_cmp nat_cmp xs ys ≡ Less → bytes_eq ys xs ≡ false
other_texts xs ys is = not_same (bytes_eq ys xs) (λ same. apart xs ys is ((bytes_eq-Decides ys xs).0 same))

-- ---- the labels of one name

abbrev pub with_name : List ℕ → List ℕ → Label
with_name name value = record { name = name; value = value }

value_back : (path name value : List ℕ) → is_label_value value ≡ true → label_at path name (string value) ≡ Ok (with_name name value)
unfolding label_at
value_back path name value good = rw good refl

values_back : (path name : List ℕ) (vs : List (List ℕ)) (i : ℕ) → list_all is_label_value vs ≡ true → labels_from path name i (items_of (map string vs)) ≡ Ok (map (with_name name) vs)
values_back path name [] i good = refl
values_back path name (v ∷ vs) i good =
    rw (value_back (at_place path i) name v (both_left (is_label_value v) (list_all is_label_value vs) good), values_back path name vs (i + 1) (both_right (is_label_value v) (list_all is_label_value vs) good)) refl

named_back : (path name : List ℕ) (vs : List (List ℕ)) → is_label_name name ≡ true → list_all is_label_value vs ≡ true → labels_named path name (list_data (map string vs)) ≡ Ok (map (with_name name) vs)
unfolding labels_named
named_back path name vs is good = rw (is, values_back path name vs 0 good) refl

good_name : (l : Label) → is_label l ≡ true → is_label_name l.name ≡ true
unfolding is_label
good_name l is = both_left (is_label_name l.name) (is_label_value l.value) is

good_value : (l : Label) → is_label l ≡ true → is_label_value l.value ≡ true
unfolding is_label
good_value l is = both_right (is_label_name l.name) (is_label_value l.value) is

both : (a b : Bool) → a ≡ true → b ≡ true → (a && b) ≡ true
both a b f g = rw (f, g) refl

good_prefix : (named : Bool) (v : List ℕ) (vs : List (List ℕ)) → is_label_value v ≡ true → list_all is_label_value vs ≡ true → list_all is_label_value (cond named (v ∷ vs) []) ≡ true
good_prefix true v vs first rest = both (is_label_value v) (list_all is_label_value vs) first rest
good_prefix false v vs first rest = refl

good_values : (name : List ℕ) (ls : List Label) → list_all is_label ls ≡ true → list_all is_label_value (first_values name ls) ≡ true
good_values name [] all = refl
good_values name (l ∷ ls) all =
    good_prefix (bytes_eq l.name name) l.value (first_values name ls) (good_value l (both_left (is_label l) (list_all is_label ls) all))
    (good_values name ls (both_right (is_label l) (list_all is_label ls) all))

-- ---- the members, from the first on

put_before : (k l : List ℕ) (d e : Data) (ms : Members) → slice_cmp nat_cmp k l ≡ Less → put k d (member l e ms) ≡ member k d (member l e ms)
put_before k l d e ms is = rw is refl

put_over : (k l : List ℕ) (d e : Data) (ms : Members) → slice_cmp nat_cmp k l ≡ Equal → put k d (member l e ms) ≡ member k d ms
put_over k l d e ms is = rw is (rw (equal_texts k l is) refl)

-- the first name of the members with its values, and what is read of the others
record Shown (path : List ℕ) (l : Label) (ls : List Label) : Type 0 where
  tail : Members
  rest : List Label
  members : label_members (l ∷ ls) ≡ member l.name (list_data (map string (first_values l.name (l ∷ ls)))) tail
  joins : map (with_name l.name) (first_values l.name (l ∷ ls)) ++ rest ≡ l ∷ ls
  reads : all_labels path tail ≡ Ok rest

shown_back : (path : List ℕ) (l : Label) (ls : List Label) → list_all is_label (l ∷ ls) ≡ true → Shown path l ls → all_labels path (label_members (l ∷ ls)) ≡ Ok (l ∷ ls)
shown_back path l ls all s =
    ap (all_labels path) s.members
    ∙ rw (named_back (below path l.name) l.name (first_values l.name (l ∷ ls)) (good_name l (both_left (is_label l) (list_all is_label ls) all)) (good_values l.name (l ∷ ls) all), s.reads)
    (ap (λ (xs : List Label). Ok xs) s.joins)

none_here : (l m : Label) (ms : List Label) → bytes_eq m.name l.name ≡ false → first_values l.name (l ∷ m ∷ ms) ≡ l.value ∷ []
none_here l m ms other = rw (same_bytes l.name, other) refl

one_more : (l : Label) (ls : List Label) → first_values l.name (l ∷ ls) ≡ l.value ∷ first_values l.name ls
one_more l ls = rw (same_bytes l.name) refl

shown_next : (o : Ordering) (path : List ℕ) (l m : Label) (ms : List Label) → slice_cmp nat_cmp l.name m.name ≡ o → is_lt (label_cmp l m) ≡ true
    → list_all is_label (m ∷ ms) ≡ true → Shown path m ms → Shown path l (m ∷ ms)
shown_next Less path l m ms is first all s = record {
  tail = label_members (m ∷ ms);
  rest = m ∷ ms;
  members =
      ap (put l.name (list_data (map string (first_values l.name (l ∷ m ∷ ms))))) s.members
      ∙ put_before l.name m.name _ _ s.tail is
      ∙ ap (member l.name (list_data (map string (first_values l.name (l ∷ m ∷ ms))))) (sym s.members);
  joins = ap (λ (vs : List (List ℕ)). map (with_name l.name) vs ++ m ∷ ms) (none_here l m ms (other_texts l.name m.name is));
  reads = shown_back path m ms all s;
}
shown_next Equal path l m ms is first all s = record {
  tail = s.tail;
  rest = s.rest;
  members =
      ap (put l.name (list_data (map string (first_values l.name (l ∷ m ∷ ms))))) s.members
      ∙ put_over l.name m.name _ _ s.tail is;
  joins =
      ap (λ (vs : List (List ℕ)). map (with_name l.name) vs ++ s.rest) (one_more l (m ∷ ms))
      ∙ ap (λ (xs : List Label). l ∷ xs)
      (ap (λ (n : List ℕ). map (with_name n) (first_values n (m ∷ ms)) ++ s.rest) (equal_texts l.name m.name is) ∙ s.joins);
  reads = s.reads;
}
shown_next Greater path l m ms is first all s = absurd (let after : is_lt (label_cmp l m) ≡ false = rw is refl in cc)

shown : (path : List ℕ) (l : Label) (ls : List Label) → are_ascending (l ∷ ls) ≡ true → list_all is_label (l ∷ ls) ≡ true → Shown path l ls
shown path l [] up all = record {
  tail = no_members;
  rest = [];
  members = refl;
  joins = rw (same_bytes l.name) refl;
  reads = refl;
}
shown path l (m ∷ ms) up all =
    let rest : are_ascending (m ∷ ms) ≡ true = both_right (comes_before l (m ∷ ms)) (are_ascending (m ∷ ms)) up in
    let good : list_all is_label (m ∷ ms) ≡ true = both_right (is_label l) (list_all is_label (m ∷ ms)) all in
    shown_next (slice_cmp nat_cmp l.name m.name) path l m ms refl (both_left (comes_before l (m ∷ ms)) (are_ascending (m ∷ ms)) up) good (shown path m ms rest good)

all_back : (path : List ℕ) (ls : List Label) → are_ascending ls ≡ true → list_all is_label ls ≡ true → all_labels path (label_members ls) ≡ Ok ls
all_back path [] up all = refl
all_back path (l ∷ ls) up all = shown_back path l ls all (shown path l ls up all)

-- ---- into a set

before_all : (xs : List Label) (a l : Label) (ls : List Label) → comes_before a (xs ++ l ∷ ls) ≡ true → are_ascending (xs ++ l ∷ ls) ≡ true → label_cmp a l ≡ Less
before_all [] a l ls first up = less (label_cmp a l) first
before_all (x ∷ xs) a l ls first up =
    label_total.trans a x l (less (label_cmp a x) first)
    (before_all xs x l ls (both_left (comes_before x (xs ++ l ∷ ls)) (are_ascending (xs ++ l ∷ ls)) up) (both_right (comes_before x (xs ++ l ∷ ls)) (are_ascending (xs ++ l ∷ ls)) up))

put_behind : (xs : List Label) (l : Label) (ls : List Label) → are_ascending (xs ++ l ∷ ls) ≡ true → put_label l xs ≡ xs ++ l ∷ []
put_behind [] l ls up = refl
put_behind (x ∷ xs) l ls up =
    let first : comes_before x (xs ++ l ∷ ls) ≡ true = both_left (comes_before x (xs ++ l ∷ ls)) (are_ascending (xs ++ l ∷ ls)) up in
    let rest : are_ascending (xs ++ l ∷ ls) ≡ true = both_right (comes_before x (xs ++ l ∷ ls)) (are_ascending (xs ++ l ∷ ls)) up in
    let after : label_cmp l x ≡ Greater = rw (label_total.antisymm l x, before_all xs x l ls first rest) refl in
    rw after (ap (λ (ms : List Label). x ∷ ms) (put_behind xs l ls rest))

few : (xs ls : List Label) → length (xs ++ ls) ≤ 64 → nat_le (length xs) 64 ≡ true
few xs ls short = let l : length (xs ++ ls) ≡ length xs + length ls = length-append xs ls in let b : length xs ≤ 64 = omega arith in grind (arith, common_steps)

one_put : (path : List ℕ) (xs : List Label) (l : Label) (ls : List Label) → are_ascending (xs ++ l ∷ ls) ≡ true → is_label l ≡ true → length ((xs ++ l ∷ []) ++ ls) ≤ 64
    → fitting path (with_label l xs) ≡ Ok (xs ++ l ∷ [])
unfolding with_label
one_put path xs l ls up good short = rw (good, put_behind xs l ls up, few (xs ++ l ∷ []) ls short) refl

put_back : (path : List ℕ) (ls xs : List Label) → are_ascending (xs ++ ls) ≡ true → list_all is_label ls ≡ true → length (xs ++ ls) ≤ 64 → put_each path xs ls ≡ Ok (xs ++ ls)
put_back path [] xs up all short = rw append-nil refl
put_back path (l ∷ ls) xs up all short =
    let same : (xs ++ l ∷ []) ++ ls ≡ xs ++ l ∷ ls = append_assoc xs (l ∷ []) ls in
    rw (one_put path xs l ls up (both_left (is_label l) (list_all is_label ls) all) (rw same short))
    (put_back path ls (xs ++ l ∷ []) (rw same up) (both_right (is_label l) (list_all is_label ls) all) (rw same short) ∙ ap (λ (ms : List Label). Ok ms) same)

pub labels_back : (path : List ℕ) (ls : List Label) → is_label_set ls ≡ true → labels_in path (labels_data ls) ≡ Ok ls
unfolding labels_in
labels_back path ls is =
    rw (all_back path ls (ascending_of_set ls is) (valid_of_set ls is)) (put_back path ls [] (ascending_of_set ls is) (valid_of_set ls is) (few_of_set ls is))
