-- Labels, and sets of them.
use Rattle.std.specs.Prelude.{◌≡◌, ℕ, ◌==◌, ◌&&◌, ◌||◌, List, [], ◌∷◌, length, map, filter, Bool, true, not, nat_le, Option, Some, None, is_some, option_to_list, Result, Err, if◌then◌else◌, ◌++◌}
use Rattle.std.specs.List.{list_all, list_any, join_with_byte}
use Rattle.std.specs.Char.{is_ascii_alphanumeric}
use Rattle.std.specs.Str.{bytes_eq}
use Rattle.std.specs.declared.cmp.Ordering.{Ordering}
use Rattle.std.specs.Ordering.{nat_cmp, ordering_then, match_ordering, is_lt}
use Rattle.std.specs.Cmp.Lexicographic.{slice_cmp}
use Rattle.gz_label.specs.declared.label.Label.{Label}
use Rattle.gz_label.specs.declared.name.LabelError.{LabelError}
use Rattle.gz_label.specs.declared.name.LabelError.TheVariants.{BadName}
use Rattle.gz_label.specs.Items.{has_byte, before_byte, after_byte, items_of, first_bad, unless_bad, max_labels, limited, put_all}

-- ---- what a label is

-- a letter, a digit, `_`, `.`, `/` or `-`
abbrev pub is_name_byte : ℕ → Bool
is_name_byte b = is_ascii_alphanumeric b || b == 95 || b == 46 || b == 47 || b == 45

-- a label's name has 1 to 64 of these
unfoldable pub is_label_name : List ℕ → Bool
is_label_name text = nat_le 1 (length text) && nat_le (length text) 64 && list_all is_name_byte text

-- a byte that shows as a character, but no `,`, `=` or `!`
abbrev pub is_value_byte : ℕ → Bool
is_value_byte b = nat_le 33 b && nat_le b 126 && not (b == 44) && not (b == 61) && not (b == 33)

-- a label's value has at most 255 of these, and may have none
unfoldable pub is_label_value : List ℕ → Bool
is_label_value text = nat_le (length text) 255 && list_all is_value_byte text

unfoldable pub is_label : Label → Bool
is_label l = is_label_name l.name && is_label_value l.value

-- ---- sets

-- by name, and then by value, byte by byte
abbrev pub label_cmp : Label → Label → Ordering
label_cmp a b = ordering_then (slice_cmp nat_cmp a.name b.name) (slice_cmp nat_cmp a.value b.value)

-- the label comes before the first of these
abbrev pub comes_before : Label → List Label → Bool
comes_before l [] = true
comes_before l (m ∷ ms) = is_lt (label_cmp l m)

-- each label comes before the next, so that none is there twice
abbrev pub are_ascending : List Label → Bool
are_ascending [] = true
are_ascending (l ∷ ls) = comes_before l ls && are_ascending ls

-- a set is an ascending list of at most 64 labels
unfoldable pub is_label_set : List Label → Bool
is_label_set ls = are_ascending ls && list_all is_label ls && nat_le (length ls) max_labels

-- the label in its place among ascending ones
abbrev pub put_label : Label → List Label → List Label
put_label l [] = l ∷ []
put_label l (m ∷ ms) = match_ordering (label_cmp l m) (l ∷ m ∷ ms) (m ∷ ms) (m ∷ put_label l ms)

-- each of the labels in its place, one after another
abbrev pub put_labels : List Label → List Label → List Label
put_labels ls set = put_all put_label ls set

-- the labels as an ascending list, without those that are there before
abbrev pub labels_of : List Label → List Label
labels_of ls = put_labels ls []

-- the set with the label in its place
unfoldable pub with_label : Label → List Label → Result (List Label) LabelError
with_label l set = if is_label l then limited (put_label l set) else Err (BadName 0)

-- ---- values

-- the labels of one name
abbrev pub labels_named : List ℕ → List Label → List Label
labels_named name set = filter (λ l. bytes_eq l.name name) set

-- the values of one name, in ascending order
abbrev pub values_of : List ℕ → List Label → List (List ℕ)
values_of name set = map (λ l. l.value) (labels_named name set)

-- the labels from the first on whose name isn't less
abbrev pub from_name : List ℕ → List Label → List Label
from_name name [] = []
from_name name (l ∷ ls) = if is_lt (slice_cmp nat_cmp l.name name) then from_name name ls else l ∷ ls

-- the first labels, as long as they have the name
abbrev pub named_prefix : List ℕ → List Label → List Label
named_prefix name [] = []
named_prefix name (l ∷ ls) = if bytes_eq l.name name then l ∷ named_prefix name ls else []

-- the label is one of these
abbrev pub same_label : Label → Label → Bool
same_label a b = bytes_eq a.name b.name && bytes_eq a.value b.value

abbrev pub has_label : Label → List Label → Bool
has_label l set = list_any (λ m. same_label m l) set

-- a label of these has the name
abbrev pub has_name : List ℕ → List Label → Bool
has_name name set = list_any (λ m. bytes_eq m.name name) set

-- ---- as text

-- `NAME=VALUE`
abbrev pub spelling : Label → List ℕ
spelling l = l.name ++ 61 ∷ l.value

-- the labels with a comma between each two
abbrev pub print_of : List Label → List ℕ
print_of set = join_with_byte 44 (map spelling set)

-- the labels behind others
abbrev pub print_more : List Label → List ℕ
print_more [] = []
print_more (l ∷ ls) = 44 ∷ (spelling l ++ print_more ls)

-- the label of this name and value, where it is one
unfoldable pub label_of : List ℕ → List ℕ → Option Label
label_of name value = if is_label_name name && is_label_value value then Some (record { name = name; value = value }) else None

-- an item says a label where a name stands before its first `=`, and a value after it
abbrev pub label_in : List ℕ → Option Label
label_in item = if has_byte 61 item then label_of (before_byte 61 item) (after_byte 61 item) else None

abbrev pub is_label_item : List ℕ → Bool
is_label_item item = is_some (label_in item)

-- the labels that the items say, in their order
abbrev pub labels_in : List (List ℕ) → List Label
labels_in [] = []
labels_in (item ∷ items) = option_to_list (label_in item) ++ labels_in items

-- The set that a text says. The place is where the first item begins that says no label.
abbrev pub set_of : List ℕ → Result (List Label) LabelError
set_of text = unless_bad (first_bad is_label_item 0 (items_of text)) (limited (labels_of (labels_in (items_of text))))

-- ---- taking and adding

-- A label takes itself, and one with an empty value takes all of its name.
abbrev pub takes : Label → Label → Bool
takes l t = bytes_eq t.name l.name && (length t.value == 0 || bytes_eq t.value l.value)

abbrev pub is_taken : List Label → Label → Bool
is_taken take l = list_any (takes l) take

-- first what is taken goes, then what is added comes
abbrev pub labels_after : List Label → List Label → List Label → List Label
labels_after set take add = put_labels add (filter (λ l. not (is_taken take l)) set)

-- A label is in the set after a change exactly where it was added, or was there and wasn't taken.
abbrev pub HoldsAfter : List Label → List Label → List Label → List Label → Type 0
HoldsAfter after set take add = (k : Label) → has_label k after ≡ (has_label k add || (has_label k set && not (is_taken take k)))
