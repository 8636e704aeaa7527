-- Selectors of label sets.
use Rattle.std.specs.Prelude.{ℕ, ◌&&◌, ◌==◌, ◌++◌, ◌-◌, List, [], ◌∷◌, length, take, drop, Bool, false, not, Option, Some, None, is_some, Result, if◌then◌else◌, option_to_list}
use Rattle.std.specs.List.{list_all, list_any, slice_index}
use Rattle.std.specs.Str.{bytes_eq}
use Rattle.gz_label.specs.declared.label.Label.{Label}
use Rattle.gz_label.specs.declared.name.LabelError.{LabelError}
use Rattle.gz_label.specs.declared.selector.Term.{Term}
use Rattle.gz_label.specs.declared.selector.Term.TheVariants.{Is, IsNot, Has, HasNo}
use Rattle.gz_label.specs.Items.{has_byte, before_byte, after_byte, items_of, first_bad, unless_bad, limited, put_all}
use Rattle.gz_label.specs.Labels.{is_label_name, label_of, has_label, has_name, same_label}

-- ---- what a selector says

-- `NAME=VALUE` is in the set, `NAME!=VALUE` isn't, `NAME` has a value, `!NAME` has none.
abbrev pub holds_of : List Label → Term → Bool
holds_of set (Is l) = has_label l set
holds_of set (IsNot l) = not (has_label l set)
holds_of set (Has name) = has_name name set
holds_of set (HasNo name) = not (has_name name set)

-- every term holds
abbrev pub matches : List Term → List Label → Bool
matches terms set = list_all (holds_of set) terms

-- ---- as text

abbrev pub bang_first : List ℕ → Bool
bang_first text = slice_index text 0 == 33

-- the last byte of these is a `!`
abbrev pub bang_last : List ℕ → Bool
bang_last text = slice_index text (length text - 1) == 33

abbrev pub name_term : List ℕ → Option Term
name_term text =
    if is_label_name text then Some (Has text)
    else if bang_first text && is_label_name (drop 1 text) then Some (HasNo (drop 1 text))
    else None

abbrev pub is_not : Option Label → Option Term
is_not (Some l) = Some (IsNot l)
is_not None = None

abbrev pub is_or : Option Label → Option Term → Option Term
is_or (Some l) other = Some (Is l)
is_or None other = other

-- what stands before the first `=` is a name, or a name and a `!`
abbrev pub label_term : List ℕ → List ℕ → Option Term
label_term name value = is_or (label_of name value) (if bang_last name then is_not (label_of (take (length name - 1) name) value) else None)

abbrev pub term_in : List ℕ → Option Term
term_in item = if has_byte 61 item then label_term (before_byte 61 item) (after_byte 61 item) else name_term item

abbrev pub is_term : List ℕ → Bool
is_term item = is_some (term_in item)

-- the terms that the items say, in their order
abbrev pub terms_in : List (List ℕ) → List Term
terms_in [] = []
terms_in (item ∷ items) = option_to_list (term_in item) ++ terms_in items

abbrev pub same_term : Term → Term → Bool
same_term (Is l) (Is m) = same_label l m
same_term (IsNot l) (IsNot m) = same_label l m
same_term (Has name) (Has other) = bytes_eq name other
same_term (HasNo name) (HasNo other) = bytes_eq name other
same_term t u = false

-- the term behind these, unless it is among them
abbrev pub with_term : Term → List Term → List Term
with_term t ts = if list_any (same_term t) ts then ts else ts ++ t ∷ []

abbrev pub with_terms : List Term → List Term → List Term
with_terms more ts = put_all with_term more ts

-- The distinct terms that a text says. The place is where the first item begins that says no term.
abbrev pub selector_of : List ℕ → Result (List Term) LabelError
selector_of text = unless_bad (first_bad is_term 0 (items_of text)) (limited (with_terms (terms_in (items_of text)) []))
