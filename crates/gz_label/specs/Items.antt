-- The items of a text, with a comma between each two.
use Rattle.std.specs.Prelude.{ℕ, ◌+◌, ◌==◌, List, [], ◌∷◌, length, Bool, nat_le, nat_lt, Option, Some, None, Result, Ok, Err, if◌then◌else◌}
use Rattle.std.specs.List.{slice_split, position_or_len, before_first, after_first}
use Rattle.gz_label.specs.declared.name.LabelError.{LabelError}
use Rattle.gz_label.specs.declared.name.LabelError.TheVariants.{BadName, TooMany}

abbrev pub place_of : ℕ → List ℕ → ℕ
place_of c text = position_or_len (λ b. b == c) text

abbrev pub has_byte : ℕ → List ℕ → Bool
has_byte c text = nat_lt (place_of c text) (length text)

-- what stands before the first such byte, and what after it
abbrev pub before_byte : ℕ → List ℕ → List ℕ
before_byte c text = before_first (λ b. b == c) text

abbrev pub after_byte : ℕ → List ℕ → List ℕ
after_byte c text = after_first (λ b. b == c) text

-- the parts of a text between its commas, of which there is at least one
abbrev pub parts_of : List ℕ → List (List ℕ)
parts_of text = slice_split (λ b. b == 44) text

-- the empty text has no items
abbrev pub items_of : List ℕ → List (List ℕ)
items_of text = if nat_lt 0 (length text) then parts_of text else []

-- where the first item begins that isn't good, if the first of these begins at this byte
abbrev pub first_bad : (List ℕ → Bool) → ℕ → List (List ℕ) → Option ℕ
first_bad good at [] = None
first_bad good at (item ∷ items) = if good item then first_bad good (at + length item + 1) items else Some at

-- what is read where no item is bad
abbrev pub unless_bad : {A : Type 0} → Option ℕ → Result A LabelError → Result A LabelError
unless_bad None read = read
unless_bad (Some at) read = Err (BadName at)

-- the most labels of a set, and the most terms of a selector
abbrev pub max_labels : ℕ
max_labels = 64

abbrev pub limited : {A : Type 0} → List A → Result (List A) LabelError
limited xs = if nat_le (length xs) max_labels then Ok xs else Err TooMany

-- each of these put in by this way, one after another
abbrev pub put_all : {A B : Type 0} → (A → B → B) → List A → B → B
put_all put [] into = into
put_all put (x ∷ xs) into = put_all put xs (put x into)
