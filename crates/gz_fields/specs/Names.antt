-- Ids and the names of journals.
use Rattle.std.specs.Prelude.{ℕ, ◌==◌, ◌&&◌, ◌||◌, List, [], ◌∷◌, length, Bool, nat_le, if◌then◌else◌}
use Rattle.std.specs.List.{list_all}
use Rattle.std.specs.Char.{is_ascii_alphanumeric}

-- a letter, a digit, `_` or `-`
abbrev pub is_id_byte : ℕ → Bool
is_id_byte b = is_ascii_alphanumeric b || b == 95 || b == 45

-- an id has 1 to 32 of these
unfoldable pub is_id : List ℕ → Bool
is_id text = nat_le 1 (length text) && nat_le (length text) 32 && list_all is_id_byte text

-- the byte, before the first of the parts
abbrev pub onto : ℕ → List (List ℕ) → List (List ℕ)
onto b [] = (b ∷ []) ∷ []
onto b (part ∷ parts) = (b ∷ part) ∷ parts

-- the parts of a text between its `/`s, of which there is at least one
abbrev pub segments : List ℕ → List (List ℕ)
segments [] = [] ∷ []
segments (b ∷ bs) = if b == 47 then [] ∷ segments bs else onto b (segments bs)

-- a letter, a digit, `_`, `.` or `-`
abbrev pub is_segment_byte : ℕ → Bool
is_segment_byte b = is_id_byte b || b == 46

abbrev pub is_segment : List ℕ → Bool
is_segment text = nat_le 1 (length text) && list_all is_segment_byte text

-- a journal's name has at most 255 bytes, and is one or more segments with a `/` between each two
unfoldable pub is_journal_name : List ℕ → Bool
is_journal_name text = nat_le (length text) 255 && list_all is_segment (segments text)
