-- The words that are commands.
use Rattle.std.specs.Prelude.{ℕ, List, [], ◌∷◌, Bool, false, ◌&&◌, codes}
use Rattle.std.specs.Str.{bytes_eq}

-- `replay -` is the one command so far
abbrev pub is_command : List (List ℕ) → Bool
is_command [] = false
is_command (a ∷ []) = false
is_command (a ∷ b ∷ []) = bytes_eq a (codes "replay") && bytes_eq b (codes "-")
is_command (a ∷ b ∷ c ∷ more) = false

abbrev pub usage_text : List ℕ
usage_text = codes "usage: gazette replay|storm|attach-uuids|journals|shards|serve\n"

abbrev pub read_fault_text : List ℕ
read_fault_text = codes "read fault\n"
