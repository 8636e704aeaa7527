-- Places in a specification, as `shards[0].sources[1].journal`.
use Rattle.std.specs.Prelude.{ℕ, List, ◌++◌, length, codes, if◌then◌else◌, nat_eq}
use Rattle.std.specs.Fmt.{decimal}

-- The place of the member of this name: behind the object's own place and a dot, which the outermost object has not.
abbrev pub below : List ℕ → List ℕ → List ℕ
below path name = if nat_eq (length path) 0 then name else path ++ codes "." ++ name

-- the place of an item of a list, counted from 0
abbrev pub at_place : List ℕ → ℕ → List ℕ
at_place path i = path ++ codes "[" ++ decimal i ++ codes "]"
