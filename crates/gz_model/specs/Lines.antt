-- The lines of a text.
use Rattle.std.specs.Prelude.{◌≡◌, ℕ, ◌+◌, ◌==◌, List, [], ◌∷◌, drop, if◌then◌else◌, Option, Some, None, option_map, suc}

-- the byte that ends a line
abbrev pub newline : ℕ
newline = 10

-- a byte before the first line
abbrev pub onto : ℕ → List (List ℕ) → List (List ℕ)
onto b [] = (b ∷ []) ∷ []
onto b (line ∷ lines) = (b ∷ line) ∷ lines

-- The lines, each with its newline; the last one may lack it.
abbrev pub lines_of : List ℕ → List (List ℕ)
lines_of [] = []
lines_of (b ∷ bs) = if b == newline then (b ∷ []) ∷ lines_of bs else onto b (lines_of bs)

-- how many bytes the first whole line has, with its newline, where there is one
abbrev pub line_len : List ℕ → Option ℕ
line_len [] = None
line_len (b ∷ bs) = if b == newline then Some 1 else option_map (λ n. suc n) (line_len bs)

-- the first line doesn't end within the first n bytes
abbrev pub IsSearched : ℕ → List ℕ → Type 0
IsSearched n bytes = line_len bytes ≡ option_map (λ k. n + k) (line_len (drop n bytes))
