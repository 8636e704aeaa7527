-- What is known of bytes that an object tells.
use Rattle.std.specs.Prelude.{◌≡◌, ℕ, ◌<◌, ◌++◌, List, [], ◌∷◌, Option, Some, None, ⊤, length, take}
use Rattle.std.specs.Io.KnownBytes.{Appends, Consumes}
use Rattle.gz_model.specs.Lines.{lines_of}

-- the bytes ahead: those that were read and not used, and those that are left
abbrev pub ahead : List ℕ → Option (List ℕ) → Option (List ℕ)
ahead unread None = None
ahead unread (Some left) = Some (unread ++ left)

-- the bytes ahead lose their first line
abbrev pub TakesLine : Option (List ℕ) → Option (List ℕ) → List ℕ → Type 0
TakesLine None new line = ⊤
TakesLine (Some old) None line = ⊥
TakesLine (Some old) (Some new) line = lines_of old ≡ line ∷ lines_of new

-- the first line ahead has more bytes than the limit
abbrev pub HasLongLine : ℕ → Option (List ℕ) → Type 0
HasLongLine limit None = ⊤
HasLongLine limit (Some bytes) = (line : List ℕ) × (lines : List (List ℕ)) × (lines_of bytes ≡ line ∷ lines) × (limit < length line)

-- a prefix of the bytes goes behind what is held
abbrev pub AppendsPrefix : Option (List ℕ) → Option (List ℕ) → List ℕ → Type 0
AppendsPrefix old new bytes = (n : ℕ) × Appends old new (take n bytes)

-- n bytes come from what is left, and go behind those that were read
abbrev pub ReadsMore : ℕ → List ℕ → List ℕ → Option (List ℕ) → Option (List ℕ) → Type 0
ReadsMore n old new left rest = (bytes : List ℕ) × (length bytes ≡ n) × (new ≡ old ++ bytes) × Consumes left rest bytes
