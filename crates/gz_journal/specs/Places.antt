-- Entries, each with the offset of its end.
use Rattle.std.specs.Prelude.{ℕ, ◌+◌, ◌==◌, ◌&&◌, List, [], ◌∷◌, length, map, Bool, true}
use Rattle.gz_label.specs.declared.entry.Entry.{Entry}
use Rattle.gz_journal.specs.declared.journal.Placed.{Placed}

abbrev pub entries_of : List Placed → List Entry
entries_of placed = map (λ p. p.entry) placed

-- each entry ends behind its bytes, the first of which stands at this offset or where the last one ended
abbrev pub are_placed : ℕ → List Placed → Bool
are_placed begin [] = true
are_placed begin (p ∷ ps) = p.end == begin + length p.entry.bytes && are_placed p.end ps
