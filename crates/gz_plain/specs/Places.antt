-- Journals by their places, and the texts that a commit puts behind them.
use Rattle.std.specs.Prelude.{◌≡◌, ℕ, ◌+◌, List, [], ◌∷◌, ◌++◌, map, ⊤}
use Rattle.gz_label.specs.declared.entry.Attempt.{Attempt}
use Rattle.gz_frame.specs.Messages.{Message}
use Rattle.gz_promise.specs.Journals.{Journal, place_of, appended_at}
use Rattle.gz_plain.specs.Shards.{lines_to, text_of_lines}
use Rattle.gz_plain.specs.declared.writer.Writer.{Writer}

-- the names of the journals
abbrev pub names_of : List Journal → List (List ℕ)
names_of js = map (λ j. j.name) js

-- the places to which the writers write
abbrev pub places_of : List Writer → List ℕ
places_of ws = map (λ w. w.place) ws

-- each writer's place is that of its journal
abbrev pub ArePlaced : List Journal → List Writer → Type 0
ArePlaced js [] = ⊤
ArePlaced js (w ∷ ws) = (w.place ≡ place_of w.journal js) × ArePlaced js ws

-- each text, the first of which is for this output of so many, has its lines behind it
abbrev pub with_lines : ℕ → ℕ → List Message → List (List ℕ) → List (List ℕ)
with_lines count place lines [] = []
with_lines count place lines (text ∷ texts) = (text ++ text_of_lines (lines_to count place lines)) ∷ with_lines count (place + 1) lines texts

-- the line goes behind a text, unless that is empty
abbrev pub ended : List ℕ → List ℕ → List ℕ
ended line [] = []
ended line (b ∷ bs) = (b ∷ bs) ++ line

-- the texts go behind the journals at these places, each as an entry of this attempt
abbrev pub all_appended : Attempt → List ℕ → List (List ℕ) → List Journal → List Journal
all_appended attempt [] texts js = js
all_appended attempt (i ∷ places) [] js = js
all_appended attempt (i ∷ places) (text ∷ texts) js = all_appended attempt places texts (appended_at attempt i text js)
