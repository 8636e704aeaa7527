-- Journals: each has a name, and is a list of entries, to which others come.
use Rattle.std.specs.Prelude.{◌≡◌, ℕ, zero, suc, ◌||◌, List, [], ◌∷◌, ◌++◌, Bool, true, false, if◌then◌else◌}
use Rattle.std.specs.Str.{bytes_eq}
use Rattle.gz_label.specs.declared.entry.Attempt.{Attempt}
use Rattle.gz_label.specs.declared.entry.Entry.{Entry}
use Rattle.gz_frame.specs.Text.{is_whole}
use Rattle.gz_journal.specs.declared.judgement.Landed.{Landed}
use Rattle.gz_journal.specs.declared.request.Request.{Request}
use Rattle.gz_journal.specs.JournalList.{registers_of, is_landed, judged_of, plain}
use Rattle.gz_journal.specs.JournalList as list

pub record Journal : Type 0 where
  pub name : List ℕ
  pub entries : List Entry

-- its text: the entries' bytes, joined
abbrev pub text_in : Journal → List ℕ
text_in j = list.text_of j.entries

-- the text of the journal of a name; none where there is no such journal
abbrev pub text_of : List ℕ → List Journal → List ℕ
text_of name [] = []
text_of name (j ∷ js) = if bytes_eq j.name name then text_in j else text_of name js

-- its entries
abbrev pub entries_of : List ℕ → List Journal → List Entry
entries_of name [] = []
entries_of name (j ∷ js) = if bytes_eq j.name name then j.entries else entries_of name js

-- a journal has the name
abbrev pub is_journal : List ℕ → List Journal → Bool
is_journal name [] = false
is_journal name (j ∷ js) = bytes_eq j.name name || is_journal name js

-- every journal is a text of whole lines
abbrev pub AreWhole : List Journal → Type 0
AreWhole js = (name : List ℕ) → is_whole (text_of name js) ≡ true

-- ---- appends

-- The bytes are one entry of this attempt behind the others, which leaves the registers. No bytes are no entry.
abbrev pub with_bytes : Attempt → List ℕ → List Entry → List Entry
with_bytes attempt [] es = es
with_bytes attempt (b ∷ bs) es = es ++ record { attempt = attempt; bytes = b ∷ bs; registers = registers_of es } ∷ []

-- they go behind the journal of this name
abbrev pub grown : Attempt → List ℕ → List ℕ → Journal → Journal
grown attempt name bytes j = if bytes_eq j.name name then record j { entries = with_bytes attempt bytes j.entries } else j

abbrev pub appended : Attempt → List ℕ → List ℕ → List Journal → List Journal
appended attempt name bytes [] = []
appended attempt name bytes (j ∷ js) = grown attempt name bytes j ∷ appended attempt name bytes js

-- the entries after an append of these bytes, which is judged
abbrev pub entries_after : Attempt → List ℕ → List Entry → List Entry
entries_after attempt bytes es = if is_landed (judged_of es (plain attempt bytes)).landed then with_bytes attempt bytes es else es

-- what the journal of a name answers to a request
abbrev pub answer_in : List ℕ → Request → List Journal → Landed
answer_in name r js = (judged_of (entries_of name js) r).landed

-- they go behind it where it answers that they land
abbrev pub landing : Attempt → List ℕ → List ℕ → List Journal → List Journal
landing attempt name bytes js = if is_landed (answer_in name (plain attempt bytes) js) then appended attempt name bytes js else js

-- ---- journals by their places

-- the place of the first journal of a name; how many there are, where there is none
abbrev pub place_of : List ℕ → List Journal → ℕ
place_of name [] = 0
place_of name (j ∷ js) = if bytes_eq j.name name then 0 else suc (place_of name js)

-- the entries at a place; none where there is no such place
abbrev pub entries_at : ℕ → List Journal → List Entry
entries_at i [] = []
entries_at zero (j ∷ js) = j.entries
entries_at (suc i) (j ∷ js) = entries_at i js

-- the text at a place
abbrev pub text_at : ℕ → List Journal → List ℕ
text_at i [] = []
text_at zero (j ∷ js) = text_in j
text_at (suc i) (j ∷ js) = text_at i js

-- the bytes go behind the journal at a place
abbrev pub appended_at : Attempt → ℕ → List ℕ → List Journal → List Journal
appended_at attempt i bytes [] = []
appended_at attempt zero bytes (j ∷ js) = record j { entries = with_bytes attempt bytes j.entries } ∷ js
appended_at attempt (suc i) bytes (j ∷ js) = j ∷ appended_at attempt i bytes js

-- what the journal at a place answers to a request
abbrev pub answer_at : ℕ → Request → List Journal → Landed
answer_at i r js = (judged_of (entries_at i js) r).landed

-- they go behind it where it answers that they land
abbrev pub landing_at : Attempt → ℕ → List ℕ → List Journal → List Journal
landing_at attempt i bytes js = if is_landed (answer_at i (plain attempt bytes) js) then appended_at attempt i bytes js else js
