-- What a journal is made of: entries, and resets, behind which the registers are empty. A list of marks is a journal
-- from its first byte on; its place is counted in marks, since bytes don't tell a place from the same place behind a
-- reset. Requests are judged at the end of such a list, by the judgement of plain journals.
use Rattle.std.specs.Prelude.{◌≡◌, ℕ, ◌+◌, ◌<◌, List, [], ◌∷◌, length, take, Option, Some, slice_index_or}
use Rattle.gz_label.specs.declared.label.Label.{Label}
use Rattle.gz_label.specs.declared.entry.Entry.{Entry}
use Rattle.gz_journal.specs.declared.request.Request.{Request}
use Rattle.gz_journal.specs.declared.judgement.Judged.{Judged}
use Rattle.gz_journal.specs.JournalList.{judgement, new_end_of, entry_of}

-- an entry, or a reset
pub data Mark : Type 0 where
  Reset : Mark
  Added : (entry : Entry) → Mark

-- it is an entry, with bytes
abbrev pub IsPut : Mark → Type 0
IsPut Reset = ⊥
IsPut (Added e) = 0 < length e.bytes

abbrev pub size_of : Mark → ℕ
size_of Reset = 0
size_of (Added e) = length e.bytes

-- the offset in bytes behind a list of marks
abbrev pub end_of_marks : List Mark → ℕ
end_of_marks [] = 0
end_of_marks (m ∷ ms) = size_of m + end_of_marks ms

abbrev pub registers_after : Mark → List Label
registers_after Reset = []
registers_after (Added e) = e.registers

-- the registers behind marks, where they were these before
abbrev pub registers_from : List Label → List Mark → List Label
registers_from base [] = base
registers_from base (m ∷ ms) = registers_from (registers_after m) ms

-- the judgement of a request at the end of a list
abbrev pub judged_at : List Mark → Request → Judged
judged_at xs r = judgement (end_of_marks xs) (registers_from [] xs) r

-- where the entry would end that the request adds behind a list, if it adds one
abbrev pub end_behind : List Mark → Request → Option ℕ
end_behind xs r = new_end_of (judged_at xs r).landed r

abbrev pub entry_behind : List Mark → Request → Entry
entry_behind xs r = entry_of r (judged_at xs r).after

-- the entry is what some request adds behind the list
pub record IsLanded (before : List Mark) (e : Entry) : Type 0 where
  pub request : Request
  pub end : ℕ
  pub lands : end_behind before request ≡ Some end
  pub entry : e ≡ entry_behind before request

abbrev pub MarkLanded : List Mark → Mark → Type 0
MarkLanded before Reset = Unit {0}
MarkLanded before (Added e) = IsLanded before e

-- Each entry of the list was judged at the place directly before it, and landed there.
abbrev pub Lawful : List Mark → Type 0
Lawful xs = (k : ℕ) → k < length xs → MarkLanded (take k xs) (slice_index_or xs k Reset)
