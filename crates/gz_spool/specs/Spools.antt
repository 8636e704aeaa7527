-- Spools: the end of a journal, as one of its members holds it. A spool is seen as an image: entries that follow one
-- another from the offset `begin` on, the registers before them (`base`), and the head, up to which they are known to be
-- acknowledged. Below `begin` the store has the journal.
use Rattle.std.specs.Prelude.{ℕ, ◌+◌, ◌-◌, ◌==◌, ◌&&◌, List, [], ◌∷◌, ◌++◌, length, take, drop, Bool, Option, Some, None, is_some, Result, Ok, Err, if◌then◌else◌, nat_le, nat_lt, max, min}
use Rattle.gz_label.specs.declared.label.Label.{Label}
use Rattle.gz_label.specs.declared.entry.Entry.{Entry}
use Rattle.gz_label.specs.declared.entry.Image.{Image}
use Rattle.gz_journal.specs.JournalList.{end_of, max_end}
use Rattle.gz_spool.specs.declared.error.SpoolError.{SpoolError}
use Rattle.gz_spool.specs.declared.error.SpoolError.TheVariants.{Gap, Old}

-- the offset behind the last entry
abbrev pub spool_end : Image → ℕ
spool_end i = i.begin + end_of i.entries

-- the registers behind entries, where they were these before
abbrev pub registers_behind : List Label → List Entry → List Label
registers_behind base [] = base
registers_behind base (e ∷ es) = registers_behind e.registers es

abbrev pub spool_registers : Image → List Label
spool_registers i = registers_behind i.base i.entries

-- no entries, from this offset on
abbrev pub empty_at : ℕ → Image
empty_at begin = record { begin = begin; base = []; entries = []; head = begin }

-- an image that a spool adopts: its head is between its begin and its end, and its end isn't above the greatest one
abbrev pub is_image : Image → Bool
is_image i = nat_le i.begin i.head && nat_le i.head (spool_end i) && nat_le (spool_end i) max_end

abbrev pub extended : Entry → Image → Image
extended entry i = record i { entries = i.entries ++ entry ∷ [] }

-- the head becomes the greater of the old one and of this one, but for what is above the end
abbrev pub raised : ℕ → Image → Image
raised head i = record i { head = max i.head (min head (spool_end i)) }

-- a spool in memory: what it holds, and for how many entries more it has room
pub record Kept : Type 0 where
  pub image : Image
  pub spare : ℕ

abbrev pub with_image : Image → Kept → Kept
with_image image k = record k { image = image }

abbrev pub with_entry : Entry → Kept → Kept
with_entry entry k = record { image = extended entry k.image; spare = k.spare - 1 }

-- an entry at this offset fits at the end, or is behind it, or before it
abbrev pub fit_at : ℕ → Image → Result (Unit {0}) SpoolError
fit_at offset i =
    if nat_lt (spool_end i) offset then Err (Gap (spool_end i))
    else (if nat_lt offset (spool_end i) then Err (Old (spool_end i)) else Ok tt)

-- what stands from an offset on: the registers before it, and the entries behind it
pub record Rest : Type 0 where
  pub base : List Label
  pub entries : List Entry

-- the entries from the offset on, where it is the boundary of one. They begin at `at`.
abbrev pub rest_from : ℕ → ℕ → List Label → List Entry → Option Rest
rest_from offset at base [] = if at == offset then Some (record { base = base; entries = [] }) else None
rest_from offset at base (e ∷ es) =
    if at == offset then Some (record { base = base; entries = e ∷ es })
    else rest_from offset (at + length e.bytes) e.registers es

-- what stands behind so many entries, where that is known
abbrev pub rest_behind : List Label → List Entry → Option ℕ → Option Rest
rest_behind base es None = None
rest_behind base es (Some n) = Some (record { base = registers_behind base (take n es); entries = drop n es })

abbrev pub with_rest : ℕ → Image → Option Rest → Image
with_rest begin i None = i
with_rest begin i (Some r) = record i { begin = begin; base = r.base; entries = r.entries }

-- Entries below the offset go, where it is the boundary of one, from the old begin to the head. Else nothing changes.
abbrev pub trimmed : ℕ → Image → Image
trimmed begin i = if nat_le begin i.head then with_rest begin i (rest_from begin i.begin i.base i.entries) else i

-- the offset is the boundary of an entry, from the begin to the head
abbrev pub has_boundary : ℕ → Image → Bool
has_boundary begin i = nat_le begin i.head && is_some (rest_from begin i.begin i.base i.entries)

-- the entries that begin at the offset or behind it, each beside where it begins
abbrev pub placed_from : ℕ → ℕ → List Entry → List (ℕ × Entry)
placed_from offset at [] = []
placed_from offset at (e ∷ es) =
    if nat_le offset at then (at, e) ∷ placed_from offset (at + length e.bytes) es else placed_from offset (at + length e.bytes) es
