-- A journal as the list of its entries.
use Rattle.std.specs.Prelude.{ℕ, ◌+◌, ◌^◌, ◌==◌, List, [], ◌∷◌, ◌++◌, length, take, drop, flat_map, Bool, true, false, not, nat_le, nat_lt, Option, Some, None, if◌then◌else◌}
use Rattle.gz_label.specs.declared.label.Label.{Label}
use Rattle.gz_label.specs.declared.entry.Attempt.{Attempt}
use Rattle.gz_label.specs.declared.entry.Entry.{Entry}
use Rattle.gz_label.specs.Items.{max_labels}
use Rattle.gz_label.specs.Labels.{labels_after}
use Rattle.gz_label.specs.Selectors.{matches}
use Rattle.gz_journal.specs.declared.request.Request.{Request}
use Rattle.gz_journal.specs.declared.judgement.Landed.{Landed}
use Rattle.gz_journal.specs.declared.judgement.Landed.TheVariants.{WrongOffset, RegisterMismatch, TooLarge}
use Rattle.gz_journal.specs.declared.judgement.Landed.TheVariants as landed
use Rattle.gz_journal.specs.declared.judgement.Judged.{Judged}

-- ---- what a journal holds

-- the entries' bytes, joined
abbrev pub text_of : List Entry → List ℕ
text_of entries = flat_map (λ e. e.bytes) entries

-- the text's length
abbrev pub end_of : List Entry → ℕ
end_of entries = length (text_of entries)

-- those of the last entry, and none before the first
abbrev pub registers_of : List Entry → List Label
registers_of [] = []
registers_of (e ∷ []) = e.registers
registers_of (e ∷ f ∷ es) = registers_of (f ∷ es)

-- at most so many bytes of the text, from the offset on
abbrev pub part_of : ℕ → ℕ → List Entry → List ℕ
part_of offset limit entries = take limit (drop offset (text_of entries))

-- ---- what becomes of a request

-- the greatest end of a journal
abbrev pub max_end : ℕ
max_end = 2 ^ 62

-- no offset is expected, or the end is
abbrev pub is_expected : Option ℕ → ℕ → Bool
is_expected None end = true
is_expected (Some offset) end = offset == end

-- the registers as the request changes them
abbrev pub changed : Request → List Label → List Label
changed r registers = labels_after registers r.take r.add

-- the same, where they are no more than a set may have
abbrev pub change_of : Request → List Label → Option (List Label)
change_of r registers = if nat_le (length (changed r registers)) max_labels then Some (changed r registers) else None

-- a request that expects no offset, whose selector takes any registers, and which leaves them as they are
abbrev pub plain : Attempt → List ℕ → Request
plain attempt content = record { attempt = attempt; offset = None; selector = []; take = []; add = []; content = content }

-- nothing lands, and the registers stay
abbrev pub refused : Landed → List Label → Judged
refused answer registers = record { landed = answer; after = registers }

abbrev pub mismatch : List Label → Landed
mismatch registers = RegisterMismatch registers

abbrev pub is_empty : Request → Bool
is_empty r = length r.content == 0

-- The registers let the request pass. Empty content leaves them as they are.
abbrev pub landed_at : ℕ → List Label → List Label → Request → Judged
landed_at end registers after r =
    if nat_lt max_end (end + length r.content) then refused (TooLarge max_end) registers
    else record { landed = landed.Landed end (end + length r.content); after = if is_empty r then registers else after }

abbrev pub changed_at : ℕ → List Label → Option (List Label) → Request → Judged
changed_at end registers None r = refused (mismatch registers) registers
changed_at end registers (Some after) r = landed_at end registers after r

-- The first case that holds: another offset is expected; the selector doesn't match, or the registers would
-- be too many; the end would be too great; it lands.
abbrev pub judgement : ℕ → List Label → Request → Judged
judgement end registers r =
    if not (is_expected r.offset end) then refused (WrongOffset end) registers
    else if not (matches r.selector registers) then refused (mismatch registers) registers
    else changed_at end registers (change_of r registers) r

-- the content stands in the journal
abbrev pub is_landed : Landed → Bool
is_landed (landed.Landed begin end) = true
is_landed (WrongOffset head) = false
is_landed (RegisterMismatch registers) = false
is_landed (TooLarge limit) = false

-- where the entry ends that the request adds: only content that lands and isn't empty becomes one
abbrev pub new_end_of : Landed → Request → Option ℕ
new_end_of (landed.Landed begin end) r = if is_empty r then None else Some end
new_end_of (WrongOffset head) r = None
new_end_of (RegisterMismatch registers) r = None
new_end_of (TooLarge limit) r = None

-- the entry of a request that lands, with the registers after it
abbrev pub entry_of : Request → List Label → Entry
entry_of r after = record { attempt = r.attempt; bytes = r.content; registers = after }

abbrev pub with_entry : Option ℕ → Entry → List Entry → List Entry
with_entry None entry entries = entries
with_entry (Some end) entry entries = entries ++ entry ∷ []

-- the journal behind a request
abbrev pub appended : Judged → Request → List Entry → List Entry
appended judged r entries = with_entry (new_end_of judged.landed r) (entry_of r judged.after) entries

abbrev pub judged_of : List Entry → Request → Judged
judged_of entries r = judgement (end_of entries) (registers_of entries) r
