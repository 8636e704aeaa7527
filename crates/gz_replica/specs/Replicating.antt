-- What a member does for a primary: it promises, adopts, replicates, and follows the head.
use Rattle.std.specs.Prelude.{ℕ, ◌+◌, ◌==◌, ◌||◌, List, [], ◌∷◌, length, Bool, not, if◌then◌else◌, nat_le, nat_lt}
use Rattle.gz_label.specs.declared.entry.Entry.{Entry}
use Rattle.gz_label.specs.declared.entry.Image.{Image}
use Rattle.gz_journal.specs.JournalList.{max_end}
use Rattle.gz_wire.specs.declared.msg.Msg.TheVariants.{Promised, Adopted, Refuse, Held}
use Rattle.gz_spool.specs.Spools.{spool_end, is_image, extended, raised, trimmed}
use Rattle.gz_replica.specs.declared.part.Part.{Part}
use Rattle.gz_replica.specs.declared.part.Part.TheVariants.{Closed}
use Rattle.gz_replica.specs.Member.{Member, Outcome, idle, answered}
use Rattle.gz_replica.specs.Opening.{stale, not_open, gap}

abbrev pub refuses : List ℕ → List ℕ → ℕ → ℕ → ℕ → Member → Outcome
refuses from j epoch code value m = answered from m (Refuse j epoch code value)

abbrev pub promised_at : List ℕ → List ℕ → ℕ → Member → Outcome
promised_at from j epoch m = answered from m (Promised j epoch m.adopted m.spool)

-- A promise is asked for: refused below what was promised. A greater epoch closes the primary's part.
abbrev pub on_promise : List ℕ → Member → List ℕ → ℕ → Outcome
on_promise j m from epoch =
    if nat_lt epoch m.promised then refuses from j epoch stale m.promised m
    else (if nat_lt m.promised epoch
    then promised_at from j epoch (record m { promised = epoch; part = Closed })
    else promised_at from j epoch m)

abbrev pub adopted_at : List ℕ → List ℕ → ℕ → Member → Outcome
adopted_at from j epoch m = answered from m (Adopted j epoch (spool_end m.spool))

-- An image is to be adopted: one that a spool doesn't adopt is passed over; refused below what was promised; adopted
-- already; else it becomes the spool.
abbrev pub on_adopt : List ℕ → Member → List ℕ → ℕ → Image → Outcome
on_adopt j m from epoch image =
    if not (is_image image) then idle m
    else (if nat_lt epoch m.promised then refuses from j epoch stale m.promised m
    else (if m.adopted == epoch then adopted_at from j epoch m
    else (if nat_lt m.promised epoch
    then adopted_at from j epoch (record { promised = epoch; adopted = epoch; spool = image; part = Closed })
    else adopted_at from j epoch (record m { adopted = epoch; spool = image }))))

-- an entry that no primary puts: it is empty, or would end above the greatest end
abbrev pub is_no_entry : ℕ → Entry → Bool
is_no_entry offset entry = length entry.bytes == 0 || nat_lt max_end (offset + length entry.bytes)

abbrev pub with_spool : Image → Member → Member
with_spool spool m = record m { spool = spool }

abbrev pub held_at : List ℕ → List ℕ → ℕ → Member → Outcome
held_at from j epoch m = answered from m (Held j epoch (spool_end m.spool))

-- An entry comes: refused below what was promised, of another epoch than the adopted one, or behind a gap; put in at the
-- end; held already below it. Its head is followed.
abbrev pub on_replicate : List ℕ → Member → List ℕ → ℕ → ℕ → Entry → ℕ → Outcome
on_replicate j m from epoch offset entry head =
    if is_no_entry offset entry then idle m
    else (if nat_lt epoch m.promised then refuses from j epoch stale m.promised m
    else (if m.adopted == epoch
    then (if nat_lt (spool_end m.spool) offset then refuses from j epoch gap (spool_end m.spool) m
    else (if offset == spool_end m.spool
    then held_at from j epoch (with_spool (raised head (extended entry m.spool)) m)
    else held_at from j epoch (with_spool (raised head m.spool) m)))
    else refuses from j epoch not_open m.adopted m))

-- a head of the adopted epoch is followed, and what the store has goes
abbrev pub on_head : Member → ℕ → ℕ → ℕ → Outcome
on_head m epoch head begin = if m.adopted == epoch then idle (with_spool (trimmed begin (raised head m.spool)) m) else idle m
