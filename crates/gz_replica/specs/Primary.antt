-- What an open primary does: it puts entries, and raises the head as the others hold them.
use Rattle.std.specs.Prelude.{ℕ, ◌+◌, ◌==◌, List, [], ◌∷◌, ◌++◌, if◌then◌else◌, nat_lt}
use Rattle.gz_label.specs.declared.entry.Entry.{Entry}
use Rattle.gz_wire.specs.declared.msg.Msg.TheVariants.{Replicate, Head}
use Rattle.gz_spool.specs.Spools.{spool_end, extended, raised, trimmed}
use Rattle.gz_replica.specs.declared.part.Route.{Route}
use Rattle.gz_replica.specs.declared.part.Part.{Part}
use Rattle.gz_replica.specs.declared.part.Part.TheVariants.{Open}
use Rattle.gz_replica.specs.Slots.{least, held_raised}
use Rattle.gz_replica.specs.Member.{Member, Outcome, to_each, idle, after_sends}

abbrev pub tell_head : List ℕ → Route → Member → Outcome
tell_head j r m = record { member = m; sends = to_each (Head j r.epoch m.spool.head m.spool.begin) r.others; numbered = 0 }

-- the head follows what all hold, and the others are told where it rose
abbrev pub with_head : List ℕ → Member → Route → List (List ℕ × ℕ) → ℕ → Outcome
with_head j m r held head =
    if nat_lt m.spool.head head
    then tell_head j r (record m { spool = raised head m.spool; part = Open r held })
    else idle (record m { part = Open r held })

-- An entry is put and sent to the others. Where there are none it is acknowledged at once.
abbrev pub put_entry : List ℕ → Member → Entry → Part → Outcome
put_entry j m entry (Open r held) =
    let spool = extended entry m.spool in
    after_sends (to_each (Replicate j r.epoch (spool_end m.spool) entry m.spool.head) r.others)
    (with_head j (record m { spool = spool }) r held (least (spool_end spool) held))
put_entry j m entry part = idle m

-- A member holds so much: the head is the least of what all hold.
abbrev pub on_held : List ℕ → Member → List ℕ → ℕ → ℕ → Part → Outcome
on_held j m from epoch end (Open r held) =
    if epoch == r.epoch
    then with_head j m r (held_raised from end held) (least (spool_end m.spool) (held_raised from end held))
    else idle m
on_held j m from epoch end part = idle m

-- what is stored to this end goes, and the others are told
abbrev pub on_stored : List ℕ → Member → ℕ → Part → Outcome
on_stored j m end (Open r held) = tell_head j r (record m { spool = trimmed end m.spool })
on_stored j m end part = idle m
