-- What a primary sends again when it is told to: what isn't answered yet, under the numbers that it had.
use Rattle.std.specs.Prelude.{ℕ, List, [], ◌∷◌, ◌++◌, Option, Some, None, if◌then◌else◌, nat_lt}
use Rattle.gz_label.specs.declared.entry.Entry.{Entry}
use Rattle.gz_wire.specs.declared.msg.Send.{Send}
use Rattle.gz_wire.specs.declared.msg.Msg.TheVariants.{Promise, Adopt, Replicate, Head, StoreList}
use Rattle.gz_spool.specs.Spools.{spool_end, placed_from}
use Rattle.gz_replica.specs.declared.part.Route.{Route}
use Rattle.gz_replica.specs.declared.part.Part.{Part}
use Rattle.gz_replica.specs.declared.part.Part.TheVariants.{Closed, Opening, Adopting, Syncing, Open}
use Rattle.gz_replica.specs.Slots.{missing}
use Rattle.gz_replica.specs.Member.{Member, Outcome, send, to_each, idle, after_sends}
use Rattle.gz_replica.specs.Opening.{keys, store, sync_txn}

-- each entry to one member
abbrev pub entries_to : List ℕ → ℕ → ℕ → List ℕ → List (ℕ × Entry) → List Send
entries_to j epoch head to [] = []
entries_to j epoch head to (p ∷ ps) = send to (Replicate j epoch p.0 p.1 head) ∷ entries_to j epoch head to ps

-- to each member all entries from the end on that it is known to hold
abbrev pub entries_behind : List ℕ → ℕ → Member → List (List ℕ × ℕ) → List Send
entries_behind j epoch m [] = []
entries_behind j epoch m (p ∷ ps) =
    (if nat_lt p.1 (spool_end m.spool) then entries_to j epoch m.spool.head p.0 (placed_from p.1 m.spool.begin m.spool.entries) else [])
    ++ entries_behind j epoch m ps

abbrev pub list_again : List ℕ → ℕ → Option ℕ → List Send
list_again j req None = send store (StoreList req j) ∷ []
list_again j req (Some stored) = []

-- by its part
abbrev pub resent : List ℕ → Member → Part → List Send
resent j m Closed = []
resent j m (Opening r req reports stored) = list_again j req stored ++ to_each (Promise j r.epoch) (missing reports)
resent j m (Adopting r reached) = to_each (Adopt j r.epoch m.spool) (missing reached)
resent j m (Syncing r req) = send keys (sync_txn j r.epoch req) ∷ []
resent j m (Open r held) = entries_behind j r.epoch m held ++ to_each (Head j r.epoch m.spool.head m.spool.begin) r.others
