-- The acknowledged list of a journal, along a run: what primaries that were open had below their heads. It is no state
-- of a node; nothing reads it but the theorem, the report and the shards.
use Rattle.std.specs.Prelude.{ℕ, ◌+◌, ◌==◌, ◌&&◌, List, [], ◌∷◌, ◌++◌, length, flat_map, Bool, if◌then◌else◌, nat_le, nat_lt, max}
use Rattle.gz_label.specs.declared.entry.Entry.{Entry}
use Rattle.gz_label.specs.declared.entry.Image.{Image}
use Rattle.gz_lineage.specs.Marks.{Mark, Reset, Added, end_of_marks}
use Rattle.gz_replica.specs.declared.part.Part.{Part}
use Rattle.gz_replica.specs.declared.part.Part.TheVariants.{Open}
use Rattle.gz_replica.specs.Member.{Member}
use Rattle.gz_broker.specs.Brokers.{Broker, row_of}
use Rattle.gz_cluster.specs.Cluster.{Cluster}
use Rattle.gz_cluster.specs.Events.{Event, after}

abbrev pub bytes_of : Mark → List ℕ
bytes_of Reset = []
bytes_of (Added e) = e.bytes

-- the content of a journal of these marks
abbrev pub content_of : List Mark → List ℕ
content_of marks = flat_map bytes_of marks

-- the list, and the greatest epoch at which a primary became open, 0 where none did
pub record Ledger : Type 0 where
  pub marks : List Mark
  pub top : ℕ

abbrev pub empty_ledger : Ledger
empty_ledger = record { marks = []; top = 0 }

-- of entries, the first of which begins at this offset, those that stand between two offsets
abbrev pub entries_between : ℕ → ℕ → ℕ → List Entry → List Mark
entries_between from to offset [] = []
entries_between from to offset (e ∷ es) =
    let end = offset + length e.bytes in
    if nat_le from offset && nat_le end to then Added e ∷ entries_between from to end es else entries_between from to end es

-- there is no entry, and nothing is known of the registers
abbrev pub is_bare : Image → Bool
is_bare i = length i.entries == 0 && length i.base == 0

-- A primary has opened above all epochs before, with a bare spool: a reset.
abbrev pub opened : ℕ → ℕ → Image → List Mark
opened top epoch i = if nat_lt top epoch && is_bare i then Reset ∷ [] else []

-- the entries that an open primary has between the list's end and its head
abbrev pub grown_by : Image → List Mark → List Mark
grown_by i marks = marks ++ entries_between (end_of_marks marks) i.head i.begin i.entries

abbrev pub grown_with : Ledger → Member → Part → Ledger
grown_with l m (Open route held) = record { marks = grown_by m.spool (l.marks ++ opened l.top route.epoch m.spool); top = max l.top route.epoch }
grown_with l m part = l

abbrev pub grown : List ℕ → Ledger → Broker → Ledger
grown j l b = let m = (row_of j b.rows).member in grown_with l m m.part

-- by each broker in turn
abbrev pub grown_all : List ℕ → Ledger → List Broker → Ledger
grown_all j l [] = l
grown_all j l (b ∷ bs) = grown_all j (grown j l b) bs

-- the ledger after a step that left this cluster
abbrev pub ledger_after : List ℕ → Ledger → Cluster → Ledger
ledger_after j l c = grown_all j l c.brokers

abbrev pub ledger_from : List ℕ → Ledger → List Event → Cluster → Ledger
ledger_from j l [] c = l
ledger_from j l (e ∷ es) c = ledger_from j (ledger_after j l (after c e)) es (after c e)

-- the ledger of a journal after a run
abbrev pub ledger_of : List ℕ → List Event → Cluster → Ledger
ledger_of j es c = ledger_from j empty_ledger es c
