-- Attempts. A client numbers its requests, and a primary that takes the same append twice puts it twice. So that each
-- attempt has at most one entry is said of runs in which none is put twice: of what primaries add to their spools, not
-- of messages, which may come late, again or never, and not of the entries that a primary sends again.
use Rattle.std.specs.Prelude.{◌≡◌, ◌==◌, ℕ, List, [], ◌∷◌, ◌++◌, length, take, Option, Some, None, if◌then◌else◌, ◌&&◌, not, nat_lt, slice_get, slice_index_or, false}
use Rattle.gz_label.specs.declared.entry.Attempt.{Attempt}
use Rattle.gz_label.specs.declared.entry.Entry.{Entry}
use Rattle.gz_journal.specs.declared.request.Request.{Request}
use Rattle.gz_lineage.specs.Lists.{In, Distinct}
use Rattle.gz_lineage.specs.Marks.{Added, IsLanded, end_behind}
use Rattle.gz_lineage.specs.Nodes.{Part, Node, Message, Letter, Open, Append}
use Rattle.gz_lineage.specs.Rules.{keys}
use Rattle.gz_lineage.specs.World.{World, State, Event, Deliver, happens, node_at}

-- ---- what is put

-- an open primary puts a request that lands
abbrev pub put_open : Request → Part → List Request
put_open r (Open route held queue) = r ∷ []
put_open r _ = []

abbrev pub put_if : Request → Part → Option ℕ → List Request
put_if r p None = []
put_if r p (Some end) = put_open r p

-- the request whose entry a broker adds to its spool as primary when it takes this message, if it adds one
abbrev pub put_of : Node → Message → List Request
put_of n (Append r) = put_if r n.part (end_behind n.spool r)
put_of n _ = []

-- when a letter is taken, by a broker that runs
abbrev pub put_by : State → Option Letter → List Request
put_by s None = []
put_by s (Some l) = if not (l.to == keys) && slice_index_or s.runs l.to false && nat_lt l.to (length s.nodes) then put_of (node_at s.nodes l.to) l.body else []

-- the requests that a step puts: one, or none
abbrev pub puts : World → Event → List Request
puts w (Deliver k) = put_by w.state (slice_get w.state.flight k)
puts w _ = []

-- those that a run puts, in order
abbrev pub requests_put : List Event → World → List Request
requests_put [] w = []
requests_put (e ∷ es) w = puts w e ++ requests_put es (happens w e)

abbrev pub attempts : List Request → List Attempt
attempts [] = []
attempts (r ∷ rs) = r.attempt ∷ attempts rs

-- No attempt is put twice: those of the requests that the run puts are distinct.
abbrev pub PutsEachOnce : List Event → World → Type 0
PutsEachOnce events w = Distinct (attempts (requests_put events w))

-- ---- what lands

-- Each attempt lands at most once: two places of the journal whose entries have the same attempt are one place.
abbrev pub LandsEachOnce : World → Type 0
LandsEachOnce w = (j k : ℕ) (d e : Entry) → slice_get w.journal j ≡ Some (Added d) → slice_get w.journal k ≡ Some (Added e) → d.attempt ≡ e.attempt → j ≡ k

-- Each entry of the journal is what one of these requests adds at the place directly before it.
abbrev pub LandsOf : List Request → World → Type 0
LandsOf requests w = (k : ℕ) (e : Entry) → slice_get w.journal k ≡ Some (Added e) → (l : IsLanded (take k w.journal) e) × In l.request requests
