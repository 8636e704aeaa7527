-- A broker: its mirror of the keys, and what it keeps of each journal. The files beside this one say what it does, in
-- this order: one rule of one journal and what follows from it (`Closing`), changes of the keys (`Taking`), appends
-- (`Judging`, `Appending`), the store (`Persisting`), reads (`Reading`), what is sent again (`Resuming`), and the step.
use Rattle.std.specs.Prelude.{ℕ, List, [], ◌∷◌, ◌++◌, Bool, Option, Some, None, Result, Ok, Err, if◌then◌else◌, codes, nat_le}
use Rattle.std.specs.Str.{bytes_eq}
use Rattle.gz_label.specs.declared.label.Label.{Label}
use Rattle.gz_wire.specs.declared.msg.Send.{Send}
use Rattle.gz_wire.specs.declared.msg.Msg.{Msg}
use Rattle.gz_wire.specs.declared.msg.Msg.TheVariants.{AppendDone}
use Rattle.gz_keyspace.specs.declared.table.Held.{Held}
use Rattle.gz_keyspace.specs.Keys.{held_at}
use Rattle.gz_keyspace.specs.Mirrors.{Mirrored}
use Rattle.gz_keyspace.specs.Formats.{ids_of, number_of}
use Rattle.gz_fields.specs.declared.error.FieldError.{FieldError}
use Rattle.gz_spec.specs.Records.{JournalSpec}
use Rattle.gz_spec.specs.Journals.{journal_of}
use Rattle.gz_replica.specs.Member.{Member, new_member, send}
use Rattle.gz_replica.specs.Opening.{route_key, sync_key}

-- ---- state

-- what an append is answered
pub record Answer : Type 0 where
  pub req : ℕ
  pub status : ℕ
  pub begin : ℕ
  pub end : ℕ
  pub value : ℕ
  pub labels : List Label
  pub route : List (List ℕ)

-- an answer that waits until the head is at its reach
pub record Queued : Type 0 where
  pub reach : ℕ
  pub to : List ℕ
  pub answer : Answer

-- a put to the store that isn't answered
pub record Outstanding : Type 0 where
  pub req : ℕ
  pub end : ℕ

-- what a broker keeps of a journal: its member, answers that wait, and the put that isn't answered
pub record Row : Type 0 where
  pub member : Member
  pub queue : List Queued
  pub putting : Option Outstanding

-- a read whose bytes the store was asked for: the number of that request, who reads, and the read's number
pub record Fetch : Type 0 where
  pub req : ℕ
  pub reader : List ℕ
  pub read : ℕ

pub record Broker : Type 0 where
  pub name : List ℕ
  pub mirror : Mirrored
  pub rows : List (List ℕ × Row)
  pub fetches : List Fetch
  -- how many requests it has numbered
  pub requests : ℕ

-- what a broker takes
pub data Item : Type 0 where
  Deliver : (from : List ℕ) (client : Bool) (msg : Msg) → Item
  Watch : Item
  Sync : (journal : List ℕ) → Item
  Flush : (journal : List ℕ) → Item

-- what a step gives: the broker after it, the answers of appends whose primary closed, which go out first, and all other sends
pub record Outcome : Type 0 where
  pub broker : Broker
  pub closings : List Send
  pub sends : List Send

abbrev pub idle : Broker → Outcome
idle b = record { broker = b; closings = []; sends = [] }

abbrev pub answers_with : List ℕ → Msg → Broker → Outcome
answers_with to msg b = record { broker = b; closings = []; sends = send to msg ∷ [] }

abbrev pub new_row : Row
new_row = record { member = new_member; queue = []; putting = None }

-- what is kept of the journal; of one that nothing is kept of, what a new one has
abbrev pub row_of : List ℕ → List (List ℕ × Row) → Row
row_of j [] = new_row
row_of j (r ∷ rs) = if bytes_eq j r.0 then r.1 else row_of j rs

abbrev pub with_row : List ℕ → Row → List (List ℕ × Row) → List (List ℕ × Row)
with_row j row [] = (j, row) ∷ []
with_row j row (r ∷ rs) = if bytes_eq j r.0 then (r.0, row) ∷ rs else r ∷ with_row j row rs

-- ---- what the mirror says

abbrev pub journal_key : List ℕ → List ℕ
journal_key j = codes "journal/" ++ j

abbrev pub read_spec : Result JournalSpec FieldError → Option JournalSpec
read_spec (Ok spec) = Some spec
read_spec (Err e) = None

abbrev pub spec_in : Option Held → Option JournalSpec
spec_in None = None
spec_in (Some h) = read_spec (journal_of h.value)

abbrev pub spec_of : List ℕ → Mirrored → Option JournalSpec
spec_of j m = spec_in (held_at (journal_key j) m.keys)

-- a route: its members, and its epoch, the revision at which it was written
pub record RouteHeld : Type 0 where
  pub members : List (List ℕ)
  pub epoch : ℕ

abbrev pub route_with : ℕ → Option (List (List ℕ)) → Option RouteHeld
route_with epoch None = None
route_with epoch (Some members) = Some (record { members = members; epoch = epoch })

abbrev pub route_in : Option Held → Option RouteHeld
route_in None = None
route_in (Some h) = route_with h.mod_revision (ids_of h.value)

abbrev pub route_of : List ℕ → Mirrored → Option RouteHeld
route_of j m = route_in (held_at (route_key j) m.keys)

abbrev pub number_or_zero : Option ℕ → ℕ
number_or_zero None = 0
number_or_zero (Some n) = n

abbrev pub sync_in : Option Held → ℕ
sync_in None = 0
sync_in (Some h) = number_or_zero (number_of h.value)

-- the epoch that the sync key has, 0 where it is absent
abbrev pub sync_of : List ℕ → Mirrored → ℕ
sync_of j m = sync_in (held_at (sync_key j) m.keys)

-- ---- answers of appends

abbrev pub append_done : List ℕ → Answer → Msg
append_done j a = AppendDone a.req j a.status a.begin a.end a.value a.labels a.route

-- those that a head reached, in order, and the others
abbrev pub reached : List ℕ → ℕ → List Queued → List Send
reached j head [] = []
reached j head (q ∷ qs) = if nat_le q.reach head then send q.to (append_done j q.answer) ∷ reached j head qs else reached j head qs

abbrev pub waiting : ℕ → List Queued → List Queued
waiting head [] = []
waiting head (q ∷ qs) = if nat_le q.reach head then waiting head qs else q ∷ waiting head qs
