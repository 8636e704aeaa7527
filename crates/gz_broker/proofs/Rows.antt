-- Steps, worked out by hand and computed: each refusal of an append, each answer of a read, and a route of three that
-- opens and takes an append.
use Rattle.std.specs.Prelude.{◌≡◌, ℕ, List, [], ◌∷◌, length, nat_lt, true, false, Option, Some, None, codes, refl}
use lib.Utf8.{encode}
use Rattle.std.specs.Fmt.{digits}
use Rattle.std.specs.Str.Lossy.{utf8_valid_len}
use Rattle.std.specs.Str.{is_utf8, chars}
use Rattle.json.specs.Json.{value}
use Rattle.json.specs.Lex.{punctuate, lex}
use Rattle.json.specs.Text.{content}
use Rattle.gz_label.specs.declared.label.Label.{Label}
use Rattle.gz_label.specs.declared.entry.Entry.{Entry}
use Rattle.gz_label.specs.declared.entry.Image.{Image}
use Rattle.gz_fields.specs.Names.{is_id, is_journal_name}
use Rattle.gz_spec.specs.Records.{JournalSpec}
use Rattle.gz_spec.specs.Journals.{journal_of, journal_at, journal_with}
use Rattle.gz_spec.specs.declared.framing.Framing.TheVariants.{Bytes}
use Rattle.gz_wire.specs.declared.msg.Msg.{Msg}
use Rattle.gz_wire.specs.declared.msg.Msg.TheVariants.{KsTxn, KsTxnOk, KsChange, Promise, Promised, Adopt, Adopted, Replicate, Held, Head, Append, AppendDone, ReadDone, StoreList, StoreNames, StoreGet}
use Rattle.gz_wire.specs.declared.msg.Send.{Send}
use Rattle.gz_replica.specs.declared.part.Part.{Part}
use Rattle.gz_replica.specs.declared.part.Part.TheVariants.{Closed, Open}
use Rattle.gz_replica.specs.Member.{send}
use Rattle.gz_replica.specs.Opening.{keys, store}
use Rattle.gz_replica.specs.Replicating.{on_promise}
use Rattle.gz_spool.specs.Spools.{empty_at}
use Rattle.gz_broker.specs.Brokers.{Row, Broker, Outcome, Item, Deliver, RouteHeld, idle}
use Rattle.gz_broker.specs.Closing.{ruled}
use Rattle.gz_broker.specs.Taking.{then_do}
use Rattle.gz_broker.specs.Judging.{max_content}
use Rattle.gz_broker.specs.Appending.{Asked, refused_as, refuses_route, refusal_of, refusal_by, request_of, judges}
use Rattle.gz_broker.specs.Reading.{reads, on_store_got}
use Rattle.gz_broker.specs.Step.{step, sends_of}

abbrev pub j : List ℕ
j = codes "x"

abbrev pub b1 : List ℕ
b1 = codes "b1"

abbrev pub b2 : List ℕ
b2 = codes "b2"

abbrev pub b3 : List ℕ
b3 = codes "b3"

abbrev pub k : List ℕ
k = codes "client1"

abbrev pub entry : ℕ → Entry
entry n = record { attempt = record { node = k; req = n }; bytes = n ∷ n ∷ n ∷ []; registers = [] }

-- a journal's specification, whose content type is this one
abbrev pub spec : List Label → JournalSpec
spec labels = record { name = j; replication = 3; labels = labels; fragment_length = 67108864 }

abbrev pub typed : List ℕ → List Label
typed text = record { name = codes "content-type"; value = text } ∷ []

abbrev pub route : List (List ℕ) → Option RouteHeld
route members = Some (record { members = members; epoch = 4 })

-- open at epoch 4, with two others that hold an entry, and its head behind it
abbrev pub open_part : Part
open_part = Open (record { epoch = 4; others = b2 ∷ b3 ∷ []; opened = 0 }) ((b2, 3) ∷ (b3, 3) ∷ [])

abbrev pub spool : Image
spool = record { begin = 0; base = []; entries = entry 7 ∷ []; head = 3 }

abbrev pub row : Row
row = record { member = record { promised = 4; adopted = 4; spool = spool; part = open_part }; queue = []; putting = None }

abbrev pub broker : Row → Broker
broker r = record { name = b1; mirror = record { revision = 4; keys = [] }; rows = (j, r) ∷ []; fetches = []; requests = 2 }

-- ---- each refusal of an append

-- a client's append of this content, in the route of any epoch
abbrev pub asked : List ℕ → Asked
asked content = record { from = k; client = true; req = 9; epoch = None; offset = None; selector = []; take = []; add = []; content = content }

no_journal : refusal_of b1 open_part None (route (b1 ∷ [])) (asked []) ≡ Some (refused_as 9 1 0)
no_journal = refl

no_route : refusal_of b1 open_part (Some (spec [])) None (asked []) ≡ Some (refuses_route 9 [])
no_route = refl

not_primary : refusal_of b1 open_part (Some (spec [])) (route (b2 ∷ b1 ∷ [])) (asked []) ≡ Some (refuses_route 9 (b2 ∷ b1 ∷ []))
not_primary = refl

wrong_route : refusal_of b1 open_part (Some (spec [])) (route (b1 ∷ b2 ∷ [])) (record (asked []) { epoch = Some 3 }) ≡ Some (refused_as 9 3 4)
wrong_route = refl

not_open : refusal_of b1 Closed (Some (spec [])) (route (b1 ∷ b2 ∷ [])) (asked []) ≡ Some (refused_as 9 4 4)
not_open = refl

open_at_another : refusal_of b1 (Open (record { epoch = 2; others = []; opened = 0 }) []) (Some (spec [])) (route (b1 ∷ b2 ∷ [])) (asked []) ≡ Some (refused_as 9 4 4)
open_at_another = refl

too_large : (content : List ℕ) → nat_lt max_content (length content) ≡ true → refusal_by Bytes (asked content) ≡ Some (refused_as 9 5 1048576)
too_large content e = rw e refl

not_framed : refusal_of b1 open_part (Some (spec (typed (codes "application/x-ndjson")))) (route (b1 ∷ b2 ∷ [])) (asked (codes "no line")) ≡ Some (refused_as 9 6 0)
not_framed = refl

a_recovery_log : refusal_of b1 open_part (Some (spec (typed (codes "application/x-gazette-recoverylog")))) (route (b1 ∷ b2 ∷ [])) (asked []) ≡ Some (refused_as 9 7 0)
a_recovery_log = refl

empty_that_changes : refusal_of b1 open_part (Some (spec [])) (route (b1 ∷ b2 ∷ [])) (record (asked []) { take = record { name = codes "a"; value = [] } ∷ [] }) ≡ Some (refused_as 9 7 0)
empty_that_changes = refl

nothing_refused : refusal_of b1 open_part (Some (spec [])) (route (b1 ∷ b2 ∷ [])) (asked (codes "abc")) ≡ None
nothing_refused = refl

-- ---- at the spool's end

-- judged there, and answered at once, since the head is there
abbrev pub judged : Asked → List Send
judged a = sends_of (judges (broker row) j row a (request_of a []))

wrong_offset : judged (record (asked (codes "abc")) { offset = Some 2 }) ≡ send k (AppendDone 9 j 8 0 0 3 [] []) ∷ []
wrong_offset = refl

empty_lands : judged (asked []) ≡ send k (AppendDone 9 j 0 3 3 0 [] []) ∷ []
empty_lands = refl

-- what lands is sent to the others, and its answer waits
lands : judged (asked (9 ∷ 9 ∷ 9 ∷ [])) ≡ send b2 (Replicate j 4 3 (entry 9) 3) ∷ send b3 (Replicate j 4 3 (entry 9) 3) ∷ []
lands = refl

abbrev pub put : Outcome
put = judges (broker row) j row (asked (9 ∷ 9 ∷ 9 ∷ [])) (request_of (asked (9 ∷ 9 ∷ 9 ∷ [])) [])

-- A greater epoch is promised: waiting answers go out as closed, and then the promise.
closes : sends_of (ruled put.broker j (λ req m. on_promise j m b2 6)) ≡
    send k (AppendDone 9 j 10 0 0 6 [] [])
    ∷ send b2 (Promised j 6 4 (record spool { entries = entry 7 ∷ entry 9 ∷ [] }))
    ∷ []
closes = refl

-- ---- each answer of a read

abbrev pub read : Row → Option JournalSpec → Option RouteHeld → ℕ → List Send
read r s held offset = sends_of (reads j k 5 offset s held (broker r))

-- the store has what is below this spool's begin
abbrev pub trimmed : Row
trimmed = record row { member = record row.member { spool = record { begin = 3; base = []; entries = entry 8 ∷ []; head = 6 } } }

read_no_journal : read row None (route (b1 ∷ [])) 0 ≡ send k (ReadDone 5 j 1 0 [] 0 []) ∷ []
read_no_journal = refl

read_no_route : read row (Some (spec [])) None 0 ≡ send k (ReadDone 5 j 2 0 [] 0 []) ∷ []
read_no_route = refl

read_not_broker : read row (Some (spec [])) (route (b2 ∷ b3 ∷ [])) 0 ≡ send k (ReadDone 5 j 2 0 [] 0 (b2 ∷ b3 ∷ [])) ∷ []
read_not_broker = refl

read_not_yet : read row (Some (spec [])) (route (b2 ∷ b1 ∷ [])) 3 ≡ send k (ReadDone 5 j 3 0 [] 3 []) ∷ []
read_not_yet = refl

read_bytes : read row (Some (spec [])) (route (b2 ∷ b1 ∷ [])) 1 ≡ send k (ReadDone 5 j 0 1 (7 ∷ 7 ∷ []) 3 []) ∷ []
read_bytes = refl

read_below : read trimmed (Some (spec [])) (route (b2 ∷ b1 ∷ [])) 1 ≡ send store (StoreGet 3 j 1) ∷ []
read_below = refl

-- the store's bytes are passed on, with the head of then
read_passed_on : sends_of (then_do (reads j k 5 1 (Some (spec [])) (route (b2 ∷ b1 ∷ [])) (broker trimmed)) (on_store_got j 3 0 1 (7 ∷ 7 ∷ []))) ≡
    send store (StoreGet 3 j 1) ∷ send k (ReadDone 5 j 0 1 (7 ∷ 7 ∷ []) 6 []) ∷ []
read_passed_on = refl

-- ---- a route of three opens, and an append is acknowledged

abbrev pub in_turn : List Item → Broker → Outcome
in_turn [] b = idle b
in_turn (i ∷ is) b = then_do (step b i) (in_turn is)

abbrev pub from : List ℕ → Msg → Item
from node msg = Deliver node false msg

-- it has the journal's specification, and is told of the route at revision 4
abbrev pub begun : List ℕ → Broker
begun text = record { name = b1; mirror = record { revision = 3; keys = (codes "journal/x", record { value = text; mod_revision = 1 }) ∷ [] }; rows = []; fetches = []; requests = 0 }

abbrev pub opening : List Item
opening = from keys (KsChange 4 (record { key = codes "route/x"; value = Some (codes "b1,b2,b3") } ∷ []))
    ∷ from b2 (Promised j 4 0 (empty_at 0))
    ∷ from store (StoreNames 1 j [])
    ∷ from b3 (Promised j 4 0 (empty_at 0))
    ∷ from b2 (Adopted j 4 0)
    ∷ from b3 (Adopted j 4 0)
    ∷ from keys (KsTxnOk 2 5)
    ∷ []

opening_sends : (text : List ℕ) → sends_of (in_turn opening (begun text)) ≡
    send store (StoreList 1 j)
    ∷ send b2 (Promise j 4)
    ∷ send b3 (Promise j 4)
    ∷ send b2 (Adopt j 4 (empty_at 0))
    ∷ send b3 (Adopt j 4 (empty_at 0))
    ∷ send keys (KsTxn 2 (record { key = codes "route/x"; mod_revision = 4 } ∷ []) (record { key = codes "sync/x"; value = Some (codes "4") } ∷ []))
    ∷ send b2 (Head j 4 0 0)
    ∷ send b3 (Head j 4 0 0)
    ∷ []
unfolding is_id digits
opening_sends text = refl

-- answered when the second of the others holds it, and then they are told the head
append_sends : sends_of (in_turn (Deliver k true (Append 9 j None None [] [] [] (9 ∷ 9 ∷ 9 ∷ [])) ∷ from b2 (Held j 4 3) ∷ from b3 (Held j 4 3) ∷ [])
    (in_turn opening (begun (codes "{\"name\":\"x\"}"))).broker) ≡
    send b2 (Replicate j 4 0 (entry 9) 0)
    ∷ send b3 (Replicate j 4 0 (entry 9) 0)
    ∷ send k (AppendDone 9 j 0 0 3 0 [] [])
    ∷ send b2 (Head j 4 3 0)
    ∷ send b3 (Head j 4 3 0)
    ∷ []
unfolding is_id digits journal_of journal_at journal_with is_journal_name utf8_valid_len is_utf8 chars value punctuate lex content encode
append_sends = refl
