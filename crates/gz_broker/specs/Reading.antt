-- What a broker does with a read: it gives what its spool has below its head, asks the store for what is below its
-- begin, or says why there is nothing.
use Rattle.std.specs.Prelude.{ℕ, ◌+◌, ◌-◌, ◌==◌, List, [], ◌∷◌, ◌++◌, take, drop, min, filter, not, Bool, Option, Some, None, if◌then◌else◌, nat_le, nat_lt}
use Rattle.std.specs.Str.{bytes_eq}
use Rattle.std.specs.List.{list_any}
use Rattle.gz_label.specs.declared.entry.Image.{Image}
use Rattle.gz_journal.specs.JournalList.{text_of}
use Rattle.gz_spec.specs.Records.{JournalSpec}
use Rattle.gz_wire.specs.declared.msg.Msg.{Msg}
use Rattle.gz_wire.specs.declared.msg.Msg.TheVariants.{ReadDone, StoreGet}
use Rattle.gz_replica.specs.Opening.{store}
use Rattle.gz_broker.specs.Brokers.{Fetch, Broker, Outcome, idle, answers_with, RouteHeld, row_of, spec_of, route_of}

-- the most bytes that a read is answered
abbrev pub max_read : ℕ
max_read = 262144

abbrev pub is_among : List ℕ → List (List ℕ) → Bool
is_among name names = list_any (bytes_eq name) names

-- the bytes of a spool from the offset up to the head, at most so many
abbrev pub bytes_from : ℕ → Image → List ℕ
bytes_from offset i = take (min max_read (i.head - offset)) (drop (offset - i.begin) (text_of i.entries))

abbrev pub refuses_read : List ℕ → ℕ → ℕ → ℕ → List (List ℕ) → Msg
refuses_read j req status head route = ReadDone req j status 0 [] head route

abbrev pub fetches : List ℕ → List ℕ → ℕ → ℕ → Broker → Outcome
fetches j from req offset b =
    let broker : Broker = record b { fetches = b.fetches ++ record { req = b.requests + 1; reader = from; read = req } ∷ []; requests = b.requests + 1 } in
    answers_with store (StoreGet (b.requests + 1) j offset) broker

abbrev pub reads_spool : List ℕ → List ℕ → ℕ → ℕ → Image → Broker → Outcome
reads_spool j from req offset i b =
    if nat_le i.head offset then answers_with from (refuses_read j req 3 i.head []) b
    else (if nat_lt offset i.begin then fetches j from req offset b
    else answers_with from (ReadDone req j 0 offset (bytes_from offset i) i.head []) b)

abbrev pub reads_on : List ℕ → List ℕ → ℕ → ℕ → Option RouteHeld → Broker → Outcome
reads_on j from req offset None b = answers_with from (refuses_read j req 2 0 []) b
reads_on j from req offset (Some r) b =
    if is_among b.name r.members then reads_spool j from req offset (row_of j b.rows).member.spool b
    else answers_with from (refuses_read j req 2 0 r.members) b

abbrev pub reads : List ℕ → List ℕ → ℕ → ℕ → Option JournalSpec → Option RouteHeld → Broker → Outcome
reads j from req offset None route b = answers_with from (refuses_read j req 1 0 []) b
reads j from req offset (Some spec) route b = reads_on j from req offset route b

abbrev pub on_read : List ℕ → List ℕ → ℕ → ℕ → Broker → Outcome
on_read j from req offset b = reads j from req offset (spec_of j b.mirror) (route_of j b.mirror) b

-- the read that asked by this request
abbrev pub fetch_of : ℕ → List Fetch → Option Fetch
fetch_of req [] = None
fetch_of req (f ∷ fs) = if f.req == req then Some f else fetch_of req fs

abbrev pub passes_on : List ℕ → ℕ → List ℕ → Option Fetch → Broker → Outcome
passes_on j offset content None b = idle b
passes_on j offset content (Some f) b =
    answers_with f.reader (ReadDone f.read j 0 offset content (row_of j b.rows).member.spool.head []) (record b { fetches = filter (λ g. not (g.req == f.req)) b.fetches })

-- the store's bytes are passed on with the head of now
abbrev pub on_store_got : List ℕ → ℕ → ℕ → ℕ → List ℕ → Broker → Outcome
on_store_got j req status offset content b = if status == 0 then passes_on j offset content (fetch_of req b.fetches) b else idle b
