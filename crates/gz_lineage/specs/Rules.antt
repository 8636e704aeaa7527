-- The rules: what a broker does with one message. They stand in the order of an opening and then of an append: promise,
-- choice, adopt, sync, open; put, replicate, hold, head. Each is a total function of the broker's number, its state and
-- the message's fields; where the rule is a primary's, of its part too, which comes last.
use Rattle.gz_lineage.specs.Marks.{Mark, Reset, Added, end_behind, entry_behind}
use Rattle.std.specs.Prelude.{ℕ, ◌+◌, ◌==◌, nat_lt, nat_le, List, [], ◌∷◌, ◌++◌, length, if◌then◌else◌, Option, Some, None, Bool, ◌||◌, ◌&&◌, max, min, take, slice_index_or}
use Rattle.gz_journal.specs.declared.request.Request.{Request}
use Rattle.gz_lineage.specs.Lists.{fill, full, slots_for, names, all_at}
use Rattle.gz_lineage.specs.Nodes.{Route, Image, Report, Part, Node, Message, Letter, Outcome, Closed, Opening, Adopting, Syncing, Open, Changed, Promise, Promised, Adopt, Adopted, Refuse, Txn, TxnOk, TxnNo, Append, Replicate, Held, Head, Done, Shut, Ask, Names, Put}

-- ---- letters and outcomes

-- the node that keeps the keys and is the store
abbrev pub keys : ℕ
keys = 0

abbrev pub letter : ℕ → ℕ → Message → Letter
letter from to body = record { from = from; to = to; body = body }

-- a letter with this body to each of these
abbrev pub to_each : ℕ → Message → List ℕ → List Letter
to_each self body [] = []
to_each self body (m ∷ ms) = letter self m body ∷ to_each self body ms

-- nothing changes, and nothing is sent
abbrev pub idle : Node → Outcome
idle n = record { node = n; sends = [] }

-- only an answer
abbrev pub answered : ℕ → ℕ → Node → Message → Outcome
answered self to n body = record { node = n; sends = letter self to body ∷ [] }

abbrev pub after_sends : List Letter → Outcome → Outcome
after_sends ls out = record { node = out.node; sends = ls ++ out.sends }

abbrev pub image_of : Node → Image
image_of n = record { entries = n.spool; head = n.head }

-- what a broker gives to readers, and to the store: its spool up to the head
abbrev pub served : Node → List Mark
served n = take n.head n.spool

-- ---- the queue of answers

-- the answers up to a head go out
abbrev pub answers : ℕ → ℕ → ℕ → List ℕ → List Letter
answers self epoch head [] = []
answers self epoch head (q ∷ qs) = (if nat_le q head then letter self keys (Done epoch q) ∷ answers self epoch head qs else answers self epoch head qs)

-- and the others wait
abbrev pub waiting : ℕ → List ℕ → List ℕ
waiting head [] = []
waiting head (q ∷ qs) = (if nat_le q head then waiting head qs else q ∷ waiting head qs)

-- each queued answer goes out as closed
abbrev pub shut_queue : ℕ → ℕ → List ℕ → List Letter
shut_queue self promised [] = []
shut_queue self promised (q ∷ qs) = letter self keys (Shut promised) ∷ shut_queue self promised qs

-- A part closes, since a greater epoch is promised.
abbrev pub closing : ℕ → ℕ → Part → List Letter
closing self promised (Open r held queue) = shut_queue self promised queue
closing self promised part = []

-- ---- promise

-- A route is taken: its first member promises its epoch, asks the store what it has, and the others to promise.
abbrev pub on_changed : ℕ → Node → Route → Outcome
on_changed self n r =
    if (self == r.lead) && nat_lt n.promised r.epoch
    then after_sends (closing self r.epoch n.part ++ letter self keys (Ask r.epoch) ∷ to_each self (Promise r.epoch) r.others)
    (idle (record n { promised = r.epoch; part = Opening r (slots_for r.others) None }))
    else idle n

-- A promise is asked for: refused below the promised epoch, else given with a report of the spool.
abbrev pub on_promise : ℕ → Node → ℕ → ℕ → Outcome
on_promise self n from e =
    if nat_lt e n.promised then answered self from n (Refuse e 1)
    else (if nat_lt n.promised e
    then after_sends (closing self e n.part)
    (answered self from (record n { promised = e; part = Closed }) (Promised e (record { adopted = n.adopted; image = image_of n })))
    else answered self from n (Promised e (record { adopted = n.adopted; image = image_of n })))

-- ---- choice

-- a report is better than another: of a greater adopted epoch, or of the same one with more marks
abbrev pub beats : Report → Report → Bool
beats q r = nat_lt r.adopted q.adopted || (r.adopted == q.adopted && nat_lt (length r.image.entries) (length q.image.entries))

-- the better of the two, the first at a tie
abbrev pub larger : Report → Option Report → Option Report
larger r None = Some r
larger r (Some q) = if beats q r then Some q else Some r

-- only a report that adopted at least the epoch `o` counts
abbrev pub better : ℕ → Option Report → Option Report → Option Report
better o None q = q
better o (Some r) q = if nat_le o r.adopted then larger r q else q

-- the best one of those that count
abbrev pub best : ℕ → List (ℕ × Option Report) → Option Report
best o [] = None
best o (p ∷ ps) = better o p.1 (best o ps)

-- a mark in a list, behind which the registers are empty
abbrev pub reset : Mark
reset = Reset

-- the chosen one's image; where none counts, what the store has, and a reset
abbrev pub image_taken : List Mark → Option Report → Image
image_taken names None = record { entries = names ++ reset ∷ []; head = length names }
image_taken names (Some r) = r.image

-- ---- adopt

-- Where every other member has adopted, the key space is asked to write the epoch to the sync key.
abbrev pub adopting : ℕ → Node → Route → List (ℕ × Option ℕ) → Outcome
adopting self n r reached =
    if full reached
    then answered self keys (record n { part = Syncing r }) (Txn r.epoch)
    else idle (record n { part = Adopting r reached })

-- the primary takes the image, and the others are to adopt it
abbrev pub adopts : ℕ → Node → Route → Image → Outcome
adopts self n r image =
    after_sends (to_each self (Adopt r.epoch image) r.others)
    (adopting self (record n { adopted = r.epoch; spool = image.entries; head = image.head }) r (slots_for r.others))

-- the choice, once all other members and the store have answered; the primary's own spool counts as one more report
abbrev pub opening_at : ℕ → Node → Route → List (ℕ × Option Report) → Option (List Mark) → Outcome
opening_at self n r reports None = idle (record n { part = Opening r reports None })
opening_at self n r reports (Some names) =
    if full reports
    then adopts self n r (image_taken names (better r.opened (Some (record { adopted = n.adopted; image = image_of n })) (best r.opened reports)))
    else idle (record n { part = Opening r reports (Some names) })

-- a member's report comes
abbrev pub on_promised : ℕ → Node → ℕ → ℕ → Report → Part → Outcome
on_promised self n from e report (Opening r reports names) =
    if e == r.epoch then opening_at self n r (fill from report reports) names else idle n
on_promised self n from e report _ = idle n

-- The store tells what it has. Its first answer counts.
abbrev pub on_names : ℕ → Node → ℕ → List Mark → Part → Outcome
on_names self n e text (Opening r reports None) = if e == r.epoch then opening_at self n r reports (Some text) else idle n
on_names self n e text _ = idle n

-- An image is to be adopted: refused below the promised epoch; done already; else it becomes the spool.
abbrev pub on_adopt : ℕ → Node → ℕ → ℕ → Image → Outcome
on_adopt self n from e image =
    if nat_lt e n.promised then answered self from n (Refuse e 1)
    else (if n.adopted == e then answered self from n (Adopted e (length n.spool))
    else (if nat_lt n.promised e
    then after_sends (closing self e n.part)
    (answered self from (record { promised = e; adopted = e; spool = image.entries; head = image.head; part = Closed }) (Adopted e (length image.entries)))
    else answered self from (record n { adopted = e; spool = image.entries; head = image.head }) (Adopted e (length image.entries))))

-- a member has adopted
abbrev pub on_adopted : ℕ → Node → ℕ → ℕ → ℕ → Part → Outcome
on_adopted self n from e reach (Adopting r reached) =
    if e == r.epoch then adopting self n r (fill from reach reached) else idle n
on_adopted self n from e reach _ = idle n

-- ---- sync and open

-- The sync key has the epoch: the primary is open, every member holds its spool, and the head is the spool's end.
abbrev pub on_txn_ok : ℕ → Node → ℕ → Part → Outcome
on_txn_ok self n e (Syncing r) =
    if e == r.epoch
    then record { node = record n { head = length n.spool; part = Open r (all_at (length n.spool) r.others) [] }; sends = to_each self (Head e (length n.spool)) r.others }
    else idle n
on_txn_ok self n e _ = idle n

-- a later route was written first
abbrev pub on_txn_no : ℕ → Node → ℕ → Part → Outcome
on_txn_no self n e (Syncing r) = if e == r.epoch then idle (record n { part = Closed }) else idle n
on_txn_no self n e _ = idle n

-- ---- an append

-- the least of the own end and all held ends
abbrev pub least : ℕ → List (ℕ × ℕ) → ℕ
least k [] = k
least k (p ∷ ps) = min p.1 (least k ps)

-- a member's held end becomes the greater
abbrev pub raised : ℕ → ℕ → List (ℕ × ℕ) → List (ℕ × ℕ)
raised m k [] = []
raised m k (p ∷ ps) = (if m == p.0 then (p.0, max p.1 k) else p) ∷ raised m k ps

-- Where the primary's head is to be greater, answers up to it go out, and then the head to the others.
abbrev pub with_head : ℕ → Node → Route → List (ℕ × ℕ) → List ℕ → ℕ → Outcome
with_head self n r held queue h =
    if nat_lt n.head h
    then record { node = record n { head = h; part = Open r held (waiting h queue) }; sends = answers self r.epoch h queue ++ to_each self (Head r.epoch h) r.others }
    else idle (record n { part = Open r held queue })

-- An entry is put behind the spool and sent to the others. Its answer waits for its end.
abbrev pub puts : ℕ → Node → Mark → Part → Outcome
puts self n x (Open r held queue) =
    let spool = n.spool ++ x ∷ [] in
    after_sends (to_each self (Replicate r.epoch (length n.spool) x n.head) r.others)
    (with_head self (record n { spool = spool }) r held (queue ++ (length n.spool + 1) ∷ []) (least (length spool) held))
puts self n x _ = idle n

abbrev pub puts_if : ℕ → Node → Request → Part → Option ℕ → Outcome
puts_if self n r p None = idle n
puts_if self n r p (Some end) = puts self n (Added (entry_behind n.spool r)) p

-- A request is judged at the spool's end. What lands is put.
abbrev pub on_append : ℕ → Node → Request → Part → Outcome
on_append self n r p = puts_if self n r p (end_behind n.spool r)

-- the head becomes the greater of the old one and of what the broker has of the told one
abbrev pub raise : Node → ℕ → Node
raise n h = record n { head = max n.head (min h (length n.spool)) }

-- An entry comes: refused below the promised epoch, of another epoch than the adopted one, or behind a gap; put in at
-- the end; there already below it.
abbrev pub on_replicate : ℕ → Node → ℕ → ℕ → ℕ → Mark → ℕ → Outcome
on_replicate self n from e offset x head =
    if nat_lt e n.promised then answered self from n (Refuse e 1)
    else (if n.adopted == e
    then (if nat_lt (length n.spool) offset then answered self from n (Refuse e 3)
    else (if offset == length n.spool
    then answered self from (raise (record n { spool = n.spool ++ x ∷ [] }) head) (Held e (offset + 1))
    else answered self from (raise n head) (Held e (length n.spool))))
    else answered self from n (Refuse e 2))

-- A member holds so much. The head is what all hold.
abbrev pub on_held : ℕ → Node → ℕ → ℕ → ℕ → Part → Outcome
on_held self n from e reach (Open r held queue) =
    if e == r.epoch
    then with_head self n r (raised from reach held) queue (least (length n.spool) (raised from reach held))
    else idle n
on_held self n from e reach _ = idle n

-- a head is told
abbrev pub on_head : Node → ℕ → ℕ → Outcome
on_head n e head = if n.adopted == e then idle (raise n head) else idle n

-- ---- any message

abbrev pub take_message : ℕ → Node → ℕ → Message → Outcome
take_message self n from (Changed r) = on_changed self n r
take_message self n from (Promise e) = on_promise self n from e
take_message self n from (Promised e report) = on_promised self n from e report n.part
take_message self n from (Adopt e image) = on_adopt self n from e image
take_message self n from (Adopted e reach) = on_adopted self n from e reach n.part
take_message self n from (TxnOk e) = on_txn_ok self n e n.part
take_message self n from (TxnNo e) = on_txn_no self n e n.part
take_message self n from (Append r) = on_append self n r n.part
take_message self n from (Replicate e offset x head) = on_replicate self n from e offset x head
take_message self n from (Held e reach) = on_held self n from e reach n.part
take_message self n from (Head e head) = on_head n e head
take_message self n from (Names e text) = on_names self n e text n.part
take_message self n from _ = idle n

-- ---- what a primary sends by command

-- what an open primary gives to the store
abbrev pub flush : ℕ → Node → Part → List Letter
flush self n (Open r held queue) = letter self keys (Put (served n)) ∷ []
flush self n _ = []

-- what a primary asks of the others, or tells them, said again
abbrev pub resent : ℕ → Node → Part → List Letter
resent self n Closed = []
resent self n (Opening r reports names) = letter self keys (Ask r.epoch) ∷ to_each self (Promise r.epoch) r.others
resent self n (Adopting r reached) = to_each self (Adopt r.epoch (image_of n)) r.others
resent self n (Syncing r) = letter self keys (Txn r.epoch) ∷ []
resent self n (Open r held queue) = to_each self (Head r.epoch n.head) r.others

-- an entry at or behind the head of an open primary, sent again
abbrev pub given : ℕ → Node → ℕ → Part → List Letter
given self n k (Open r held queue) = if nat_le n.head k && nat_lt k (length n.spool) then to_each self (Replicate r.epoch k (slice_index_or n.spool k Reset) n.head) r.others else []
given self n k _ = []
