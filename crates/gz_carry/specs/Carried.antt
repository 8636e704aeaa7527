-- What is proved of each rule, one sentence for each: where a broker's member is seen in a node, what the rule makes of
-- the member is seen in what the reduced rule makes of the node, sends included. `num` numbers names, `lists` are those of
-- the epochs. A sentence speaks of a history where the rule compares offsets.
use Rattle.std.specs.Prelude.{◌≡◌, ℕ, ◌<◌, ◌≤◌, zero, suc, List, [], ◌∷◌, ◌++◌, length, Some, None, if◌then◌else◌}
use Rattle.gz_label.specs.declared.entry.Entry.{Entry}
use Rattle.gz_label.specs.declared.entry.Image.{Image}
use Rattle.gz_journal.specs.declared.request.Request.{Request}
use Rattle.gz_journal.specs.JournalList.{judgement, new_end_of, entry_of}
use Rattle.gz_wire.specs.declared.msg.Msg.{Msg}
use Rattle.gz_spool.specs.Spools.{spool_end, spool_registers, is_image}
use Rattle.gz_replica.specs.Member.{Member, new_member}
use Rattle.gz_replica.specs.Slots.{Slots}
use Rattle.gz_replica.specs.declared.part.Part.TheVariants as full_part
use Rattle.gz_replica.specs.declared.part.Route as full_routes
use Rattle.gz_replica.specs.Slots as full_slots
use Rattle.gz_replica.specs.Opening as opening
use Rattle.gz_replica.specs.Replicating as replicating
use Rattle.gz_replica.specs.Primary as primary
use Rattle.gz_replica.specs.Resending.{resent}
use Rattle.gz_lineage.specs.Lists.{In, Each}
use Rattle.gz_lineage.specs.Marks.{Mark, Added, judged_at}
use Rattle.gz_lineage.specs.Prefix.{IsPrefix}
use Rattle.gz_lineage.specs.Nodes.{Node, Letter}
use Rattle.gz_lineage.specs.Nodes as reduced
use Rattle.gz_lineage.specs.Rules as rules
use Rattle.gz_lineage.specs.World.{Event, fresh, run, start}
use Rattle.gz_lineage.specs.Handover.{HandoverThroughout}
use Rattle.gz_carry.specs.Seen.{IsNumbering, PlaceSeen, Fits, RouteSeen, ReportSeen, EndSeen, MemberSeen, MessageSeen, SendsSeen, StepSeen}
use Rattle.gz_carry.specs.Histories.{History, MessageOf, NodeOf, HasHistory}

-- ---- a member

-- A promise is asked for.
abbrev pub CarriesPromise : Type 0
CarriesPromise = (num : List ℕ → ℕ) (lists : ℕ → List Mark) (j me from : List ℕ) (m : Member) (n : Node) (epoch : ℕ) → MemberSeen num me m n →
    StepSeen num lists me (replicating.on_promise j m from epoch) (rules.on_promise (num me) n (num from) epoch)

-- An image is to be adopted, which is a cut of the letter's. One that hasn't the form of an image is passed over.
abbrev pub CarriesAdopt : Type 0
CarriesAdopt = (num : List ℕ → ℕ) (h : History) (j me from : List ℕ) (m : Member) (n : Node) (epoch : ℕ) (image : Image) (i : reduced.Image) → MemberSeen num me m n → NodeOf h n →
    Fits image i.entries i.head → MessageOf h (reduced.Adopt epoch i) →
    StepSeen num h.list me (replicating.on_adopt j m from epoch image) (if is_image image then rules.on_adopt (num me) n (num from) epoch i else rules.idle n)

-- An entry comes, with a head. One that no primary puts is passed over.
abbrev pub CarriesReplicate : Type 0
CarriesReplicate = (num : List ℕ → ℕ) (h : History) (j me from : List ℕ) (m : Member) (n : Node) (epoch offset head k reach : ℕ) (entry : Entry) → MemberSeen num me m n → NodeOf h n →
    PlaceSeen (h.list epoch) offset k → PlaceSeen (h.list epoch) head reach → MessageOf h (reduced.Replicate epoch k (Added entry) reach) →
    StepSeen num h.list me (replicating.on_replicate j m from epoch offset entry head)
    (if replicating.is_no_entry offset entry then rules.idle n else rules.on_replicate (num me) n (num from) epoch k (Added entry) reach)

-- A head is told, and where the store's end is: the spool is trimmed, which no node sees.
abbrev pub CarriesHead : Type 0
CarriesHead = (num : List ℕ → ℕ) (h : History) (j me : List ℕ) (m : Member) (n : Node) (epoch head begin k : ℕ) → MemberSeen num me m n → NodeOf h n → PlaceSeen (h.list epoch) head k →
    StepSeen num h.list me (replicating.on_head m epoch head begin) (rules.on_head n epoch k)

-- ---- a primary that opens

-- A route above what was promised is taken.
abbrev pub CarriesRoute : Type 0
CarriesRoute = (num : List ℕ → ℕ) (lists : ℕ → List Mark) (j me : List ℕ) (req : ℕ) (m : Member) (n : Node) (r : full_routes.Route) (s : reduced.Route) → MemberSeen num me m n → RouteSeen num me r s → m.promised < r.epoch →
    StepSeen num lists me (opening.open_route j req m r) (rules.on_changed (num me) n s)

-- A member promises; where it is the last one, the primary chooses an image, and the node chooses the same.
abbrev pub CarriesPromised : Type 0
CarriesPromised = (num : List ℕ → ℕ) → IsNumbering num → (h : History) (j me from : List ℕ) (req : ℕ) (m : Member) (n : Node) (epoch : ℕ) (report : full_slots.Report) (other : reduced.Report) → MemberSeen num me m n → NodeOf h n →
    ReportSeen report other → MessageOf h (reduced.Promised epoch other) →
    StepSeen num h.list me (opening.on_promised j req m from epoch report m.part) (rules.on_promised (num me) n (num from) epoch other n.part)

-- The store tells its end, to the request of this part; where no report counts, the image begins there.
abbrev pub CarriesStoreEnd : Type 0
CarriesStoreEnd = (num : List ℕ → ℕ) (h : History) (j me : List ℕ) (req : ℕ) (m : Member) (n : Node) (end list_req : ℕ) (text : List Mark) (r : full_routes.Route) (reports : Slots full_slots.Report) → MemberSeen num me m n → NodeOf h n →
    m.part ≡ full_part.Opening r list_req reports None → EndSeen end text →
    StepSeen num h.list me (opening.on_store_end j req m end list_req m.part) (rules.on_names (num me) n r.epoch text n.part)

-- A member has adopted; where it is the last one, the key space is asked for the sync.
abbrev pub CarriesAdopted : Type 0
CarriesAdopted = (num : List ℕ → ℕ) → IsNumbering num → (lists : ℕ → List Mark) (j me from : List ℕ) (req : ℕ) (m : Member) (n : Node) (epoch end k : ℕ) → MemberSeen num me m n →
    StepSeen num lists me (opening.on_adopted j req m from epoch end m.part) (rules.on_adopted (num me) n (num from) epoch k n.part)

-- The sync key is written: the primary is open.
abbrev pub CarriesSynced : Type 0
CarriesSynced = (num : List ℕ → ℕ) (h : History) (j me : List ℕ) (m : Member) (n : Node) (r : full_routes.Route) (req : ℕ) → MemberSeen num me m n → NodeOf h n → m.part ≡ full_part.Syncing r req →
    StepSeen num h.list me (opening.on_synced j m m.part) (rules.on_txn_ok (num me) n r.epoch n.part)

-- The key space refuses the sync: the node takes nothing, and goes on waiting.
abbrev pub CarriesRefusal : Type 0
CarriesRefusal = (num : List ℕ → ℕ) (lists : ℕ → List Mark) (me : List ℕ) (m : Member) (n : Node) → MemberSeen num me m n →
    StepSeen num lists me (opening.on_sync_refused m m.part) (rules.idle n)

-- ---- an open primary

-- A member holds so much; the head rises on both sides, or on none.
abbrev pub CarriesHeld : Type 0
CarriesHeld = (num : List ℕ → ℕ) → IsNumbering num → (h : History) (j me from : List ℕ) (m : Member) (n : Node) (epoch end k : ℕ) → MemberSeen num me m n → NodeOf h n → PlaceSeen (h.list epoch) end k →
    StepSeen num h.list me (primary.on_held j m from epoch end m.part) (rules.on_held (num me) n (num from) epoch k n.part)

-- A request is judged the same at the end of a spool and of its list.
abbrev pub JudgesAlike : Type 0
JudgesAlike = (i : Image) (xs : List Mark) (head : ℕ) (request : Request) → Fits i xs head → judgement (spool_end i) (spool_registers i) request ≡ judged_at xs request

-- A request that lands at the end of an open primary's spool is put. What is sent is seen over the lists of the epochs
-- with the entry, `lists`.
abbrev pub CarriesAppend : Type 0
CarriesAppend = (num : List ℕ → ℕ) (h : History) (lists : ℕ → List Mark) (j me : List ℕ) (m : Member) (n : Node) (request : Request) (end : ℕ) (r : full_routes.Route) (held : List (List ℕ × ℕ)) → MemberSeen num me m n → NodeOf h n →
    m.part ≡ full_part.Open r held →
    let judged = judgement (spool_end m.spool) (spool_registers m.spool) request in
    new_end_of judged.landed request ≡ Some end → lists r.epoch ≡ n.spool ++ Added (entry_of request judged.after) ∷ [] →
    StepSeen num lists me (primary.put_entry j m (entry_of request judged.after) m.part) (rules.on_append (num me) n request n.part)

-- The store has got the journal up to an offset: the spool is trimmed, and the others are told. The node tells them its
-- head again.
abbrev pub CarriesTrim : Type 0
CarriesTrim = (num : List ℕ → ℕ) (h : History) (j me : List ℕ) (m : Member) (n : Node) (end : ℕ) → MemberSeen num me m n → NodeOf h n →
    StepSeen num h.list me (primary.on_stored j m end m.part) (record { node = n; sends = rules.resent (num me) n n.part })

-- ---- what is sent again

-- all entries of an open primary from its head on
abbrev pub all_given : ℕ → Node → reduced.Part → ℕ → List Letter
all_given self n p zero = []
all_given self n p (suc k) = all_given self n p k ++ rules.given self n k p

-- an open primary knows each other member to hold what its head covers
abbrev pub HoldTheHead : ℕ → reduced.Part → Type 0
HoldTheHead head (reduced.Open r held queue) = Each (λ (p : ℕ × ℕ). head ≤ p.1) held
HoldTheHead head _ = Unit {0}

-- What a primary sends again when it is told to is what the node asks or tells again, and entries that it gives again.
abbrev pub CarriesResending : Type 0
CarriesResending = (num : List ℕ → ℕ) (h : History) (j me : List ℕ) (m : Member) (n : Node) → MemberSeen num me m n → NodeOf h n → HoldTheHead n.head n.part →
    SendsSeen num h.list (rules.resent (num me) n n.part ++ all_given (num me) n n.part (length n.spool)) me (resent j m m.part)

-- ---- the relations

-- What is seen stays seen when more is said and the lists of epochs get longer.
abbrev pub StaysSeen : Type 0
StaysSeen = (num : List ℕ → ℕ) (lists more : ℕ → List Mark) (said later : List Letter) (me to : List ℕ) (msg : Msg) → ((e : ℕ) → IsPrefix (lists e) (more e)) → ((l : Letter) → In l said → In l later) →
    MessageSeen num lists said me to msg → MessageSeen num more later me to msg

-- A new member is seen in a new node.
abbrev pub SeesNew : Type 0
SeesNew = (num : List ℕ → ℕ) (me : List ℕ) → MemberSeen num me new_member fresh

-- The relation isn't everything. Two members that are seen in one node promised and adopted the same, and their spools
-- have one end, one head, and the same registers.
pub record AreAlike (m o : Member) : Type 0 where
  pub promised : m.promised ≡ o.promised
  pub adopted : m.adopted ≡ o.adopted
  pub end : spool_end m.spool ≡ spool_end o.spool
  pub head : m.spool.head ≡ o.spool.head
  pub registers : spool_registers m.spool ≡ spool_registers o.spool

abbrev pub SeesOneMember : Type 0
SeesOneMember = (num : List ℕ → ℕ) (me : List ℕ) (m o : Member) (n : Node) → MemberSeen num me m n → MemberSeen num me o n → AreAlike m o

-- A member whose spool ends with an entry isn't seen in a node whose list ends with another one.
abbrev pub SeesTheEntry : Type 0
SeesTheEntry = (num : List ℕ → ℕ) (me : List ℕ) (m : Member) (n : Node) (es : List Entry) (xs : List Mark) (a b : Entry) → MemberSeen num me m n →
    m.spool.entries ≡ es ++ a ∷ [] → n.spool ≡ xs ++ Added b ∷ [] → a ≡ b

-- ---- what the sentences take for granted

-- Names can be numbered, so that none has the number of the key space and the store.
abbrev pub NamesHaveNumbers : Type 0
NamesHaveNumbers = (num : List ℕ → ℕ) × IsNumbering num × ((name : List ℕ) → num name ≡ rules.keys → ⊥)

-- Each run throughout which handover held has a history, of which all its nodes and all letters ever said are.
abbrev pub RunsHaveHistories : Type 0
RunsHaveHistories = (nodes : ℕ) (events : List Event) → HandoverThroughout events (start nodes) → HasHistory (run events (start nodes))
