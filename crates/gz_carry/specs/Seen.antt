-- How a full member is seen in a node of the reduced journal, and a message in a letter. The reduced journal counts
-- marks, from the journal's first one on; a spool holds entries alone, from some offset on, and messages say offsets in
-- bytes. So a spool is a cut of a list of marks, and an offset is where a prefix of one ends. It is a relation and no
-- function: the marks before the cut are history, which no member has. `num` gives each name its number, and `lists`
-- each epoch its list, that of its primary.
use Rattle.std.specs.Prelude.{◌≡◌, ◌⊎◌, ◌==◌, ℕ, ◌≤◌, List, [], ◌∷◌, length, map, take, drop, Option, Some, None}
use Rattle.std.specs.Str.{bytes_eq}
use Rattle.gz_label.specs.declared.entry.Image.{Image}
use Rattle.gz_replica.specs.Slots.{Slots}
use Rattle.gz_replica.specs.Member as full
use Rattle.gz_replica.specs.declared.part.Part.TheVariants as full_part
use Rattle.gz_replica.specs.declared.part.Part as full_parts
use Rattle.gz_replica.specs.declared.part.Route as full_routes
use Rattle.gz_replica.specs.Slots as full_slots
use Rattle.gz_replica.specs.Opening.{sync_txn}
use Rattle.gz_wire.specs.declared.msg.Msg.{Msg}
use Rattle.gz_wire.specs.declared.msg.Send.{Send}
use Rattle.gz_wire.specs.declared.msg.Msg.TheVariants as wire
use Rattle.gz_lineage.specs.Lists.{In, Each}
use Rattle.gz_lineage.specs.Marks.{Mark, Added, end_of_marks, registers_from}
use Rattle.gz_lineage.specs.Nodes as reduced
use Rattle.gz_lineage.specs.Rules.{letter, keys}

-- names are the same where their numbers are
abbrev pub IsNumbering : (List ℕ → ℕ) → Type 0
IsNumbering num = (a b : List ℕ) → bytes_eq a b ≡ (num a == num b)

-- ---- spools

-- the offset is where the first k marks of the list end
pub record PlaceSeen (xs : List Mark) (offset k : ℕ) : Type 0 where
  pub within : k ≤ length xs
  pub ends : offset ≡ end_of_marks (take k xs)

-- The image is what stands in the list behind its first `cut` marks, all of them entries: it begins where these end, with
-- the registers behind them, and its head is where the first `head` marks end. A trim moves the cut, and the list stays.
pub record Fits (i : Image) (xs : List Mark) (head : ℕ) : Type 0 where
  pub cut : ℕ
  pub begins : PlaceSeen xs i.begin cut
  pub base : i.base ≡ registers_from [] (take cut xs)
  pub entries : drop cut xs ≡ map Added i.entries
  pub heads : PlaceSeen xs i.head head
  pub order : i.begin ≤ i.head

-- ---- a primary's part

-- the broker `me` leads both routes, which have one epoch, the same other members, and found the same sync key
pub record RouteSeen (num : List ℕ → ℕ) (me : List ℕ) (r : full_routes.Route) (s : reduced.Route) : Type 0 where
  pub epoch : s.epoch ≡ r.epoch
  pub lead : s.lead ≡ num me
  pub others : s.others ≡ map num r.others
  pub opened : s.opened ≡ r.opened

-- both are there, and P holds of them, or both are not
abbrev pub OptionSeen : {A B : Type 0} → (A → B → Type 0) → Option A → Option B → Type 0
OptionSeen P None None = Unit {0}
OptionSeen P (Some x) (Some y) = P x y
OptionSeen P None (Some y) = ⊥
OptionSeen P (Some x) None = ⊥

-- the same names have told, in the same order, and P holds of what each told
abbrev pub SlotsSeen : {A B : Type 0} → (List ℕ → ℕ) → (A → B → Type 0) → Slots A → List (ℕ × Option B) → Type 0
SlotsSeen num P [] [] = Unit {0}
SlotsSeen num P (x ∷ xs) (y ∷ ys) = (y.0 ≡ num x.0) × OptionSeen P x.1 y.1 × SlotsSeen num P xs ys
SlotsSeen num P [] (y ∷ ys) = ⊥
SlotsSeen num P (x ∷ xs) [] = ⊥

-- the same epoch was adopted, and the image is a cut of the list
pub record ReportSeen (r : full_slots.Report) (s : reduced.Report) : Type 0 where
  pub adopted : s.adopted ≡ r.adopted
  pub image : Fits r.image s.image.entries s.image.head

-- the store's end is that of the list that the store has
abbrev pub EndSeen : ℕ → List Mark → Type 0
EndSeen end text = end ≡ end_of_marks text

-- which end a member says that it adopted counts for nothing, only that it did
abbrev pub Anything : ℕ → ℕ → Type 0
Anything end reach = Unit {0}

-- each end that a member is known to hold is that of a prefix of the spool's list
abbrev pub HeldSeen : (List ℕ → ℕ) → List Mark → List (List ℕ × ℕ) → List (ℕ × ℕ) → Type 0
HeldSeen num xs [] [] = Unit {0}
HeldSeen num xs (p ∷ ps) (q ∷ qs) = (q.0 ≡ num p.0) × PlaceSeen xs p.1 q.1 × HeldSeen num xs ps qs
HeldSeen num xs [] (q ∷ qs) = ⊥
HeldSeen num xs (p ∷ ps) [] = ⊥

-- The parts are the same one. The numbers of requests, and the queue of answers, are on one side only. A closed part may
-- also be seen in one that waits for the sync key: the full key space refuses a sync at its last revision, the reduced one
-- has none, and there the node waits for ever.
abbrev pub PartSeen : (List ℕ → ℕ) → List ℕ → List Mark → full_parts.Part → reduced.Part → Type 0
PartSeen num me xs full_part.Closed reduced.Closed = Unit {0}
PartSeen num me xs full_part.Closed (reduced.Syncing s) = Unit {0}
PartSeen num me xs (full_part.Opening r req reports stored) (reduced.Opening s others names) = RouteSeen num me r s × SlotsSeen num ReportSeen reports others × OptionSeen EndSeen stored names
PartSeen num me xs (full_part.Adopting r reached) (reduced.Adopting s others) = RouteSeen num me r s × SlotsSeen num Anything reached others
PartSeen num me xs (full_part.Syncing r req) (reduced.Syncing s) = RouteSeen num me r s
PartSeen num me xs (full_part.Open r held) (reduced.Open s others queue) = RouteSeen num me r s × HeldSeen num xs held others
PartSeen num me xs _ _ = ⊥

-- ---- a member

-- The broker's member is seen in the node: they promised and adopted the same epochs, the spool is a cut of the node's
-- list, and they do the same as primary.
pub record MemberSeen (num : List ℕ → ℕ) (me : List ℕ) (m : full.Member) (n : reduced.Node) : Type 0 where
  pub promised : n.promised ≡ m.promised
  pub adopted : n.adopted ≡ m.adopted
  pub spool : Fits m.spool n.spool n.head
  pub part : PartSeen num me n.spool m.part n.part

-- ---- messages

-- this head is the one that an entry's letter carries, or it was told in a letter of its own
abbrev pub HeadTold : List reduced.Letter → ℕ → ℕ → ℕ → ℕ → ℕ → Type 0
HeadTold said from to epoch carried head = (head ≡ carried) ⊎ In (letter from to (reduced.Head epoch head)) said

-- A message from `me` to `to` is seen among the letters that were ever said: one of them means it. So flights are never
-- compared, since a letter that was said can come at any time. An offset or an end is that of a prefix of its epoch's
-- list; an entry that is sent again goes with the head of now, which may have been told after the entry's letter. A
-- transaction is the sync of the letter's epoch; a listing carries no epoch, and is the letter of some. What else is sent
-- means nothing.
abbrev pub MessageSeen : (List ℕ → ℕ) → (ℕ → List Mark) → List reduced.Letter → List ℕ → List ℕ → Msg → Type 0
MessageSeen num lists said me to (wire.Promise j e) = In (letter (num me) (num to) (reduced.Promise e)) said
MessageSeen num lists said me to (wire.Promised j e adopted image) =
    (r : reduced.Report) × In (letter (num me) (num to) (reduced.Promised e r)) said × ReportSeen (record { adopted = adopted; image = image }) r
MessageSeen num lists said me to (wire.Adopt j e image) = (i : reduced.Image) × In (letter (num me) (num to) (reduced.Adopt e i)) said × Fits image i.entries i.head
MessageSeen num lists said me to (wire.Adopted j e end) = (k : ℕ) × In (letter (num me) (num to) (reduced.Adopted e k)) said
MessageSeen num lists said me to (wire.Replicate j e offset entry head) =
    (k carried h : ℕ) × In (letter (num me) (num to) (reduced.Replicate e k (Added entry) carried)) said × PlaceSeen (lists e) offset k × PlaceSeen (lists e) head h ×
    (carried ≤ h) × HeadTold said (num me) (num to) e carried h
MessageSeen num lists said me to (wire.Held j e end) = (k : ℕ) × In (letter (num me) (num to) (reduced.Held e k)) said × PlaceSeen (lists e) end k
MessageSeen num lists said me to (wire.Head j e head begin) = (k : ℕ) × In (letter (num me) (num to) (reduced.Head e k)) said × PlaceSeen (lists e) head k
MessageSeen num lists said me to (wire.StoreList req j) = (e : ℕ) × In (letter (num me) keys (reduced.Ask e)) said
MessageSeen num lists said me to (wire.KsTxn req compares writes) = (e : ℕ) × (j : List ℕ) × (wire.KsTxn req compares writes ≡ sync_txn j e req) × In (letter (num me) keys (reduced.Txn e)) said
MessageSeen num lists said me to msg = Unit {0}

-- each message that is sent is seen
abbrev pub SendsSeen : (List ℕ → ℕ) → (ℕ → List Mark) → List reduced.Letter → List ℕ → List Send → Type 0
SendsSeen num lists said me sends = Each (λ (s : Send). MessageSeen num lists said me s.to s.msg) sends

-- ---- a rule

-- What a rule makes of the member is seen in what the reduced rule makes of its node, and each message that it sends in
-- the letters that the node says.
pub record StepSeen (num : List ℕ → ℕ) (lists : ℕ → List Mark) (me : List ℕ) (out : full.Outcome) (step : reduced.Outcome) : Type 0 where
  pub member : MemberSeen num me out.member step.node
  pub sends : SendsSeen num lists step.sends me out.sends
