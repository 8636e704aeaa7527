-- What is to hold of a journal in every run while handover does. The theorem is stated here and not proved yet; each
-- part is of one journal and one list of events.
use Rattle.std.specs.Prelude.{true, ◌≡◌, ℕ, ◌+◌, ◌-◌, ◌<◌, ◌≤◌, List, [], ◌∷◌, ◌++◌, length, take, drop, Option, Some, None, Result, Ok, slice_get}
use Rattle.std.specs.List.{IsAmong}
use Rattle.gz_label.specs.declared.label.Label.{Label}
use Rattle.gz_label.specs.declared.entry.Attempt.{Attempt}
use Rattle.gz_label.specs.declared.entry.Entry.{Entry}
use Rattle.gz_label.specs.Selectors.{selector_of}
use Rattle.gz_wire.specs.declared.msg.Msg.{Msg}
use Rattle.gz_wire.specs.declared.msg.Msg.TheVariants.{Append, AppendDone, Read, ReadDone, Adopted, Held}
use Rattle.gz_journal.specs.declared.request.Request.{Request}
use Rattle.gz_journal.specs.declared.judgement.Landed.{Landed}
use Rattle.gz_journal.specs.declared.judgement.Landed.TheVariants as landed
use Rattle.gz_journal.specs.JournalList.{entry_of, text_of}
use Rattle.gz_fragment.specs.declared.fragment.Fragment.{Fragment}
use Rattle.gz_depot.specs.Depot.{index_of}
use Rattle.gz_spec.specs.Records.{Specs}
use Rattle.gz_spec.specs.Valid.{are_specs}
use Rattle.gz_lineage.specs.Marks.{Mark, Reset, Added, end_of_marks, registers_from, judged_at}
use Rattle.gz_replica.specs.declared.part.Route.{Route}
use Rattle.gz_replica.specs.declared.part.Part.TheVariants.{Open}
use Rattle.gz_broker.specs.Brokers.{Broker, row_of}
use Rattle.gz_cluster.specs.Cluster.{Letter, Cluster, broker_of}
use Rattle.gz_cluster.specs.Events.{Event, Crash, Converge, Expire, happens, start, run, taken_in, said_in}
use Rattle.gz_cluster.specs.Ledger.{content_of, ledger_of}
use Rattle.gz_cluster.specs.Handover.{HaveStopped, changes_of, route_at, HandedOverThroughout}

-- a cluster of these specifications, a journal, and what happens
pub record Story : Type 0 where
  pub specs : Specs
  pub journal : List ℕ
  pub events : List Event

abbrev pub end_of : Story → Cluster
end_of s = run s.events (start s.specs)

-- the acknowledged list
abbrev pub marks_of : Story → List Mark
marks_of s = (ledger_of s.journal s.events (start s.specs)).marks

abbrev pub said : Story → List Letter
said s = said_in s.events (start s.specs)

abbrev pub taken : Story → List Letter
taken s = taken_in s.events (start s.specs)

-- and then this happens
abbrev pub going_on : Story → List Event → Story
going_on s more = record { specs = s.specs; journal = s.journal; events = s.events ++ more }

-- the bytes stand in a content from the offset on
abbrev pub StandsAt : List ℕ → ℕ → List ℕ → Type 0
StandsAt content offset bytes = take (length bytes) (drop offset content) ≡ bytes

-- ---- journals only grow

pub record Grows (s : Story) : Type 0 where
  pub grows : (more : List Event) → take (length (marks_of s)) (marks_of (going_on s more)) ≡ marks_of s
  -- no head is above the end, and what a spool has below its head is the journal's
  pub heads : (b : Broker) → IsAmong (end_of s).brokers b → (row_of s.journal b.rows).member.spool.head ≤ end_of_marks (marks_of s)
  pub spools : (b : Broker) → IsAmong (end_of s).brokers b → let i = (row_of s.journal b.rows).member.spool in
      StandsAt (content_of (marks_of s)) i.begin (take (i.head - i.begin) (text_of i.entries))
  pub fragments : (f : Fragment) → IsAmong (index_of s.journal (end_of s).indexes) f → StandsAt (content_of (marks_of s)) f.name.begin f.content

-- ---- each attempt lands at most once

-- at this place of the list stands this entry
abbrev pub EntryAt : List Mark → ℕ → Entry → Type 0
EntryAt marks k e = slice_get marks k ≡ Some (Added e)

-- an append that was sent, as its sender asked it
pub record WasAsked (s : Story) (r : Request) : Type 0 where
  pub letter : Letter
  pub among : IsAmong (said s) letter
  pub from : letter.from ≡ r.attempt.node
  pub epoch : Option ℕ
  pub selector : List ℕ
  pub says : letter.msg ≡ Append r.attempt.req s.journal epoch r.offset selector r.take r.add r.content
  pub reads : selector_of selector ≡ Ok r.selector

-- the request lands directly behind this place, and its entry stands there
abbrev pub LandsAt : List Mark → ℕ → Request → Type 0
LandsAt marks k r =
    let judged = judged_at (take k marks) r in
    (judged.landed ≡ landed.Landed (end_of_marks (take k marks)) (end_of_marks (take k marks) + length r.content))
    × EntryAt marks k (entry_of r judged.after)

pub record LandsOnce (s : Story) : Type 0 where
  pub once : (e f : Entry) (k l : ℕ) → EntryAt (marks_of s) k e → EntryAt (marks_of s) l f → e.attempt ≡ f.attempt → k ≡ l
  pub lawful : (k : ℕ) (e : Entry) → EntryAt (marks_of s) k e →
      (r : Request) × (e.attempt ≡ r.attempt) × WasAsked s r × LandsAt (marks_of s) k r

-- ---- what an answer says

-- the entry of this attempt, if it has one, has these bytes and begins there
abbrev pub StandsFrom : List Mark → Attempt → ℕ → List ℕ → Type 0
StandsFrom marks a begin content = (k : ℕ) × (e : Entry) × EntryAt marks k e × (e.attempt ≡ a) × (e.bytes ≡ content) × (end_of_marks (take k marks) ≡ begin)

-- there is none
abbrev pub HasNone : List Mark → Attempt → Type 0
HasNone marks a = (k : ℕ) (e : Entry) → EntryAt marks k e → e.attempt ≡ a → ⊥

-- the answer is the judgement at some place of the list
abbrev pub IsJudged : List Mark → Request → Landed → Type 0
IsJudged marks r answer = (k : ℕ) × (k ≤ length marks) × ((judged_at (take k marks) r).landed ≡ answer)

-- What the answer says, by its status: 0 that the entry stands, or that an empty request would land; 8 and 9 how it was
-- judged; 10, closed, nothing; and all but 0 and 10 that it has no entry, then or later.
pub record Means (marks : List Mark) (r : Request) (status begin end value : ℕ) (labels : List Label) : Type 0 where
  pub stands : status ≡ 0 → 0 < length r.content → StandsFrom marks r.attempt begin r.content
  pub empty : status ≡ 0 → r.content ≡ [] → IsJudged marks r (landed.Landed begin end)
  pub offset : status ≡ 8 → IsJudged marks r (landed.WrongOffset value)
  pub registers : status ≡ 9 → IsJudged marks r (landed.RegisterMismatch labels)
  pub none : (status ≡ 0 → ⊥) → (status ≡ 10 → ⊥) → HasNone marks r.attempt

abbrev pub AnswersMeanIt : Story → Type 0
AnswersMeanIt s = (l : Letter) (r : Request) (status begin end value : ℕ) (labels : List Label) (route : List (List ℕ)) →
    IsAmong (said s) l → WasAsked s r → r.attempt.node ≡ l.to →
    l.msg ≡ AppendDone r.attempt.req s.journal status begin end value labels route →
    Means (marks_of s) r status begin end value labels

-- ---- acknowledged only when held by all

-- the message says that its sender holds all below the end in that epoch
abbrev pub SaysHeld : List ℕ → ℕ → ℕ → Msg → Type 0
SaysHeld j epoch end (Held i e n) = (i ≡ j) × (e ≡ epoch) × (end ≤ n)
SaysHeld j epoch end (Adopted i e n) = (i ≡ j) × (e ≡ epoch) × (end ≤ n)
SaysHeld j epoch end msg = ⊥

abbrev pub IsVouched : Story → ℕ → ℕ → List ℕ → List ℕ → Type 0
IsVouched s epoch end primary m =
    (l : Letter) × IsAmong (taken s) l × (l.from ≡ m) × (l.to ≡ primary) × SaysHeld s.journal epoch end l.msg

-- the primary is open at this route, and each other member of it has said that it holds that much
pub record IsHeldByAll (s : Story) (primary : List ℕ) (end : ℕ) : Type 0 where
  pub broker : Broker
  pub there : broker_of primary (end_of s).brokers ≡ Some broker
  pub route : Route
  pub held : List (List ℕ × ℕ)
  pub part : (row_of s.journal broker.rows).member.part ≡ Open route held
  pub vouched : (m : List ℕ) → IsAmong route.others m → IsVouched s route.epoch end primary m

-- In the step in which an append is answered Ok, the primary is open, and all others of its route hold the entry.
abbrev pub AcknowledgesWhatIsHeld : Story → Type 0
AcknowledgesWhatIsHeld s = (e : Event) (l : Letter) (req begin end value : ℕ) (labels : List Label) (route : List (List ℕ)) →
    IsAmong (happens (end_of s) e).said l → l.msg ≡ AppendDone req s.journal 0 begin end value labels route →
    IsHeldByAll (going_on s (e ∷ [])) l.from end

-- ---- reads are of the journal

-- so far it is a whole list of entries
abbrev pub IsBoundary : List Mark → ℕ → Type 0
IsBoundary marks offset = (k : ℕ) × (k ≤ length marks) × (end_of_marks (take k marks) ≡ offset)

-- a read was taken by this broker, from this client
pub record WasRead (s : Story) (client broker : List ℕ) (req offset : ℕ) : Type 0 where
  pub letter : Letter
  pub among : IsAmong (taken s) letter
  pub from : letter.from ≡ client
  pub to : letter.to ≡ broker
  pub says : letter.msg ≡ Read req s.journal offset

-- What is read is some of the journal's bytes from the offset on. Not yet says how far the broker serves: to a boundary
-- of the list, at or below the offset.
pub record ReadsAreOfIt (s : Story) : Type 0 where
  pub bytes : (l : Letter) (req offset head : ℕ) (content : List ℕ) (route : List (List ℕ)) →
      IsAmong (said s) l → l.msg ≡ ReadDone req s.journal 0 offset content head route →
      StandsAt (content_of (marks_of s)) offset content × (0 < length content) × WasRead s l.to l.from req offset
  pub not_yet : (l : Letter) (req offset head : ℕ) (content : List ℕ) (route : List (List ℕ)) →
      IsAmong (said s) l → l.msg ≡ ReadDone req s.journal 3 offset content head route →
      IsBoundary (marks_of s) head × (asked : ℕ) × (head ≤ asked) × WasRead s l.to l.from req asked

-- ---- resets only after a whole route stopped

-- an event adds a reset that changes the registers only where every member of the route of the greatest open epoch has
-- stopped
abbrev pub ResetsAfterAStop : Story → Type 0
ResetsAfterAStop s = (e : Event) → let next = going_on s (e ∷ []) in
    IsAmong (drop (length (marks_of s)) (marks_of next)) Reset → (registers_from [] (marks_of s) ≡ [] → ⊥) →
    HaveStopped (end_of next) (route_at s.journal (changes_of (end_of s)) (ledger_of s.journal s.events (start s.specs)).top)

-- ---- handover ends only at a crash or a converge

abbrev pub IsHandedOverStory : Story → Type 0
IsHandedOverStory s = HandedOverThroughout s.journal s.events (start s.specs)

-- a crash, or a converge
abbrev pub MayLose : Event → Type 0
MayLose (Crash member) = Unit {0}
MayLose (Converge journals shards) = Unit {0}
MayLose e = ⊥

abbrev pub HandoverLasts : Story → Type 0
HandoverLasts s = (e : Event) → (MayLose e → ⊥) → IsHandedOverStory (going_on s (e ∷ []))

-- no crash and no expiry
abbrev pub IsCalm : Event → Type 0
IsCalm (Crash member) = ⊥
IsCalm (Expire member) = ⊥
IsCalm e = Unit {0}

-- ---- the theorem

-- while handover holds
pub record IsKept (s : Story) : Type 0 where
  pub grows : Grows s
  pub once : LandsOnce s
  pub answers : AnswersMeanIt s
  pub held : AcknowledgesWhatIsHeld s
  pub reads : ReadsAreOfIt s
  pub resets : ResetsAfterAStop s
  pub lasts : HandoverLasts s

-- of stories that begin with valid specifications
pub record JournalTheorem (s : Story) : Type 0 where
  pub kept : are_specs s.specs ≡ true → IsHandedOverStory s → IsKept s
  -- a run without crash and expiry is never lost
  pub calm : are_specs s.specs ≡ true → ((e : Event) → IsAmong s.events e → IsCalm e) → IsHandedOverStory s
