-- The facts that every run carries: of messages, over all that were ever sent, so that taking, losing and repeating
-- them changes nothing; of each broker; and of epochs among one another (`Global`). Each is said in words before it.
use Rattle.gz_lineage.specs.Marks.{Mark, Reset, IsPut, Lawful}
use Rattle.std.proofs.Common.{◌≡◌, ℕ, ◌<◌, ◌≤◌, List, [], ◌∷◌, ◌++◌, length, get_or, take, drop, Bool, true, false, Option, Some, None, ◌⊎◌}
use Rattle.gz_lineage.specs.Prefix.{IsPrefix}
use Rattle.gz_lineage.specs.Lists.{Each, names as names_of}
use Rattle.gz_lineage.specs.Nodes.{Route, Image, Report, Part, Node, Message, Letter, Outcome, Closed, Opening, Adopting, Syncing, Open, Changed, Promise, Promised, Adopt, Adopted, Txn, TxnOk, Replicate, Held, Head, Done, Ask, Names, Put}
use Rattle.gz_lineage.specs.Rules.{image_of}
use Rattle.gz_lineage.specs.World.{grown, risen}
use Rattle.gz_lineage.specs.Safety.{IsVouched}
use Rattle.gz_lineage.proofs.Listed.{Slots}
use Rattle.gz_lineage.proofs.History.{Keys, Ghost, IsMember, Grows, Only}

-- ---- what is carried from one broker to another

-- a route that someone has is the one that was written at its epoch
pub record RouteOk (K : Keys) (r : Route) : Type 0 where
  pub known : K.known r.epoch ≡ true
  pub lead : K.lead r.epoch ≡ r.lead
  pub others : K.others r.epoch ≡ r.others
  pub opened : K.opened r.epoch ≡ r.opened

-- A head that is told in an epoch: so much of the epoch's list is the journal's. Else members would serve, and keep in
-- the store, what nobody acknowledged.
pub record HeadOk (g : Ghost) (e h : ℕ) : Type 0 where
  pub fits : h ≤ length (g.text e)
  pub prefix : IsPrefix (take h (g.text e)) g.journal

-- the same of an image and its head
pub record ImageOk (g : Ghost) (i : Image) : Type 0 where
  pub fits : i.head ≤ length i.entries
  pub prefix : IsPrefix (take i.head i.entries) g.journal

-- What a member has in epoch e: a prefix of the epoch's list, with all of the image that was adopted. So spools of one
-- epoch are never at odds, and what is adopted stays.
pub record Copy (K : Keys) (g : Ghost) (e : ℕ) (entries : List Mark) : Type 0 where
  pub made : g.made e ≡ true
  pub known : 0 < e → K.known e ≡ true
  pub base : g.base e ≤ length entries
  pub within : IsPrefix entries (g.text e)

-- A report of m for epoch e. It is all that m had in the epoch that it adopted last (`reach`), and m takes nothing more
-- there, since it has promised e: that is what makes the choice final. The witness reports that it adopted enough.
pub record ReportOk (K : Keys) (g : Ghost) (e m : ℕ) (r : Report) : Type 0 where
  pub known : K.known e ≡ true
  pub bound : r.adopted ≤ e
  pub promised : e ≤ g.prom m
  pub copy : Copy K g r.adopted r.image.entries
  pub reach : r.adopted < e → length r.image.entries ≡ g.ends m r.adopted
  pub member : 0 < r.adopted → IsMember K r.adopted m
  pub witness : K.dead e ≡ false → m ≡ K.witness e → K.opened e ≤ r.adopted
  pub image : ImageOk g r.image

-- m adopted e and holds that much, and said so in a letter that was taken
pub record ReachOk (g : Ghost) (e m k : ℕ) : Type 0 where
  pub adopted : e ≤ g.adop m
  pub reach : k ≤ g.ends m e
  pub vouched : IsVouched g.taken e k m

abbrev pub AllHeld : Ghost → ℕ → List (ℕ × ℕ) → Type 0
AllHeld g e ps = Each (λ p. ReachOk g e p.0 p.1) ps

-- All members of e's route have adopted e's image. An epoch gets into the sync key only so. That is why one member that
-- has adopted the sync key's epoch is enough for a later choice: each of them has all that was acknowledged before.
pub record AllAdopted (K : Keys) (g : Ghost) (e : ℕ) : Type 0 where
  pub made : g.made e ≡ true
  pub lead : (e ≤ g.adop (K.lead e)) × (g.base e ≤ g.ends (K.lead e) e)
  pub others : Each (λ m. ReachOk g e m (g.base e)) (K.others e)

-- ---- what a later epoch does to an earlier one

-- A member of s has left s, and all that it held there is in what epoch e adopted. As an append of s is acknowledged
-- only when this member holds it too, no head of s ever gets past what e adopted.
pub record CappedBy (K : Keys) (g : Ghost) (s e : ℕ) : Type 0 where
  pub by : ℕ
  pub member : IsMember K s by
  pub gone : s < g.prom by
  pub short : g.ends by s ≤ g.base e
  pub fits : g.ends by s ≤ length (g.text s)
  pub within : IsPrefix (take (g.ends by s) (g.text s)) (g.text e)

-- Or all members of s have stopped, so that nothing of s is acknowledged any more; and if s is the greatest open epoch,
-- epoch e adopted all of the journal.
pub record CappedDead (K : Keys) (g : Ghost) (s e : ℕ) : Type 0 where
  pub gone : (m : ℕ) → IsMember K s m → g.gone m ≡ true
  pub top : s ≡ g.top → IsPrefix g.journal (g.text e) × (length g.journal ≤ g.base e)

abbrev pub Capped : Keys → Ghost → ℕ → ℕ → Type 0
Capped K g s e = CappedBy K g s e ⊎ CappedDead K g s e

-- the image that this epoch adopted is the journal's, and in the store up to this end
pub record LowOk (K : Keys) (g : Ghost) (w f : ℕ) : Type 0 where
  pub synced : K.synced w ≡ true
  pub base : g.base w ≤ f
  pub within : IsPrefix (take (g.base w) (g.text w)) g.journal

-- All was saved: the members of all synced epochs from w to o have stopped, and the store has all of the journal, up to
-- this end, until a later epoch opens. It has to be each synced epoch, since one that isn't open yet may open late.
pub record DeadAt (K : Keys) (g : Ghost) (o f w : ℕ) : Type 0 where
  pub gone : (s m : ℕ) → K.synced s ≡ true → w ≤ s → s ≤ o → IsMember K s m → g.gone m ≡ true
  pub below : w ≤ g.top
  pub real : 0 < w → LowOk K g w f
  pub top : g.top ≤ o → length g.journal ≤ f

-- so it was when e was written
abbrev pub DeadOk : Keys → Ghost → ℕ → Type 0
DeadOk K g e = DeadAt K g (K.opened e) (K.floor e) (K.low e)

-- What the store told of epoch e is the journal's, and no less than it had when e was written.
pub record NamesOk (K : Keys) (g : Ghost) (e : ℕ) (text : List Mark) : Type 0 where
  pub within : IsPrefix text g.journal
  pub floor : K.dead e ≡ true → K.floor e ≤ length text

abbrev pub Told : Keys → Ghost → ℕ → Option (List Mark) → Type 0
Told K g e None = Unit {0}
Told K g e (Some text) = NamesOk K g e text

-- The journal is a prefix of the list of the greatest open epoch, and each member of that epoch holds it.
pub record IsTop (K : Keys) (g : Ghost) : Type 0 where
  pub synced : K.synced g.top ≡ true
  pub within : IsPrefix g.journal (g.text g.top)
  pub base : g.base g.top ≤ length g.journal
  pub reach : (m : ℕ) → IsMember K g.top m → length g.journal ≤ g.ends m g.top

-- ---- where lists come from

-- no reset
abbrev pub Plain : List Mark → Type 0
Plain xs = Each IsPut xs

-- a spool of epoch e was begun from the store at epoch b, where all was saved
abbrev pub BornOk : Keys → ℕ → ℕ → Type 0
BornOk K b e = (b ≤ e) × (K.known b ≡ true) × (K.dead b ≡ true)

-- epoch e's primary took what a member had of this epoch
pub record Picked (K : Keys) (g : Ghost) (e : ℕ) : Type 0 where
  pub from : ℕ
  pub less : from < e
  pub enough : K.opened e ≤ from
  pub made : g.made from ≡ true
  pub same : g.born e ≡ g.born from
  pub within : IsPrefix (take (g.base e) (g.text e)) (g.text from)

-- the image of an epoch that was begun from the store: what the store had, and a reset
abbrev pub BirthOk : List Mark → (ℕ → ℕ) → (ℕ → List Mark) → ℕ → Type 0
BirthOk journal base text b = (names : List Mark) × IsPrefix names journal × (take (base b) (text b) ≡ names ++ Reset ∷ [])

-- b was begun so, and its image is a prefix of e's list, and adopted in e
abbrev pub SinceAt : (ℕ → Bool) → (ℕ → ℕ) → (ℕ → ℕ) → (ℕ → List Mark) → ℕ → ℕ → Type 0
SinceAt made born base text e b = (made b ≡ true) × (born b ≡ b) × IsPrefix (take (base b) (text b)) (text e) × (base b ≤ base e)

-- ---- of all epochs

pub record Global (K : Keys) (g : Ghost) : Type 0 where
  -- epochs are from 1 to the latest
  pub known : (e : ℕ) → K.known e ≡ true → (0 < e) × (e ≤ K.latest)
  -- the sync key had an earlier epoch when this one was written
  pub before : (e : ℕ) → K.known e ≡ true → K.opened e < e
  -- an epoch is synced only when all of its members have adopted its image
  pub synced : (s : ℕ) → K.synced s ≡ true → (K.known s ≡ true) × AllAdopted K g s
  -- the sync key is written only at the present epoch, so a later epoch knows each synced one before it
  pub opened : (e s : ℕ) → K.known e ≡ true → K.synced s ≡ true → s < e → s ≤ K.opened e
  -- what handover gave when e was written: a member that had adopted enough, or all was saved
  pub witness : (e : ℕ) → K.known e ≡ true → K.dead e ≡ false → 0 < K.opened e → IsMember K e (K.witness e) × (K.opened e ≤ g.adop (K.witness e))
  pub dead : (e : ℕ) → K.known e ≡ true → K.dead e ≡ true → DeadOk K g e
  -- the heart: a later choice caps each earlier synced epoch
  pub capped : (e s : ℕ) → g.made e ≡ true → K.synced s ≡ true → s < e → Capped K g s e
  pub base : (e : ℕ) → g.made e ≡ true → g.base e ≤ length (g.text e)
  pub made : (e : ℕ) → g.made e ≡ true → 0 < e → K.known e ≡ true
  pub by_lead : (e : ℕ) → g.made e ≡ true → 0 < e → e ≤ g.prom (K.lead e)
  pub unmade : (e : ℕ) → g.made e ≡ false → g.text e ≡ []
  -- behind the adopted image stand entries alone, and none above the greatest open epoch
  pub puts : (e : ℕ) → g.made e ≡ true → Plain (drop (g.base e) (g.text e))
  -- each entry stands where a request lands it
  pub lawful : (e : ℕ) → Lawful (g.text e)
  pub unopened : (e : ℕ) → g.made e ≡ true → g.top < e → length (g.text e) ≤ g.base e
  -- where each list comes from
  pub born : (e : ℕ) → g.made e ≡ true → 0 < g.born e → BornOk K (g.born e) e
  pub pick : (e : ℕ) → g.made e ≡ true → 0 < e → (g.born e ≡ e) ⊎ Picked K g e
  pub birth : (b : ℕ) → g.made b ≡ true → 0 < b → g.born b ≡ b → BirthOk g.journal g.base g.text b
  pub since : (e : ℕ) → g.made e ≡ true → 0 < g.born e → SinceAt g.made g.born g.base g.text e (g.born e)
  pub nothing : (g.made 0 ≡ true) × (g.text 0 ≡ []) × (g.base 0 ≡ 0)
  -- the journal is the greatest open epoch's
  pub none_open : g.top ≡ 0 → g.journal ≡ []
  pub top : 0 < g.top → IsTop K g

-- ---- of one broker

-- A primary that waits for reports: they are all of its epoch, and it has chosen nothing yet.
pub record IsOpening (K : Keys) (g : Ghost) (n : ℕ) (st : Node) (r : Route) (reports : List (ℕ × Option Report)) (names : Option (List Mark)) : Type 0 where
  pub route : RouteOk K r
  pub mine : r.lead ≡ n
  pub promised : st.promised ≡ r.epoch
  pub unmade : g.made r.epoch ≡ false
  pub told : Slots (ReportOk K g r.epoch) reports
  pub all : names_of reports ≡ r.others
  pub stored : Told K g r.epoch names

-- One that waits for the others to adopt: its spool is its epoch's list, which is the image.
pub record IsAdopting (K : Keys) (g : Ghost) (n : ℕ) (st : Node) (r : Route) (reached : List (ℕ × Option ℕ)) : Type 0 where
  pub route : RouteOk K r
  pub mine : r.lead ≡ n
  pub promised : st.promised ≡ r.epoch
  pub adopted : st.adopted ≡ r.epoch
  pub whole : st.spool ≡ g.text r.epoch
  pub made : g.made r.epoch ≡ true
  pub base : g.base r.epoch ≡ length st.spool
  pub told : Slots (λ m k. ReachOk g r.epoch m k × (g.base r.epoch ≤ k)) reached
  pub all : names_of reached ≡ r.others

-- One that waits for the key space: everyone has adopted.
pub record IsSyncing (K : Keys) (g : Ghost) (n : ℕ) (st : Node) (r : Route) : Type 0 where
  pub route : RouteOk K r
  pub mine : r.lead ≡ n
  pub promised : st.promised ≡ r.epoch
  pub adopted : st.adopted ≡ r.epoch
  pub whole : st.spool ≡ g.text r.epoch
  pub base : g.base r.epoch ≡ length st.spool
  pub everyone : AllAdopted K g r.epoch

-- An open one: its epoch is synced, held ends are true, and where it is the greatest open epoch its head is the
-- journal's end. An older one may be open beside it; its head is in the journal too.
pub record IsOpen (K : Keys) (g : Ghost) (n : ℕ) (st : Node) (r : Route) (held : List (ℕ × ℕ)) : Type 0 where
  pub route : RouteOk K r
  pub mine : r.lead ≡ n
  pub promised : st.promised ≡ r.epoch
  pub adopted : st.adopted ≡ r.epoch
  pub whole : st.spool ≡ g.text r.epoch
  pub made : g.made r.epoch ≡ true
  pub base : g.base r.epoch ≤ st.head
  pub synced : K.synced r.epoch ≡ true
  pub told : AllHeld g r.epoch held
  pub all : names_of held ≡ r.others
  pub below : r.epoch ≤ g.top
  pub top : r.epoch ≡ g.top → g.journal ≡ take st.head st.spool

abbrev pub PartOk : Keys → Ghost → ℕ → Node → Part → Type 0
PartOk K g n st Closed = Unit {0}
PartOk K g n st (Opening r reports names) = IsOpening K g n st r reports names
PartOk K g n st (Adopting r reached) = IsAdopting K g n st r reached
PartOk K g n st (Syncing r) = IsSyncing K g n st r
PartOk K g n st (Open r held queue) = IsOpen K g n st r held

-- All but the primary's part: a broker adopts only what it promised, its spool is a prefix of the list of the epoch that
-- it adopted, and it holds exactly that much there.
pub record BodyOk (K : Keys) (g : Ghost) (n : ℕ) (st : Node) : Type 0 where
  pub promised : st.promised ≡ g.prom n
  pub adopted : st.adopted ≡ g.adop n
  pub order : st.adopted ≤ st.promised
  pub copy : Copy K g st.adopted st.spool
  pub reach : length st.spool ≡ g.ends n st.adopted
  pub member : 0 < st.adopted → IsMember K st.adopted n
  pub image : ImageOk g (image_of st)
  pub later : (e : ℕ) → st.adopted < e → g.ends n e ≡ 0

pub record NodeOk (K : Keys) (g : Ghost) (n : ℕ) (st : Node) : Type 0 where
  pub body : BodyOk K g n st
  pub part : PartOk K g n st st.part

-- ---- of each message

-- Promised, Adopted and Held say what their sender had, which it can't lose. A Replicate's entry is in the epoch's list
-- at that place, above the image. A Done is of what all others vouched for, and of what is in the journal.
abbrev pub MessageOk : Keys → Ghost → ℕ → ℕ → Message → Type 0
MessageOk K g from to (Changed r) = RouteOk K r
MessageOk K g from to (Promise e) = K.known e ≡ true
MessageOk K g from to (Promised e report) = ReportOk K g e from report
MessageOk K g from to (Adopt e image) = (K.known e ≡ true) × IsMember K e to × Copy K g e image.entries × (length image.entries ≡ g.base e) × ImageOk g image
MessageOk K g from to (Adopted e reach) = (e ≤ g.adop from) × (reach ≤ g.ends from e) × (g.base e ≤ reach) × (g.made e ≡ true)
MessageOk K g from to (Txn e) = (K.known e ≡ true) × AllAdopted K g e
MessageOk K g from to (TxnOk e) = K.synced e ≡ true
MessageOk K g from to (Replicate e offset x head) = (offset < length (g.text e)) × (get_or (g.text e) offset x ≡ x) × HeadOk g e head × (g.made e ≡ true) × (g.base e ≤ offset)
MessageOk K g from to (Held e reach) = (e ≤ g.adop from) × (reach ≤ g.ends from e)
MessageOk K g from to (Head e head) = HeadOk g e head
MessageOk K g from to (Done e reach) = (K.known e ≡ true) × Each (IsVouched g.taken e reach) (K.others e) × HeadOk g e reach
MessageOk K g from to (Ask e) = K.known e ≡ true
MessageOk K g from to (Names e text) = (K.known e ≡ true) × NamesOk K g e text
MessageOk K g from to (Put text) = IsPrefix text g.journal
MessageOk K g from to _ = Unit {0}

abbrev pub LetterOk : Keys → Ghost → Letter → Type 0
LetterOk K g l = MessageOk K g l.from l.to l.body

abbrev pub AllOk : Keys → Ghost → List Letter → Type 0
AllOk K g ls = Each (LetterOk K g) ls

-- ---- of one rule

-- What each rule keeps: there is a history that goes on from the old one, moved by this broker alone, in which all facts
-- hold of epochs, of the broker and of what it sends. The journal and the greatest open epoch are what its part says. A
-- list that moved is now the broker's spool.
pub record Kept (K : Keys) (g : Ghost) (n : ℕ) (out : Outcome) : Type 0 where
  pub after : Ghost
  pub grows : Grows g after
  pub only : Only K n g after
  pub global : Global K after
  pub node : NodeOk K after n out.node
  pub sends : AllOk K after out.sends
  pub journal : after.journal ≡ grown g.journal out.node out.node.part
  pub top : after.top ≤ risen g.top out.node.part
  pub taken : after.taken ≡ g.taken
  pub gone : (m : ℕ) → after.gone m ≡ g.gone m
  pub texts : (e : ℕ) → (after.text e ≡ g.text e) ⊎ (after.text e ≡ out.node.spool)
