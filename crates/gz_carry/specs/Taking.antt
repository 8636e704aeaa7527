-- A message of another member comes: what the member makes of it, which letters the node may take for it, and that one of
-- them carries it. A letter that was ever said can come at any time, with the flight as it was.
use Rattle.std.specs.Prelude.{slice_index_or, ◌≡◌, ◌⊎◌, ℕ, ◌<◌, List, [], ◌∷◌, ◌++◌, length, true, false, if◌then◌else◌}
use Rattle.gz_wire.specs.declared.msg.Msg.{Msg}
use Rattle.gz_wire.specs.declared.msg.Msg.TheVariants as wire
use Rattle.gz_spool.specs.Spools.{is_image}
use Rattle.gz_replica.specs.Member.{Member, Outcome, idle}
use Rattle.gz_replica.specs.Opening.{on_promised, on_adopted}
use Rattle.gz_replica.specs.Replicating.{on_promise, on_adopt, on_replicate, on_head}
use Rattle.gz_replica.specs.Primary.{on_held}
use Rattle.gz_lineage.specs.Lists.{In}
use Rattle.gz_lineage.specs.Marks.{Mark}
use Rattle.gz_lineage.specs.Nodes.{Message, Letter, Replicate, Head}
use Rattle.gz_lineage.specs.Rules as rules
use Rattle.gz_lineage.specs.Rules.{letter, keys, take_message}
use Rattle.gz_lineage.specs.World.{World, Event, Deliver, node_at, recorded, delivered, step_node, run}
use Rattle.gz_lineage.specs.Handover.{IsCalm}
use Rattle.gz_carry.specs.Seen.{IsNumbering, MemberSeen, MessageSeen, StepSeen}
use Rattle.gz_carry.specs.Histories.{HasHistory}

-- ---- the full side

-- What a member makes of another one's message. A promise whose image hasn't the form of one is passed over.
abbrev pub taken : ℕ → List ℕ → Msg → Member → Outcome
taken req from (wire.Promise j epoch) m = on_promise j m from epoch
taken req from (wire.Promised j epoch adopted image) m = if is_image image then on_promised j req m from epoch (record { adopted = adopted; image = image }) m.part else idle m
taken req from (wire.Adopt j epoch image) m = on_adopt j m from epoch image
taken req from (wire.Adopted j epoch end) m = on_adopted j req m from epoch end m.part
taken req from (wire.Replicate j epoch offset entry head) m = on_replicate j m from epoch offset entry head
taken req from (wire.Held j epoch end) m = on_held j m from epoch end m.part
taken req from (wire.Head j epoch head begin) m = on_head m epoch head begin
taken req from msg m = idle m

-- ---- the reduced side

-- an entry's letter with another head than it was said with, which was told of its epoch
pub record IsRenewed (said : List Letter) (from to : ℕ) (body : Message) : Type 0 where
  pub epoch : ℕ
  pub offset : ℕ
  pub entry : Mark
  pub carried : ℕ
  pub head : ℕ
  pub is : body ≡ Replicate epoch offset entry head
  pub was : In (letter from to (Replicate epoch offset entry carried)) said
  pub told : In (letter from to (Head epoch head)) said

-- such a letter can come: it was said, or it is an entry's with a head that was told
abbrev pub CanCome : List Letter → ℕ → ℕ → Message → Type 0
CanCome said from to body = In (letter from to body) said ⊎ IsRenewed said from to body

-- a letter is said, and is in flight behind the others
abbrev pub said_again : World → Letter → World
said_again w l = recorded w (record { state = record w.state { flight = w.state.flight ++ l ∷ [] }; taken = []; sends = l ∷ [] })

-- ---- what is proved

-- Each message of a member that is seen is carried: what the member makes of it is seen in the node as it is, or in what
-- the node makes of a letter that can come.
abbrev pub CarriesMessage : Type 0
CarriesMessage = (num : List ℕ → ℕ) → IsNumbering num → (w : World) (i : HasHistory w) (me from : List ℕ) (req : ℕ) (m : Member) (msg : Msg) →
    let n = node_at w.state.nodes (num me) in
    MemberSeen num me m n → MessageSeen num i.history.list w.said from me msg →
    StepSeen num i.history.list me (taken req from msg m) (rules.idle n)
    ⊎ ((body : Message) × CanCome w.said (num from) (num me) body × StepSeen num i.history.list me (taken req from msg m) (take_message (num me) n (num from) body))

-- A letter that can come is delivered by two events, of which neither ends handover, and the flight is as it was.
abbrev pub LettersCome : Type 0
LettersCome = (w : World) (from to : ℕ) (body : Message) → CanCome w.said from to body →
    let l = letter from to body in
    let v = said_again w l in
    (first : Event) × IsCalm w first × (run (first ∷ Deliver (length w.state.flight) ∷ []) w ≡ recorded v (delivered v.state w.state.flight l))

-- A broker that runs takes it.
abbrev pub BrokersTake : Type 0
BrokersTake = (w : World) (l : Letter) (flight : List Letter) → (l.to ≡ keys → ⊥) → slice_index_or w.state.runs l.to false ≡ true → l.to < length w.state.nodes →
    delivered w.state flight l ≡ step_node w.state flight l (take_message l.to (node_at w.state.nodes l.to) l.from l.body)
