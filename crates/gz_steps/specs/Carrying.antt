-- Messages of one journal. A cluster has many journals, and the relation to the reduced journal is of one of them: what is
-- said of another one's messages is nothing.
use Rattle.std.specs.Prelude.{◌≡◌, ℕ, List, Option, Some, None}
use Rattle.gz_wire.specs.declared.msg.Msg.{Msg}
use Rattle.gz_wire.specs.declared.msg.Send.{Send}
use Rattle.gz_wire.specs.declared.msg.Msg.TheVariants.{Promise, Promised, Adopt, Adopted, Replicate, Held, Head}
use Rattle.gz_lineage.specs.Lists.{Each}
use Rattle.gz_lineage.specs.Marks.{Mark}
use Rattle.gz_lineage.specs.Nodes.{Letter}
use Rattle.gz_carry.specs.Seen.{MessageSeen}

-- the journal of a message that members send one another
abbrev pub journal_in : Msg → Option (List ℕ)
journal_in (Promise j e) = Some j
journal_in (Promised j e adopted image) = Some j
journal_in (Adopt j e image) = Some j
journal_in (Adopted j e end) = Some j
journal_in (Replicate j e offset entry head) = Some j
journal_in (Held j e end) = Some j
journal_in (Head j e head begin) = Some j
journal_in msg = None

-- a message is seen, if it is of this journal
abbrev pub SeenOn : (List ℕ → ℕ) → List ℕ → (ℕ → List Mark) → List Letter → List ℕ → List ℕ → Msg → Type 0
SeenOn num j lists said from to msg = journal_in msg ≡ Some j → MessageSeen num lists said from to msg

-- so is each message that is sent
abbrev pub AllSeen : (List ℕ → ℕ) → List ℕ → (ℕ → List Mark) → List Letter → List ℕ → List Send → Type 0
AllSeen num j lists said me sends = Each (λ (s : Send). SeenOn num j lists said me s.to s.msg) sends
