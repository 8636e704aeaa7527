-- One rule of one journal, and what follows from it for the answers that wait and for the store. This is the one place
-- that says what a member's rule means for the rest of the row (`by_rule`): where the part ends, waiting answers go out as
-- closed and the put is forgotten; where it stays open, answers up to the head go out, then what the rule sends, then a
-- put if the head rose and there is a fragment's length.
use Rattle.std.specs.Prelude.{ℕ, ◌+◌, ◌-◌, ◌==◌, List, [], ◌∷◌, ◌++◌, take, Bool, false, ◌&&◌, Option, Some, None, is_none, if◌then◌else◌, nat_le, nat_lt}
use Rattle.gz_wire.specs.declared.msg.Send.{Send}
use Rattle.gz_wire.specs.declared.msg.Msg.TheVariants.{StorePut}
use Rattle.gz_label.specs.declared.entry.Image.{Image}
use Rattle.gz_journal.specs.JournalList.{text_of}
use Rattle.gz_spec.specs.Records.{JournalSpec}
use Rattle.gz_replica.specs.declared.part.Part.{Part}
use Rattle.gz_replica.specs.declared.part.Part.TheVariants.{Closed, Opening, Adopting, Syncing, Open}
use Rattle.gz_replica.specs.Member.{Member, send}
use Rattle.gz_replica.specs.Member as member
use Rattle.gz_replica.specs.Opening.{store}
use Rattle.gz_broker.specs.Brokers.{Answer, Queued, Row, Broker, Outcome, append_done, row_of, with_row, spec_of, reached, waiting}

-- the part is still open at the epoch at which it was
abbrev pub goes_on : Part → Part → Bool
goes_on (Open r held) (Open s new_held) = r.epoch == s.epoch
goes_on before after = false

-- the append may land or not: the primary promised a greater epoch
abbrev pub closed : ℕ → Answer → Answer
closed promised a = record { req = a.req; status = 10; begin = 0; end = 0; value = promised; labels = []; route = [] }

abbrev pub closings_of : List ℕ → ℕ → List Queued → List Send
closings_of j promised [] = []
closings_of j promised (q ∷ qs) = send q.to (append_done j (closed promised q.answer)) ∷ closings_of j promised qs

-- ---- what is persisted

-- the bytes from begin to head
abbrev pub kept_bytes : Image → List ℕ
kept_bytes i = take (i.head - i.begin) (text_of i.entries)

abbrev pub store_put : List ℕ → ℕ → Image → Send
store_put j req i = send store (StorePut req j i.begin i.head (kept_bytes i))

-- there is a fragment's length of bytes from begin to head
abbrev pub has_fragment : Option JournalSpec → Image → Bool
has_fragment None i = false
has_fragment (Some spec) i = nat_le spec.fragment_length (i.head - i.begin)

-- the head rose at an open part, nothing is outstanding, and there is enough for a fragment
abbrev pub is_to_put : Option JournalSpec → Part → ℕ → Row → Bool
is_to_put spec (Open r held) old_head row = nat_lt old_head row.member.spool.head && is_none row.putting && has_fragment spec row.member.spool
is_to_put spec part old_head row = false

-- the row with a put of what is kept, which takes the place of one that is outstanding
abbrev pub putting : ℕ → Row → Row
putting req row = record row { putting = Some (record { req = req; end = row.member.spool.head }) }

-- ---- one rule

-- answers go out up to the head of an open part
abbrev pub answers_of : List ℕ → Row → Part → List Send
answers_of j row (Open r held) = reached j row.member.spool.head row.queue
answers_of j row part = []

abbrev pub left_of : Row → Part → Row
left_of row (Open r held) = record row { queue = waiting row.member.spool.head row.queue }
left_of row part = row

-- the row after a rule: with the part what belonged to it ends
abbrev pub row_after : Row → Member → Row
row_after row m = if goes_on row.member.part m.part then record row { member = m } else record { member = m; queue = []; putting = None }

abbrev pub closings_after : List ℕ → Row → Member → List Send
closings_after j row m = if goes_on row.member.part m.part then [] else closings_of j m.promised row.queue

-- the answers that the head reached, then what the rule sends, then a put
abbrev pub finished : Broker → List ℕ → ℕ → ℕ → List Send → List Send → Row → Outcome
finished b j old_head requests closings sends row =
    let left = left_of row row.member.part in
    let all = answers_of j row row.member.part ++ sends in
    if is_to_put (spec_of j b.mirror) row.member.part old_head row
    then record { broker = record b { rows = with_row j (putting (requests + 1) left) b.rows; requests = requests + 1 }; closings = closings; sends = all ++ store_put j (requests + 1) row.member.spool ∷ [] }
    else record { broker = record b { rows = with_row j left b.rows; requests = requests }; closings = closings; sends = all }

-- a rule of one journal changes its row
abbrev pub by_rule : Broker → List ℕ → Row → member.Outcome → Outcome
by_rule b j row out = finished b j row.member.spool.head (b.requests + out.numbered) (closings_after j row out.member) out.sends (row_after row out.member)

-- the rule of a member, which is given the number of the next request
abbrev pub ruled : Broker → List ℕ → (ℕ → Member → member.Outcome) → Outcome
ruled b j rule = let row = row_of j b.rows in by_rule b j row (rule (b.requests + 1) row.member)
