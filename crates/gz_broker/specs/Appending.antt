-- What a broker does with an append. Refusals that need no look at the journal come first, in their order
-- (`refusal_of`); then the request is judged at the spool's end; its answer waits until the head is there.
use Rattle.std.specs.Prelude.{ℕ, ◌==◌, List, [], ◌∷◌, ◌++◌, length, Bool, true, false, not, ◌&&◌, ◌||◌, Option, Some, None, Result, Ok, Err, if◌then◌else◌, nat_lt}
use Rattle.std.specs.Str.{bytes_eq}
use Rattle.gz_label.specs.declared.label.Label.{Label}
use Rattle.gz_label.specs.declared.name.LabelError.{LabelError}
use Rattle.gz_label.specs.declared.selector.Term.{Term}
use Rattle.gz_label.specs.Selectors.{selector_of}
use Rattle.gz_journal.specs.declared.request.Request.{Request}
use Rattle.gz_journal.specs.declared.judgement.Landed.{Landed}
use Rattle.gz_journal.specs.declared.judgement.Landed.TheVariants.{WrongOffset, RegisterMismatch, TooLarge}
use Rattle.gz_journal.specs.declared.judgement.Landed.TheVariants as landed
use Rattle.gz_journal.specs.declared.judgement.Judged.{Judged}
use Rattle.gz_journal.specs.JournalList.{judgement, new_end_of, entry_of}
use Rattle.gz_spec.specs.declared.framing.Framing.{Framing}
use Rattle.gz_spec.specs.Framings.{framing_in}
use Rattle.gz_spec.specs.Records.{JournalSpec}
use Rattle.gz_spool.specs.Spools.{spool_end, spool_registers}
use Rattle.gz_replica.specs.declared.part.Part.{Part}
use Rattle.gz_replica.specs.declared.part.Part.TheVariants.{Closed, Opening, Adopting, Syncing, Open}
use Rattle.gz_replica.specs.Member.{Member, open_epoch_of}
use Rattle.gz_replica.specs.Member as member
use Rattle.gz_replica.specs.Primary.{put_entry}
use Rattle.gz_broker.specs.Brokers.{Answer, Row, Broker, Outcome, answers_with, RouteHeld, append_done, row_of, spec_of, route_of}
use Rattle.gz_broker.specs.Closing.{by_rule}
use Rattle.gz_broker.specs.Judging.{max_content, is_framed, is_forbidden}

-- an append as it came
pub record Asked : Type 0 where
  pub from : List ℕ
  pub client : Bool
  pub req : ℕ
  pub epoch : Option ℕ
  pub offset : Option ℕ
  pub selector : List ℕ
  pub take : List Label
  pub add : List Label
  pub content : List ℕ

-- ---- answers

abbrev pub refused_as : ℕ → ℕ → ℕ → Answer
refused_as req status value = record { req = req; status = status; begin = 0; end = 0; value = value; labels = []; route = [] }

abbrev pub refuses_route : ℕ → List (List ℕ) → Answer
refuses_route req route = record { req = req; status = 2; begin = 0; end = 0; value = 0; labels = []; route = route }

-- the answer of a judgement
abbrev pub answer_of : ℕ → Landed → Answer
answer_of req (landed.Landed begin end) = record { req = req; status = 0; begin = begin; end = end; value = 0; labels = []; route = [] }
answer_of req (WrongOffset head) = refused_as req 8 head
answer_of req (RegisterMismatch registers) = record { req = req; status = 9; begin = 0; end = 0; value = 0; labels = registers; route = [] }
answer_of req (TooLarge limit) = refused_as req 5 limit

-- ---- what stands before the judgement

-- the epoch is the one that is expected, if one is
abbrev pub is_epoch : Option ℕ → ℕ → Bool
is_epoch None epoch = true
is_epoch (Some e) epoch = e == epoch

abbrev pub is_open_at : ℕ → Part → Bool
is_open_at epoch (Open r held) = r.epoch == epoch
is_open_at epoch part = false

abbrev pub is_first : List ℕ → List (List ℕ) → Bool
is_first name [] = false
is_first name (m ∷ ms) = bytes_eq m name

-- empty content may not change labels
abbrev pub changes_nothing : Asked → Bool
changes_nothing a = length a.content == 0 && (nat_lt 0 (length a.take) || nat_lt 0 (length a.add))

abbrev pub is_not_allowed : Framing → Asked → Bool
is_not_allowed framing a = (a.client && is_forbidden framing a.content) || changes_nothing a

-- ---- the refusals, from the last to the first: content; epoch and part; route; specification

abbrev pub refusal_by : Framing → Asked → Option Answer
refusal_by framing a =
    if a.client && nat_lt max_content (length a.content) then Some (refused_as a.req 5 max_content)
    else (if not (is_framed framing a.content) then Some (refused_as a.req 6 0)
    else (if is_not_allowed framing a then Some (refused_as a.req 7 0) else None))

abbrev pub refusal_at : Part → RouteHeld → Framing → Asked → Option Answer
refusal_at part r framing a =
    if not (is_epoch a.epoch r.epoch) then Some (refused_as a.req 3 r.epoch)
    else (if not (is_open_at r.epoch part) then Some (refused_as a.req 4 r.epoch) else refusal_by framing a)

abbrev pub refusal_on : List ℕ → Part → Option RouteHeld → Framing → Asked → Option Answer
refusal_on name part None framing a = Some (refuses_route a.req [])
refusal_on name part (Some r) framing a =
    if is_first name r.members then refusal_at part r framing a else Some (refuses_route a.req r.members)

abbrev pub refusal_of : List ℕ → Part → Option JournalSpec → Option RouteHeld → Asked → Option Answer
refusal_of name part None route a = Some (refused_as a.req 1 0)
refusal_of name part (Some spec) route a = refusal_on name part route (framing_in spec.labels) a

-- ---- the judgement

abbrev pub request_of : Asked → List Term → Request
request_of a terms = record { attempt = record { node = a.from; req = a.req }; offset = a.offset; selector = terms; take = a.take; add = a.add; content = a.content }

abbrev pub queued : ℕ → Answer → Asked → Row → Row
queued reach answer a row = record row { queue = row.queue ++ record { reach = reach; to = a.from; answer = answer } ∷ [] }

-- what lands is put, and answered for its end; other answers wait for the end that they were judged at
abbrev pub judged_with : Broker → List ℕ → Row → Asked → Request → Judged → Option ℕ → Outcome
judged_with b j row a r judged (Some end) = by_rule b j (queued end (answer_of a.req judged.landed) a row) (put_entry j row.member (entry_of r judged.after) row.member.part)
judged_with b j row a r judged None = by_rule b j (queued (spool_end row.member.spool) (answer_of a.req judged.landed) a row) (member.idle row.member)

abbrev pub judges : Broker → List ℕ → Row → Asked → Request → Outcome
judges b j row a r =
    let judged = judgement (spool_end row.member.spool) (spool_registers row.member.spool) r in
    judged_with b j row a r judged (new_end_of judged.landed r)

-- a selector that can't be read is not allowed
abbrev pub judges_by : Broker → List ℕ → Row → Asked → Result (List Term) LabelError → Outcome
judges_by b j row a (Err e) = answers_with a.from (append_done j (refused_as a.req 7 0)) b
judges_by b j row a (Ok terms) = judges b j row a (request_of a terms)

abbrev pub appends_if : Broker → List ℕ → Asked → Option Answer → Outcome
appends_if b j a (Some answer) = answers_with a.from (append_done j answer) b
appends_if b j a None = judges_by b j (row_of j b.rows) a (selector_of a.selector)

abbrev pub on_append : List ℕ → Asked → Broker → Outcome
on_append j a b = appends_if b j a (refusal_of b.name (row_of j b.rows).member.part (spec_of j b.mirror) (route_of j b.mirror) a)
