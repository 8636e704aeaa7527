-- What is answered is what the journal at the place answers, or an empty one where there is none.
use Rattle.std.proofs.Common.{◌≡◌, ◌≤◌, ◌<◌, List, IfOk, subst, sym, length}
use Rattle.gz_journal.specs.JournalList.{judged_of, plain}
use Rattle.gz_journal.specs.declared.judgement.Landed.{Landed}
use Rattle.gz_journal.specs.declared.request.Request.{Request}
use Rattle.gz_promise.specs.Journals.{Journal}
use Rattle.gz_plain.proofs.Landing.{answer_at_past, answer_at_read}
use Rattle.gz_plain.proofs.journals.append_among.Goals as goal

pub returns-then-place-journals-clause-answer : goal.returns-then-place-journals-clause-answer
returns-then-place-journals-clause-answer c =
    let js : List Journal = c.args.journals.now in
    let past : length js ≤ c.args.place = c.if-place-journals.true in
    subst (λ (a : Landed). IfOk c.answer_empty.result (λ landed. landed ≡ a)) (answer_at_past c.args.place (plain c.args.attempt c.args.bytes) js past) c.answer_empty.ensures

pub returns-clause-answer : goal.returns-clause-answer
returns-clause-answer c =
    let js : List Journal = c.args.journals.now in
    let r : Request = plain c.args.attempt c.args.bytes in
    let j : Journal = c.index-journals-place.result in
    let within : c.args.place < length js = c.if-place-journals.false in
    subst (λ (a : Landed). IfOk c.append.result (λ landed. landed ≡ a)) (answer_at_read c.args.place r js j within c.index-journals-place.is)
    (subst (λ (k : Journal). IfOk c.append.result (λ landed. landed ≡ (judged_of k.entries r).landed)) (sym c.index-journals-place.is) c.append.ensures.answer)
