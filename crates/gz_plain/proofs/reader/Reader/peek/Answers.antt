use Rattle.std.proofs.Common.{◌≡◌, ◌++◌, ◌-◌, ◌∙◌, ap, sym, List, ℕ, length, append-nil, arith}
use Rattle.gz_frame.specs.Messages.{Message}
use Rattle.gz_promise.specs.Journals.{text_at}
use Rattle.gz_plain.specs.declared.reader.Reader.{Reader}
use Rattle.gz_plain.proofs.Reading.{no_news, behind_len, resumes_in_text, resumed_news, reading_more}
use Rattle.gz_plain.proofs.reader.Reader.peek.Goals as goal

pub returns-then-read-self-clause-messages : goal.returns-then-read-self-clause-messages
returns-then-read-self-clause-messages c =
    sym (append-nil c.args.messages.now)
    ∙ ap (λ (ms : List Message). c.args.messages.now ++ ms)
    (no_news c.args.self.now (text_at c.args.self.now.place c.args.journals.now) c.requires (omega (arith, behind_len c.args.self.now (text_at c.args.self.now.place c.args.journals.now), c.end_at-end.ensures.value, c.saturating_sub-read.ensures, c.if-read-self.true)))

pub resume-requires : goal.resume-requires
resume-requires c =
    resumes_in_text c.args.self.now (text_at c.args.self.now.place c.args.journals.now) c.requires (omega (arith, c.end_at-end.ensures.value, c.saturating_sub-read.ensures, c.if-read-self.false))

pub returns-clause-next : goal.returns-clause-next
returns-clause-next c =
    let r : Reader = c.args.self.now in
    let text : List ℕ = text_at r.place c.args.journals.now in
    let read : c.saturating_sub-read.result ≡ length text - r.from = c.saturating_sub-read.ensures ∙ ap (λ (n : ℕ). n - r.from) c.end_at-end.ensures.value in
    ap (λ (x : Reader). x.next) (reading_more r text c.saturating_sub-read.result c.in_ok-point.point c.requires read (omega (arith, c.if-read-self.false)) c.in_ok-point.ensures.point)

pub returns-clause-messages : goal.returns-clause-messages
returns-clause-messages c =
    c.in_ok-point.ensures.messages ∙ ap (λ (ms : List Message). c.args.messages.now ++ ms) (resumed_news c.args.self.now (text_at c.args.self.now.place c.args.journals.now) c.requires)
