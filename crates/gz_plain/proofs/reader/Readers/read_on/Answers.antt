use Rattle.std.proofs.Common.{◌≡◌, ◌∙◌, ◌∷◌, ap, sym, subst, List, ℕ}
use Rattle.gz_promise.specs.Journals.{text_at}
use Rattle.gz_plain.specs.Readers.{AreRead, IsRead, text_for}
use Rattle.gz_plain.specs.declared.reader.Reader.{Reader}
use Rattle.gz_plain.proofs.Places.{text_of_is}
use Rattle.gz_plain.proofs.Running.{reading_turn}
use Rattle.gz_plain.proofs.reader.Readers.read_on.Goals as goal

pub read_on-requires : goal.read_on-requires
read_on-requires c =
    let read : AreRead c.args.journals.now (c.in-Some.reader ∷ c.next.new.self.rest.items) =
    subst (λ (rs : List Reader). AreRead c.args.journals.now rs) c.in-Some.ensures.steps.0 c.loop-reader.invariant.0 in
    let text : text_at c.in-Some.reader.place c.args.journals.now ≡ text_for c.args.journals.now c.in-Some.reader =
    ap (λ (i : ℕ). text_at i c.args.journals.now) read.0.1 ∙ sym (text_of_is c.in-Some.reader.journal c.args.journals.now) in
    subst (λ (t : List ℕ). IsRead c.in-Some.reader t) (sym text) read.0.2

pub loop-reader-preserved : goal.loop-reader-preserved
loop-reader-preserved c =
    let read : AreRead c.args.journals.now (c.in-Some.reader ∷ c.next.new.self.rest.items) =
    subst (λ (rs : List Reader). AreRead c.args.journals.now rs) c.in-Some.ensures.steps.0 c.loop-reader.invariant.0 in
    let text : text_at c.in-Some.reader.place c.args.journals.now ≡ text_for c.args.journals.now c.in-Some.reader =
    ap (λ (i : ℕ). text_at i c.args.journals.now) read.0.1 ∙ sym (text_of_is c.in-Some.reader.journal c.args.journals.now) in
    reading_turn c.args.journals.now c.args.self c.args.messages.now c.loop-reader.reader-iterator.rest.items c.next.new.self.rest.items
    c.loop-reader.readers.items c.push.new.self.items c.loop-reader.messages c.read_on.new.messages c.in-Some.reader c.in_ok-reader.reader (text_at c.in-Some.reader.place c.args.journals.now)
    c.in-Some.ensures.steps.0 text c.in_ok-reader.ensures.short
    c.in_ok-reader.ensures.reader c.in_ok-push.ensures.items c.in_ok-reader.ensures.messages c.loop-reader.invariant
