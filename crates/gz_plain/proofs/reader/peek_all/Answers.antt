use Rattle.std.proofs.Common.{◌≡◌, ◌+◌, ◌∙◌, ◌∷◌, ap, sym, subst, drop, List, ℕ}
use Rattle.gz_promise.specs.Journals.{Journal, text_at}
use Rattle.gz_plain.specs.Readers.{AreRead, IsRead, text_for}
use Rattle.gz_plain.specs.declared.reader.Reader.{Reader}
use Rattle.gz_plain.proofs.Places.{text_of_is}
use Rattle.gz_plain.proofs.Running.{news_turn, drop_here}
use Rattle.gz_plain.proofs.reader.peek_all.Goals as goal

pub peek-requires : goal.peek-requires
peek-requires c =
    let js : List Journal = c.args.journals.now in
    let r : Reader = c.reader-item.result in
    let next : drop c.loop-reader.reader-index c.args.readers.now ≡ r ∷ drop (c.loop-reader.reader-index + 1) c.args.readers.now = drop_here c.loop-reader.reader-index c.args.readers.now r c.loop-reader-test.true c.reader-item.is in
    let read : AreRead js (r ∷ drop (c.loop-reader.reader-index + 1) c.args.readers.now) = subst (λ (rs : List Reader). AreRead js rs) next c.loop-reader.invariant.0 in
    let text : text_at r.place js ≡ text_for js r = ap (λ (i : ℕ). text_at i js) read.0.1 ∙ sym (text_of_is r.journal js) in
    subst (λ (t : List ℕ). IsRead r t) (sym text) read.0.2

pub loop-reader-preserved : goal.loop-reader-preserved
loop-reader-preserved c =
    let js : List Journal = c.args.journals.now in
    let r : Reader = c.reader-item.result in
    let next : drop c.loop-reader.reader-index c.args.readers.now ≡ r ∷ drop (c.loop-reader.reader-index + 1) c.args.readers.now = drop_here c.loop-reader.reader-index c.args.readers.now r c.loop-reader-test.true c.reader-item.is in
    let read : AreRead js (r ∷ drop (c.loop-reader.reader-index + 1) c.args.readers.now) = subst (λ (rs : List Reader). AreRead js rs) next c.loop-reader.invariant.0 in
    let text : text_at r.place js ≡ text_for js r = ap (λ (i : ℕ). text_at i js) read.0.1 ∙ sym (text_of_is r.journal js) in
    news_turn js c.args.readers.now (drop c.loop-reader.reader-index c.args.readers.now) (drop (c.loop-reader.reader-index + 1) c.args.readers.now) c.loop-reader.messages c.peek.new.messages r (text_at r.place js)
    next text c.in_ok-_next.ensures.messages c.loop-reader.invariant
