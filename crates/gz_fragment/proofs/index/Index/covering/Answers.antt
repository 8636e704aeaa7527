use Rattle.std.proofs.Common.{◌≡◌, true, false, cond, sym, ap, ◌∙◌, arith, nat_lt, None}
use Rattle.std.specs.Prelude.{find}
use Rattle.std.proofs.lemmas.Bool.{lt-ltb, le-ltb}
use Rattle.gz_fragment.specs.Ends.{end_begun, reaches}
use Rattle.gz_fragment.specs.Fragments.{covering}
use Rattle.gz_fragment.proofs.CoverLemmas.{covering_by_ends}
use Rattle.gz_fragment.proofs.index.Index.covering.Goals as goal

pub returns-then-end-offset : goal.returns-then-end-offset
returns-then-end-offset c =
    let short : nat_lt c.args.offset (end_begun c.args.offset c.self.inside.tree) ≡ false = le-ltb _ _ (omega (arith, c.end_begun-end.ensures)) in
    sym (sym (ap (covering c.args.offset) c.self.view_is) ∙ covering_by_ends c.args.offset c.self.inside.tree c.self.invariant.0
    ∙ ap (λ b. cond b (find (reaches (end_begun c.args.offset c.self.inside.tree)) c.self.inside.tree) None) short)

pub returns : goal.returns
returns c =
    let past : nat_lt c.args.offset (end_begun c.args.offset c.self.inside.tree) ≡ true = lt-ltb _ _ (omega (arith, c.end_begun-end.ensures)) in
    c.reaching.ensures ∙ ap (λ e. find (reaches e) c.self.inside.tree) c.end_begun-end.ensures
    ∙ sym (sym (ap (covering c.args.offset) c.self.view_is) ∙ covering_by_ends c.args.offset c.self.inside.tree c.self.invariant.0
    ∙ ap (λ b. cond b (find (reaches (end_begun c.args.offset c.self.inside.tree)) c.self.inside.tree) None) past)
