use Rattle.std.proofs.Common.{◌≡◌, ℕ, ap, sym, ◌∙◌, arith}
use Rattle.gz_store.specs.Commits.{piece_end}
use Rattle.gz_store.proofs.Pieces.{none_back}
use Rattle.gz_store.proofs.commit.piece_end.Goals as goal

pub returns : goal.returns
returns c =
    let none : c.back.end ≡ 0 = omega (arith, c.back-test.false) in
    sym (none_back c.args.text.now) ∙ ap (λ (n : ℕ). piece_end n c.args.text.now) (sym none) ∙ c.back.invariant.rest
