use Rattle.std.proofs.Common.{ℕ, ◌<◌, List, [], ◌∷◌, ◌++◌, length, ap, ◌∙◌, arith}
use Rattle.gz_recovery.specs.declared.op.OpKind.TheVariants.{Write}
use Rattle.gz_store.proofs.Pieces.{one_more_write, rest_utf8}
use Rattle.gz_store.proofs.commit.push_writes.Goals as goal

pub pieces-preserved : goal.pieces-preserved
pieces-preserved c =
    let some : 0 < length c.pieces.rest.now = grind (arith, c.is_empty.ensures, c.pieces-test.true) in
    let after = c.in_ok-push.ensures.items ∙ ap (λ (w : List ℕ). c.pieces.kinds.items ++ Write c.args.fnode c.pieces.offset w ∷ []) c.in_ok-text.ensures in
    (rest_utf8 c.pieces.rest.now c.first_piece.result.1.now c.pieces.invariant.0 c.first_piece.ensures.rest, one_more_write c.pieces.kinds.items _ _ c.args.fnode c.pieces.offset c.pieces.rest.now _ _ some c.first_piece.ensures.piece c.first_piece.ensures.rest c.first_piece.ensures.len c.pieces.invariant.1 after, omega (arith, c.first_piece.ensures.len, c.first_piece.ensures.rest_len, c.pieces.invariant.2))
