-- Each piece is fed where the last one ended.
use Rattle.std.proofs.Common.{◌≡◌, ◌<◌, ◌-◌, ◌∙◌, List, ℕ, take, drop, min, refl, arith}
use Rattle.gz_sequencer.specs.Machine.{Machine, at, fed}
use Rattle.gz_promise.specs.Journals.{text_in}
use Rattle.gz_plain.proofs.Pieces.{IsTurn, piece_further, piece_turn}
use Rattle.gz_plain.proofs.feed.feed_journal.Goals as goal

pub pieces-preserved : goal.pieces-preserved
pieces-preserved c =
    let text : List ℕ = text_in c.args.journal.now in
    let first : Machine = c.args.sequencer.now in
    let piece : c.as_slice.result.now ≡ take (min (c.args.to - at c.pieces.sequencer) 262144) (drop (at c.pieces.sequencer) text) =
    c.as_slice.ensures ∙ c.in_ok-piece.ensures ∙ rw (c.min.ensures, c.pieces.invariant.stands) refl in
    let turn : IsTurn text c.pieces.sequencer c.feed.new.self (fed first (take (c.args.to - at first) (drop (at first) text))) c.args.to =
    piece_turn text c.as_slice.result.now c.pieces.sequencer c.feed.new.self (fed first (take (c.args.to - at first) (drop (at first) text))) c.args.to 262144
    (omega (arith, c.pieces-test.true, c.pieces.invariant.stands)) c.requires.end (omega arith) piece c.in_ok-feed.ensures c.pieces.invariant.same in
    record { stands = c.at-at-in-pieces.ensures; within = omega (arith, c.at-at-in-pieces.ensures, turn.within); same = turn.same }

pub pieces-smaller : goal.pieces-smaller
pieces-smaller c =
    let text : List ℕ = text_in c.args.journal.now in
    let piece : c.as_slice.result.now ≡ take (min (c.args.to - at c.pieces.sequencer) 262144) (drop (at c.pieces.sequencer) text) =
    c.as_slice.ensures ∙ c.in_ok-piece.ensures ∙ rw (c.min.ensures, c.pieces.invariant.stands) refl in
    let further : at c.pieces.sequencer < at c.feed.new.self =
    piece_further text c.as_slice.result.now c.pieces.sequencer c.feed.new.self c.args.to 262144 (omega (arith, c.pieces-test.true, c.pieces.invariant.stands)) c.requires.end (omega arith) piece c.in_ok-feed.ensures in
    omega (arith, further, c.pieces-test.true, c.pieces.invariant.stands, c.at-at-in-pieces.ensures)
