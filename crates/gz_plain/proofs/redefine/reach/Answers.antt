use Rattle.std.proofs.Common.{◌∙◌, ◌++◌, ap, List, ℕ}
use Rattle.gz_frame.specs.Messages.{Message}
use Rattle.gz_sequencer.specs.Machine.{point_of}
use Rattle.gz_promise.specs.Journals.{place_of}
use Rattle.gz_plain.proofs.Redefining.{reached_count, reached_reader, within_text}
use Rattle.gz_plain.proofs.redefine.reach.Goals as goal

pub read_upto-requires-clause-within : goal.read_upto-requires-clause-within
read_upto-requires-clause-within c =
    within_text c.args.journals.now c.args.source c.args.to c.place_of-place.result
    (c.place_of-place.ensures ∙ ap (λ (name : List ℕ). place_of name c.args.journals.now) c.as_slice.ensures.value) c.requires.within

pub returns-clause-reader : goal.returns-clause-reader
returns-clause-reader c =
    reached_reader c.args.journals.now c.args.source c.args.to c.place_of-place.result c.saturating_sub.result c.in_ok-point.point
    (c.place_of-place.ensures ∙ ap (λ (name : List ℕ). place_of name c.args.journals.now) c.as_slice.ensures.value) c.saturating_sub.ensures
    (c.in_ok-point.ensures ∙ ap (λ q. point_of q) c.in_ok-drain.ensures.rest ∙ ap (λ q. point_of q) c.in_ok-sequencer.ensures)

pub returns-clause-messages : goal.returns-clause-messages
returns-clause-messages c =
    reached_count c.args.journals.now c.args.source c.args.to c.place_of-place.result c.as_slice-2.result.now
    (c.place_of-place.ensures ∙ ap (λ (name : List ℕ). place_of name c.args.journals.now) c.as_slice.ensures.value) c.requires.within
    (c.as_slice-2.ensures ∙ c.in_ok-drain.ensures.messages
    ∙ ap (λ (ms : List Message). ms ++ c.in_ok-sequencer.sequencer.released) c.new-messages.ensures
    ∙ ap (λ q. q.released) c.in_ok-sequencer.ensures)
