use Rattle.gz_model.specs.Lines.{IsSearched}
use Rattle.gz_sequencer.proofs.sequencer.first_line_len.Given as goal

abbrev pub invariant-loop-i : goal.invariant-loop-i
invariant-loop-i l = IsSearched l.i l.bytes
