use Rattle.std.proofs.Common.{◌≡◌, ◌++◌, map}
use Rattle.gz_sequencer.specs.Machine.{mark_of}
use Rattle.gz_sequencer.proofs.parts.Parts.marks.Given as goal

abbrev pub invariant-loop-producer : goal.invariant-loop-producer
invariant-loop-producer l = l.marks.entries ++ map (λ e. (e.0, mark_of e.1)) l.producer-iterator ≡ map (λ e. (e.0, mark_of e.1)) l.fn.self
