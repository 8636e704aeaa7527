use Rattle.std.proofs.Common.{◌≡◌, ◌++◌, map}
use Rattle.gz_sequencer.specs.Machine.{part_at}
use Rattle.gz_sequencer.proofs.parts.Parts.at.Given as goal

abbrev pub invariant-loop-producer : goal.invariant-loop-producer
invariant-loop-producer l = l.entries.entries ++ map (λ e. (e.0, part_at e.1)) l.producer-iterator ≡ map (λ e. (e.0, part_at e.1)) l.fn.marks.entries
