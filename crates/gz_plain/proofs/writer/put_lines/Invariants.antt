use Rattle.std.proofs.Common.{◌≡◌, ◌+◌, drop, length}
use Rattle.gz_plain.specs.Places.{with_lines}
use Rattle.gz_plain.specs.Plain.{lines_from}
use Rattle.gz_plain.proofs.writer.put_lines.Given as goal

abbrev pub invariant-loop-output : goal.invariant-loop-output
invariant-loop-output l =
    let first = l.initial.producer in
    let texts = l.initial.texts in
    (l.producer.id ≡ first.id) × (l.producer.last ≡ first.last + l.output-index) × (length l.texts ≡ length texts)
    × (with_lines (length texts) 0 (lines_from first.id (first.last + l.output-index) (drop l.output-index l.outputs)) l.texts ≡ with_lines (length texts) 0 (lines_from first.id first.last l.outputs) texts)
