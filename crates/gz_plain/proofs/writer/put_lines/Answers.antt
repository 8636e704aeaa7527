-- The next line is put behind those before it.
use Rattle.std.proofs.Common.{◌≡◌, ℕ, ◌+◌, List, length, ap, ◌∙◌, refl, arith}
use Rattle.gz_uuid.specs.Clock.{Ticking}
use Rattle.gz_plain.proofs.Places.{length_with_lines, lines_turn, lines_end}
use Rattle.gz_plain.proofs.writer.put_lines.Goals as goal

pub loop-output-preserved : goal.loop-output-preserved
loop-output-preserved c =
    let before = c.loop-output.invariant in
    let made = c.in_ok-message.ensures in
    let put = c.in_ok-put_line.ensures in
    let next : c.loop-output.producer.last + 1 ≡ c.args.producer.now.last + (c.loop-output.output-index + 1) = omega (arith, before.1) in (
      ap (λ (p : Ticking). p.id) made.producer ∙ before.0,
      ap (λ (p : Ticking). p.last) made.producer ∙ next,
      ap (λ (texts : List (List ℕ)). length texts) put ∙ length_with_lines _ _ _ _ ∙ before.2,
      lines_turn _ _ _ c.loop-output.output-index c.args.outputs.now c.output-item.result c.in_ok-message.message _ _ _ c.loop-output-test.true c.output-item.is
          (made.message ∙ rw (before.0, before.1, c.key.ensures.value, c.value.ensures.value) refl)
          before.2 put before.3,
    )

pub returns-clause-texts : goal.returns-clause-texts
returns-clause-texts c = lines_end _ _ _ _ c.args.outputs.now _ _ c.loop-output-test.false c.loop-output.invariant.3
