use Rattle.std.proofs.Common.{ap, ◌∙◌, refl}
use Rattle.gz_frame.specs.Text.{Placed}
use Rattle.gz_sequencer.proofs.PartLookups.{set_after, set_nothing}
use Rattle.gz_sequencer.proofs.parts.Parts.take_again.Goals as goal
use Rattle.gz_sequencer.proofs.parts.Parts.take_again.Goals.{in-Some+in_ok-take_again, in_default}

pub returns : goal.returns
returns c = elim c.match-get_mut.branch [
  | in-Some+in_ok-take_again w ↦
      rw w.self-inside-is (set_after c.self.inside.entries.entries (c.get_mut.follows.lender w.take_again.new.self).entries c.parts-producer.result.producer w.in-Some.part.now w.take_again.new.self c.args.line
      (c.parts-producer.ensures.producer ∙ ap (λ (p : Placed). p.message.producer) c.line.view_is)
      w.in-Some.ensures.value
      w.in_ok-take_again.ensures
      (c.get_mut.follows.holds w.take_again.new.self).0
      c.args.self.now c.self.view_is)
  | in_default w ↦
      rw w.self-inside-is (set_nothing c.self.inside.entries.entries c.get_mut.follows.lender-at-none.entries c.parts-producer.result.producer c.args.line
      (c.parts-producer.ensures.producer ∙ ap (λ (p : Placed). p.message.producer) c.line.view_is)
      w.in_default.ensures.value
      (rw c.get_mut.follows.holds-at-none refl)
      c.args.self.now c.self.view_is)
]
