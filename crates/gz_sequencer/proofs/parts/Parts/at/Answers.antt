use Rattle.std.proofs.Common.{ap, ◌∙◌}
use Rattle.std.specs.Map.Iter.{deref_pair}
use Rattle.std.proofs.lemmas.Map.Iter.{rest_more}
use Rattle.gz_sequencer.specs.Machine.{Mark, part_at}
use Rattle.gz_sequencer.proofs.InOrder.{put_next}
use Rattle.gz_sequencer.proofs.parts.Parts.at.Goals as goal

pub loop-producer-preserved : goal.loop-producer-preserved
loop-producer-preserved c =
    put_next (λ mark. part_at mark) c.args.marks.now.entries c.loop-producer.producer-iterator c.next.new.self c.loop-producer.entries.entries c.insert.new.self.entries c.in-Some.producer.now c.in-Some.mark.now c.at.result
    c.iter-producer-items.ensures.ordered c.loop-producer.invariant
    (rest_more deref_pair c.loop-producer.producer-iterator c.next.new.self c.next.result (c.in-Some.producer, c.in-Some.mark) c.in-Some.is c.next.ensures.steps)
    c.in_ok-insert.ensures.entries (c.at.ensures ∙ ap (λ (m : Mark). part_at m) c.mark.view_is)

pub loop-producer-preserved-in_ok-insert : goal.loop-producer-preserved-in_ok-insert
loop-producer-preserved-in_ok-insert c =
    put_next (λ mark. part_at mark) c.args.marks.now.entries c.loop-producer.producer-iterator c.next.new.self c.loop-producer.entries.entries c.insert.new.self.entries c.in-Some.producer.now c.in-Some.mark.now c.at.result
    c.iter-producer-items.ensures.ordered c.loop-producer.invariant
    (rest_more deref_pair c.loop-producer.producer-iterator c.next.new.self c.next.result (c.in-Some.producer, c.in-Some.mark) c.in-Some.is c.next.ensures.steps)
    c.in_ok-insert.ensures.entries (c.at.ensures ∙ ap (λ (m : Mark). part_at m) c.mark.view_is)
