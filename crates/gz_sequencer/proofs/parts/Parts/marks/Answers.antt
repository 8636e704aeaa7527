use Rattle.std.proofs.Common.{ap, ◌∙◌, refl, sym, map}
use Rattle.std.specs.Map.Iter.{deref_pair}
use Rattle.std.proofs.lemmas.Map.Iter.{rest_more}
use Rattle.gz_sequencer.specs.Parts.{Parts}
use Rattle.gz_sequencer.specs.Machine.{mark_of}
use Rattle.gz_sequencer.proofs.InOrder.{put_next}
use Rattle.gz_sequencer.proofs.parts.Parts.marks.Goals as goal

pub loop-producer-preserved : goal.loop-producer-preserved
loop-producer-preserved c =
    put_next (λ part. mark_of part) c.self.inside.entries.entries c.loop-producer.producer-iterator c.next.new.self c.loop-producer.marks.entries c.insert.new.self.entries c.in-Some.producer.now c.in-Some.part.now (record { ack = c.ack.result; pending = c.first.result })
    c.iter-producer-items.ensures.ordered (c.loop-producer.invariant ∙ ap (λ (parts : Parts). map (λ e. (e.0, mark_of e.1)) parts) (sym c.self.view_is))
    (rest_more deref_pair c.loop-producer.producer-iterator c.next.new.self c.next.result (c.in-Some.producer, c.in-Some.part) c.in-Some.is c.next.ensures.steps)
    c.in_ok-insert.ensures.entries (rw (c.ack.ensures, c.first.ensures) refl)
    ∙ ap (λ (parts : Parts). map (λ e. (e.0, mark_of e.1)) parts) c.self.view_is
