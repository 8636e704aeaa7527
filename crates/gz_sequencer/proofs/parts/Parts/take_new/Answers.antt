use Rattle.std.proofs.Common.{◌≡◌, ap, ◌∙◌, ◌++◌}
use Rattle.gz_frame.specs.Text.{Placed}
use Rattle.gz_sequencer.specs.Parts.{Part, part_of, part_releases}
use Rattle.gz_sequencer.proofs.PartLookups.{put_after, found_at}
use Rattle.gz_sequencer.proofs.parts.Parts.take_new.Goals as goal

pub returns-clause-parts : goal.returns-clause-parts
returns-clause-parts c =
    put_after c.self.inside.entries.entries c.insert.new.self.entries c.insert-2.new.self.entries c.parts-producer.result.producer c.in_ok-before.before c.new.result c.new-2.result c.unwrap_or-part.result c.take.new.self c.args.line
    (c.parts-producer.ensures.producer ∙ ap (λ (p : Placed). p.message.producer) c.line.view_is) c.in_ok-before.ensures.entries c.in_ok-before.ensures.old c.new-2.ensures c.unwrap_or-part.ensures c.in_ok-take.ensures.part c.in_ok-insert.ensures.entries
    c.args.self.now c.self.view_is

pub returns-clause-out : goal.returns-clause-out
returns-clause-out c =
    let part : c.unwrap_or-part.result ≡ part_of c.args.line.message.producer c.args.self.now =
    found_at c.self.inside.entries.entries c.parts-producer.result.producer c.in_ok-before.before c.new-2.result c.unwrap_or-part.result c.args.line
    (c.parts-producer.ensures.producer ∙ ap (λ (p : Placed). p.message.producer) c.line.view_is) c.in_ok-before.ensures.old c.new-2.ensures c.unwrap_or-part.ensures c.args.self.now c.self.view_is in
    c.in_ok-take.ensures.out ∙ ap (λ (p : Part). c.args.out.now.items ++ part_releases p c.args.line.message) part
