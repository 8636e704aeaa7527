use Rattle.std.proofs.Common.{ap, ◌∙◌}
use Rattle.gz_spec.specs.Records.{SourceSpec}
use Rattle.gz_world.proofs.Begun.{sources_next}
use Rattle.gz_world.proofs.start.sources_of.Goals as goal

pub loop-source-preserved : goal.loop-source-preserved
loop-source-preserved c =
    let i = c.loop-source.invariant in
    let next = sources_next _ _ _ _ _ c.source-item.result c.in_ok-push.ensures.items c.loop-source-test.true c.source-item.is (c.in_ok-journal.ensures ∙ ap (λ (s : SourceSpec). s.journal) c.source.view_is) (ap (λ (s : SourceSpec). s.min_offset) c.source.view_is) i.copied i.lawful i.small in
    record { copied = next.0; lawful = next.1.0; small = next.1.1 }
