use Rattle.std.proofs.Common.{◌∙◌}
use Rattle.gz_spec.specs.Shards.{next_source, journal_named}
use Rattle.gz_fields.proofs.Eachs.{each_turn}
use Rattle.gz_spec.proofs.source.read_each_source.Goals as goal

pub loop-i-preserved : goal.loop-i-preserved
loop-i-preserved c =
    each_turn next_source journal_named _ _ _ c.index-values-i.result _ _ _ _ _ _ c.loop-i-test.true c.index-values-i.is c.in_ok-place.ensures
    c.in_ok-source.ensures.gives c.in_ok-source.ensures.noted c.in_ok-push.ensures.items
    ∙ c.loop-i.invariant
