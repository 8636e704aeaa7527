use Rattle.std.proofs.Common.{◌∙◌}
use Rattle.gz_spec.specs.Journals.{next_journal}
use Rattle.gz_spec.specs.Specs.{name_of_journal}
use Rattle.gz_fields.proofs.Eachs.{each_turn}
use Rattle.gz_spec.proofs.cluster.read_each_journal.Goals as goal

pub loop-i-preserved : goal.loop-i-preserved
loop-i-preserved c =
    each_turn next_journal name_of_journal _ _ _ c.index-values-i.result _ _ _ _ _ _ c.loop-i-test.true c.index-values-i.is c.in_ok-place.ensures
    c.in_ok-journal.ensures.gives c.in_ok-journal.ensures.noted c.in_ok-push.ensures.items
    ∙ c.loop-i.invariant
