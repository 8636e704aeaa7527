use Rattle.std.proofs.Common.{◌∙◌}
use Rattle.gz_spec.specs.Members.{next_member}
use Rattle.gz_spec.specs.Specs.{id_of_member}
use Rattle.gz_fields.proofs.Eachs.{each_turn, more_names}
use Rattle.gz_spec.proofs.cluster.read_each_member.Goals as goal

pub loop-i-preserved : goal.loop-i-preserved
loop-i-preserved c = (
  each_turn next_member id_of_member _ _ _ c.index-values-i.result _ _ _ _ _ _ c.loop-i-test.true c.index-values-i.is c.in_ok-place.ensures
      c.in_ok-member.ensures.gives c.in_ok-member.ensures.noted c.in_ok-push.ensures.items
      ∙ c.loop-i.invariant.0,
  more_names id_of_member _ _ _ _ _ _ c.loop-i.invariant.1 c.in_ok-member.ensures.noted c.in_ok-push.ensures.items,
)
