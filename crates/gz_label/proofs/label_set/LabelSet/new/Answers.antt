use Rattle.std.proofs.Common.{refl}
use Rattle.gz_label.specs.Labels.{is_label_set}
use Rattle.gz_label.proofs.label_set.LabelSet.new.Goals as goal

pub invariant_of-result : goal.invariant_of-result
unfolding is_label_set
invariant_of-result c = rw c.new.ensures.items refl
