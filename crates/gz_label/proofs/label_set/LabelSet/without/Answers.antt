use Rattle.std.proofs.Common.{not}
use Rattle.gz_label.specs.Labels.{is_taken}
use Rattle.gz_label.proofs.Sets.{is_label_set-filter}
use Rattle.gz_label.proofs.label_set.LabelSet.without.Goals as goal

pub invariant_of-result : goal.invariant_of-result
invariant_of-result c =
    rw (c.in_ok-labels.ensures, c.as_slice.ensures.value)
    (is_label_set-filter (λ l. not (is_taken c.args.take.now l)) c.self.inside.labels.items c.self.invariant)
