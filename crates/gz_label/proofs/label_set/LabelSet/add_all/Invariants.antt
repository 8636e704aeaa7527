use Rattle.std.proofs.Common.{◌≡◌, drop}
use Rattle.gz_label.specs.Labels.{put_labels}
use Rattle.gz_label.proofs.label_set.LabelSet.add_all.Given as goal

abbrev pub invariant-loop-label : goal.invariant-loop-label
invariant-loop-label l = put_labels (drop l.label-index l.labels) l.self ≡ put_labels l.labels l.fn.self
