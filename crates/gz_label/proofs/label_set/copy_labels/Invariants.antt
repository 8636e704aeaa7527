use Rattle.std.proofs.Common.{◌≡◌, take}
use Rattle.gz_label.proofs.label_set.copy_labels.Given as goal

abbrev pub invariant-loop-label : goal.invariant-loop-label
invariant-loop-label l = l.copied.items ≡ take l.label-index l.labels
