use Rattle.std.proofs.Common.{◌≡◌, ◌++◌, take, drop}
use Rattle.gz_label.specs.Labels.{named_prefix}
use Rattle.gz_label.proofs.label_set.count_named.Given as goal

abbrev pub invariant-loop-label : goal.invariant-loop-label
invariant-loop-label l = (l.count ≡ l.label-index) × (take l.label-index l.labels ++ named_prefix l.name (drop l.label-index l.labels) ≡ named_prefix l.name l.labels)
