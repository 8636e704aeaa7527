use Rattle.std.proofs.Common.{◌≡◌, drop}
use Rattle.gz_label.specs.Labels.{from_name}
use Rattle.gz_label.proofs.label_set.count_lesser.Given as goal

abbrev pub invariant-loop-label : goal.invariant-loop-label
invariant-loop-label l = (l.count ≡ l.label-index) × (from_name l.name (drop l.label-index l.labels) ≡ from_name l.name l.labels)
