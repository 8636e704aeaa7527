use Rattle.std.proofs.Common.{◌≡◌, ◌+◌, ◌≤◌, drop, length}
use Rattle.gz_label.specs.Labels.{values_of}
use Rattle.gz_spec.proofs.app.count_values.Given as goal

abbrev pub invariant-loop-label : goal.invariant-loop-label
invariant-loop-label l = (l.n + length (values_of l.name (drop l.label-index l.labels)) ≡ length (values_of l.name l.labels)) × (l.n ≤ l.label-index)
