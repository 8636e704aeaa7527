use Rattle.std.proofs.Common.{◌≡◌, drop}
use Rattle.gz_label.specs.Labels.{values_of}
use Rattle.gz_spec.specs.Firsts.{first}
use Rattle.gz_spec.proofs.app.first_value.Given as goal

abbrev pub invariant-loop-label : goal.invariant-loop-label
invariant-loop-label l = first (values_of l.name (drop l.label-index l.labels)) ≡ first (values_of l.name l.labels)
