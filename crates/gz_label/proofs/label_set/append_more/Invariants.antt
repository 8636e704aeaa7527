use Rattle.std.proofs.Common.{◌≡◌, ◌++◌, drop}
use Rattle.gz_label.specs.Labels.{print_more}
use Rattle.gz_label.proofs.label_set.append_more.Given as goal

abbrev pub invariant-loop-label : goal.invariant-loop-label
invariant-loop-label l = l.text ++ print_more (drop l.label-index l.labels) ≡ l.fn.text ++ print_more l.labels
