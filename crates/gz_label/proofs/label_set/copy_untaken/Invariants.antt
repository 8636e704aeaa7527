use Rattle.std.proofs.Common.{◌≡◌, ◌++◌, drop, filter, not}
use Rattle.gz_label.specs.Labels.{is_taken}
use Rattle.gz_label.proofs.label_set.copy_untaken.Given as goal

abbrev pub invariant-loop-label : goal.invariant-loop-label
invariant-loop-label l =
    l.copied.items ++ filter (λ m. not (is_taken l.take m)) (drop l.label-index l.labels) ≡ filter (λ m. not (is_taken l.take m)) l.labels
