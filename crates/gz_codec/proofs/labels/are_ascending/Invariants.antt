use Rattle.std.proofs.Common.{◌≡◌, length}
use Rattle.gz_label.specs.Labels.{are_ascending}
use Rattle.gz_codec.proofs.labels.are_ascending.Given as goal

abbrev pub invariant-labels : goal.invariant-labels
invariant-labels l = are_ascending l.rest ≡ are_ascending l.labels

abbrev pub decreases-labels : goal.decreases-labels
decreases-labels l = length l.rest
