use Rattle.std.proofs.Common.{◌≡◌, drop, []}
use Rattle.gz_spec.specs.Labels.{put_each}
use Rattle.gz_spec.proofs.labels.set_of.Given as goal

abbrev pub invariant-loop-label : goal.invariant-loop-label
invariant-loop-label l = put_each l.path l.set (drop l.label-index l.labels) ≡ put_each l.path [] l.labels
