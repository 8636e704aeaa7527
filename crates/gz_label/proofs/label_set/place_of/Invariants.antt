use Rattle.std.proofs.Common.{◌≡◌, ◌++◌, take, drop}
use Rattle.gz_label.specs.Labels.{put_label}
use Rattle.gz_label.proofs.label_set.place_of.Given as goal

abbrev pub invariant-loop-i : goal.invariant-loop-i
invariant-loop-i l = take l.i l.labels ++ put_label l.label (drop l.i l.labels) ≡ put_label l.label l.labels
