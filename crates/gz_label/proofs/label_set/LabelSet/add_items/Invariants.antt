use Rattle.std.proofs.Common.{◌≡◌, ◌+◌, length, cond}
use Rattle.gz_label.specs.Items.{items_of}
use Rattle.gz_label.specs.Labels.{put_labels, labels_in}
use Rattle.gz_label.proofs.Parts.{items_left}
use Rattle.gz_label.proofs.label_set.LabelSet.add_items.Given as goal

abbrev pub invariant-items : goal.invariant-items
invariant-items l = put_labels (labels_in (items_left l.goes_on l.rest)) l.self ≡ put_labels (labels_in (items_of l.text)) l.fn.self

abbrev pub decreases-items : goal.decreases-items
decreases-items l = cond l.goes_on (length l.rest + 1) 0
