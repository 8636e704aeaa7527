use Rattle.std.proofs.Common.{◌≡◌, ◌≤◌, ◌-◌, ◌+◌, length, cond}
use Rattle.gz_label.specs.Items.{items_of, first_bad}
use Rattle.gz_label.specs.Forms.{fits}
use Rattle.gz_label.proofs.Parts.{items_left}
use Rattle.gz_label.proofs.items.first_bad.Given as goal

abbrev pub invariant-items : goal.invariant-items
invariant-items l =
    (length l.rest ≤ length l.text) × (first_bad (fits l.form) (length l.text - length l.rest) (items_left l.goes_on l.rest) ≡ first_bad (fits l.form) 0 (items_of l.text))

abbrev pub decreases-items : goal.decreases-items
decreases-items l = cond l.goes_on (length l.rest + 1) 0
