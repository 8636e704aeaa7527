use Rattle.std.proofs.Common.{◌≡◌, ◌+◌, length, cond}
use Rattle.gz_label.specs.Items.{items_of}
use Rattle.gz_label.specs.Selectors.{with_terms, terms_in}
use Rattle.gz_label.proofs.Parts.{items_left}
use Rattle.gz_label.proofs.selector.Selector.add_items.Given as goal

abbrev pub invariant-items : goal.invariant-items
invariant-items l = with_terms (terms_in (items_left l.goes_on l.rest)) l.self ≡ with_terms (terms_in (items_of l.text)) l.fn.self

abbrev pub decreases-items : goal.decreases-items
decreases-items l = cond l.goes_on (length l.rest + 1) 0
