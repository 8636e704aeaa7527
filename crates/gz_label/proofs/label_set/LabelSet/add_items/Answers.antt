use Rattle.std.proofs.Common.{◌≡◌, take, Ok, option_to_list, rules}
use Rattle.gz_label.specs.Outcomes.{Fails}
use Rattle.gz_label.specs.Items.{place_of, items_of, limited}
use Rattle.gz_label.specs.Labels.{label_in, labels_in, put_labels}
use Rattle.gz_label.proofs.Sets.{label_item_fails, label_item_fits, limited_set}
use Rattle.gz_label.proofs.label_set.LabelSet.add_items.Goals as goal

pub returns-in_err-add_item : goal.returns-in_err-add_item
returns-in_err-add_item c =
    let fails : Fails c.in_err-add_item.field-0.0 (limited (put_labels (option_to_list (label_in (take (place_of 44 c.items.rest.now) c.items.rest.now))) c.items.self)) = search rules in
    let all : Fails c.in_err-add_item.field-0.0 (limited (put_labels (labels_in (items_of c.args.text.now)) c.args.self.now)) =
    label_item_fails c.in_err-add_item.field-0.0 c.items.goes_on c.items.rest.now c.items.self (put_labels (labels_in (items_of c.args.text.now)) c.args.self.now) c.items-test.true c.items.invariant fails in
    search rules

pub items-preserved : goal.items-preserved
items-preserved c =
    let fits : limited (put_labels (option_to_list (label_in (take (place_of 44 c.items.rest.now) c.items.rest.now))) c.items.self) ≡ Ok c.add_item.new.self = search rules in
    let later = label_item_fits c.items.goes_on c.items.rest.now c.items.self (put_labels (labels_in (items_of c.args.text.now)) c.args.self.now) c.add_item.new.self c.items-test.true c.items.invariant fits in
    search (rules, later)

pub returns : goal.returns
returns c =
    let all : put_labels (labels_in (items_of c.args.text.now)) c.args.self.now ≡ c.items.self = search rules in
    rw all (limited_set c.items.self (rw c.self.view_is at c.self.invariant))
