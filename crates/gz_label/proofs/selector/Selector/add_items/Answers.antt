use Rattle.std.proofs.Common.{◌≡◌, take, Ok, option_to_list, rules}
use Rattle.gz_label.specs.Outcomes.{Fails}
use Rattle.gz_label.specs.Items.{place_of, items_of, limited}
use Rattle.gz_label.specs.Selectors.{term_in, terms_in, with_terms}
use Rattle.gz_label.proofs.Terms.{term_item_fails, term_item_fits}
use Rattle.gz_label.proofs.selector.Selector.add_items.Goals as goal

pub returns-in_err-add_item : goal.returns-in_err-add_item
returns-in_err-add_item c =
    let fails : Fails c.in_err-add_item.field-0.0 (limited (with_terms (option_to_list (term_in (take (place_of 44 c.items.rest.now) c.items.rest.now))) c.items.self)) = search rules in
    let all : Fails c.in_err-add_item.field-0.0 (limited (with_terms (terms_in (items_of c.args.text.now)) c.args.self.now)) =
    term_item_fails c.in_err-add_item.field-0.0 c.items.goes_on c.items.rest.now c.items.self (with_terms (terms_in (items_of c.args.text.now)) c.args.self.now) c.items-test.true c.items.invariant fails in
    search rules

pub items-preserved : goal.items-preserved
items-preserved c =
    let fits : limited (with_terms (option_to_list (term_in (take (place_of 44 c.items.rest.now) c.items.rest.now))) c.items.self) ≡ Ok c.add_item.new.self = search rules in
    let later = term_item_fits c.items.goes_on c.items.rest.now c.items.self (with_terms (terms_in (items_of c.args.text.now)) c.args.self.now) c.add_item.new.self c.items-test.true c.items.invariant fits in
    search (rules, later)
