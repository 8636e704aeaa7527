use Rattle.std.proofs.Common.{◌≡◌, ◌≤◌, ◌+◌, length, true, rules}
use Rattle.std.specs.List.{insert}
use Rattle.std.proofs.lemmas.List.Edits.{length-insert}
use Rattle.gz_label.specs.Labels.{is_label, is_label_set, put_label}
use Rattle.gz_label.proofs.Sets.{is_label_set-insert, with_label-there}
use Rattle.gz_label.proofs.label_set.LabelSet.insert.Goals as goal

pub invariant_of-self : goal.invariant_of-self
invariant_of-self c =
    let valid : is_label c.args.label ≡ true = search rules in
    let set : is_label_set c.self.inside.labels.items ≡ true = c.self.invariant in
    let put : put_label c.args.label c.self.inside.labels.items ≡ insert c.self.inside.labels.items c.in-Some.i c.args.label = search rules in
    let within : c.in-Some.i ≤ length c.self.inside.labels.items = search rules in
    let more : length (insert c.self.inside.labels.items c.in-Some.i c.args.label) ≡ length c.self.inside.labels.items + 1 =
    length-insert c.self.inside.labels.items c.in-Some.i c.args.label within in
    let few : length (insert c.self.inside.labels.items c.in-Some.i c.args.label) ≤ 64 = search (rules, more) in
    rw c.in_ok-insert.ensures.items (is_label_set-insert c.in-Some.i c.args.label c.self.inside.labels.items valid set put few)

pub returns-in_default-clause-value : goal.returns-in_default-clause-value
returns-in_default-clause-value c =
    let valid : is_label c.args.label ≡ true = search rules in
    let there : put_label c.args.label c.args.self.now ≡ c.args.self.now = search rules in
    with_label-there c.args.label c.args.self.now valid (rw c.self.view_is at c.self.invariant) there
