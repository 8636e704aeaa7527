use Rattle.std.proofs.Common.{◌≡◌, [], ◌∷◌, true, Some, None, rules}
use Rattle.gz_label.specs.Outcomes.{Gives}
use Rattle.gz_label.specs.Items.{limited}
use Rattle.gz_label.specs.Labels.{is_label, label_in, put_labels}
use Rattle.gz_label.proofs.Sets.{limited_set, label_in-valid, with_label-valid}
use Rattle.gz_label.proofs.label_set.LabelSet.add_item.Goals as goal

pub returns-in-Some : goal.returns-in-Some
returns-in-Some c =
    let says : label_in c.args.item.now ≡ Some c.in-Some.label = search rules in
    let valid : is_label c.in-Some.label ≡ true = label_in-valid c.args.item.now c.in-Some.label says in
    let put : Gives (λ _. c.insert.new.self) c.insert.result (limited (put_labels (c.in-Some.label ∷ []) c.args.self.now)) =
    rw (with_label-valid c.in-Some.label c.args.self.now valid) at c.insert.ensures.value in
    rw says put

pub returns-in-None : goal.returns-in-None
returns-in-None c =
    let says : label_in c.args.item.now ≡ None = search rules in
    rw says (limited_set c.args.self.now (rw c.self.view_is at c.self.invariant))
