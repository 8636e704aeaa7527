use Rattle.std.proofs.Common.{◌≡◌, Ok, rules}
use Rattle.gz_label.specs.Items.{limited}
use Rattle.gz_label.specs.Labels.{labels_after}
use Rattle.gz_label.proofs.Parts.{limited_is}
use Rattle.gz_label.proofs.Members.{has_after}
use Rattle.gz_label.proofs.label_set.LabelSet.apply.Goals as goal

pub returns-clause-members : goal.returns-clause-members
returns-clause-members c =
    let fits : limited (labels_after c.args.self.now c.args.take.now c.args.add.now) ≡ Ok c.add_all.new.self = search rules in
    let is : c.add_all.new.self ≡ labels_after c.args.self.now c.args.take.now c.args.add.now = limited_is (labels_after c.args.self.now c.args.take.now c.args.add.now) c.add_all.new.self fits in
    λ k. rw is (has_after k c.args.self.now c.args.take.now c.args.add.now)
