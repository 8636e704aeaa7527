use Rattle.std.proofs.Common.{◌≡◌, Ok, rules}
use Rattle.gz_label.specs.Outcomes.{Fails}
use Rattle.gz_label.specs.Items.{limited}
use Rattle.gz_label.specs.Labels.{put_labels, with_label}
use Rattle.gz_label.proofs.Sets.{limited_set, label_fails, label_fits, labels_done}
use Rattle.gz_label.proofs.label_set.LabelSet.add_all.Goals as goal

pub returns-in_err-insert : goal.returns-in_err-insert
returns-in_err-insert c =
    let same : c.in_ok-one.one ≡ c.label-item.result = search rules in
    let fails : Fails c.in_err-insert.field-0.0 (with_label c.label-item.result c.loop-label.self) = search rules in
    let all : Fails c.in_err-insert.field-0.0 (limited (put_labels c.args.labels.now c.args.self.now)) =
    label_fails c.in_err-insert.field-0.0 c.label-item.result c.args.labels.now c.loop-label.label-index c.loop-label.self (put_labels c.args.labels.now c.args.self.now)
    c.loop-label-test.true c.label-item.is c.requires c.loop-label.invariant fails in
    search rules

pub loop-label-preserved : goal.loop-label-preserved
loop-label-preserved c =
    let fits : with_label c.label-item.result c.loop-label.self ≡ Ok c.insert.new.self = search rules in
    label_fits c.label-item.result c.args.labels.now c.loop-label.label-index c.loop-label.self (put_labels c.args.labels.now c.args.self.now) c.insert.new.self
    c.loop-label-test.true c.label-item.is c.requires c.loop-label.invariant fits

pub returns : goal.returns
returns c =
    let all : put_labels c.args.labels.now c.args.self.now ≡ c.loop-label.self = labels_done c.args.labels.now c.loop-label.label-index c.loop-label.self (put_labels c.args.labels.now c.args.self.now) c.loop-label-test.false c.loop-label.invariant in
    rw all (limited_set c.loop-label.self (rw c.self.view_is at c.self.invariant))
