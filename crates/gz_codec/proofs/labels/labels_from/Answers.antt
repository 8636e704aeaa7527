use Rattle.std.proofs.lemmas.Result.{err_from_is_err_and}
use Rattle.gz_codec.specs.Reading.{items_at, label_at}
use Rattle.gz_codec.proofs.Loop.{goes_on, ends, is_done}
use Rattle.gz_codec.proofs.labels.labels_from.Goals as goal

pub returns-in_err-item : goal.returns-in_err-item
returns-in_err-item c =
    let p = err_from_is_err_and c.from_residual.result c.from_residual.ensures.1 in
    rw (p.1, p.2) (ends label_at c.in_err-item.field-0.0 c.items.items.items c.args.count c.items.counter c.args.field c.items.rest.now (items_at label_at c.args.count c.args.field c.args.bytes.now) c.items-test.true c.in_err-item.ensures c.items.invariant)

pub items-preserved : goal.items-preserved
items-preserved c =
    rw c.in_ok-push.ensures.items (goes_on label_at c.items.items.items c.args.count c.items.counter c.args.field c.items.rest.now c.in_ok-item.item c.in_ok-item.after.now (items_at label_at c.args.count c.args.field c.args.bytes.now) c.items-test.true c.in_ok-item.ensures c.items.invariant)

pub returns : goal.returns
returns c = is_done label_at c.items.items.items c.args.count c.items.counter c.args.field c.items.rest.now (items_at label_at c.args.count c.args.field c.args.bytes.now) c.items-test.false c.items.invariant
