use Rattle.gz_scenario.proofs.NotEmpty.{some_read}
use Rattle.gz_scenario.proofs.publish.read_drafts.Goals as goal

pub returns : goal.returns
returns c =
    some_read c.args.path.now c.args.values.now _ c.is_empty.result c.is_empty.ensures c.if-is_empty.false
    c.in_ok-drafts.ensures
