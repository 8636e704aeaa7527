use Rattle.std.proofs.Common.{◌≡◌, rules}
use Rattle.gz_frame.specs.Frame.{unframed}
use Rattle.gz_frame.proofs.FrameLaws.{found_if, needed_if, slice_fits}
use Rattle.gz_frame.proofs.frame.unframe.Goals as goal

pub returns-clause-frame : goal.returns-clause-frame
returns-clause-frame c =
    let same : c.within.result ≡ unframed c.args.bytes.now = search rules in
    found_if c.within.result c.args.bytes.now (slice_fits c.args.bytes.now c.type_inv.bytes) same

pub returns-clause-prefix : goal.returns-clause-prefix
returns-clause-prefix c =
    let same : c.within.result ≡ unframed c.args.bytes.now = search rules in
    needed_if c.within.result c.args.bytes.now (slice_fits c.args.bytes.now c.type_inv.bytes) same
