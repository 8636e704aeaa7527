use Rattle.std.proofs.Common.{◌∙◌, sym}
use Rattle.gz_frame.proofs.Frames.{no_more_bytes, other_here}
use Rattle.gz_frame.proofs.frame.first_other.Goals as goal

pub returns-then-i-bytes : goal.returns-then-i-bytes
returns-then-i-bytes c = no_more_bytes c.magic.i c.args.bytes.now c.if-i-bytes.true ∙ sym c.magic.invariant

pub returns-then-bytes-i : goal.returns-then-bytes-i
returns-then-bytes-i c = other_here c.magic.i c.args.bytes.now c.magic-test.true c.if-i-bytes.false c.if-bytes-i.true ∙ sym c.magic.invariant
