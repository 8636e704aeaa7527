use Rattle.std.proofs.Common.{arith}
use Rattle.gz_world.proofs.Lines.{within_lines}
use Rattle.gz_world.proofs.replays.advance.Goals as goal

pub returns-clause-within : goal.returns-clause-within
returns-clause-within c =
    let fits = c.if-line-before.false in
    let before = c.requires.before in
    (within_lines c.args.number c.args.line.now c.in_ok-event.event c.in_ok-event.ensures.gives, omega (arith, fits, before))
