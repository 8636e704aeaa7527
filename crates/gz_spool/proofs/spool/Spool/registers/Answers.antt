use Rattle.std.proofs.Common.{rules, arith, ◌<◌, length}
use Rattle.gz_spool.proofs.Ends.{registers_last}
use Rattle.gz_spool.proofs.spool.Spool.registers.Goals as goal

pub returns-in-Some : goal.returns-in-Some
returns-in-Some c =
    let some : 0 < length c.self.inside.entries.items = grind (arith, c.in-Some.is, c.in-Some.ensures.variant) in
    let last = registers_last c.self.inside.base c.self.inside.entries.items c.in-Some.entry.now some in
    search (rules, last)
