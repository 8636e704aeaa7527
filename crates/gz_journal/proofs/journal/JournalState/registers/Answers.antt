use Rattle.std.proofs.Common.{◌<◌, length, rules, arith}
use Rattle.gz_journal.proofs.Ends.{registers_last}
use Rattle.gz_journal.proofs.journal.JournalState.registers.Goals as goal

pub returns : goal.returns
returns c =
    let some : 0 < length c.as_slice-placed.result.now = omega arith in
    let last = registers_last c.as_slice-placed.result.now c.index-placed-placed.result some in
    search (rules, last)
