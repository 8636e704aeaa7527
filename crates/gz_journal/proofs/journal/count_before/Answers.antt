use Rattle.std.proofs.Common.{◌≡◌, ◌+◌, ◌-◌, ◌<◌, ◌/◌, length, take, sym, ap, ◌∙◌, arith}
use Rattle.gz_journal.specs.declared.journal.Placed.{Placed}
use Rattle.gz_journal.specs.JournalList.{end_of}
use Rattle.gz_journal.specs.Places.{entries_of}
use Rattle.gz_journal.proofs.Ends.{ends_here}
use Rattle.gz_journal.proofs.journal.count_before.Goals as goal

pub halves-preserved-then-placed-middle : goal.halves-preserved-then-placed-middle
halves-preserved-then-placed-middle c =
    let below : c.halves.low + (c.halves.high - c.halves.low) / 2 < length c.args.placed.now = omega arith in
    let ends : c.index-placed-middle.result.end ≡ end_of (take (c.halves.low + (c.halves.high - c.halves.low) / 2 + 1) (entries_of c.args.placed.now)) =
    ends_here c.args.placed.now (c.halves.low + (c.halves.high - c.halves.low) / 2) c.index-placed-middle.result c.requires below c.index-placed-middle.is in
    let there = sym (ap (λ (q : Placed). q.end) c.index-placed-middle.is) ∙ ends in
    (omega arith, c.halves.invariant.1, rw (← there) c.if-placed-middle.true)
