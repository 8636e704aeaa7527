use Rattle.std.proofs.Common.{◌≡◌, ◌+◌, length, rules}
use Rattle.gz_journal.specs.declared.journal.Placed.{Placed}
use Rattle.gz_journal.specs.JournalList.{end_of, entry_of}
use Rattle.gz_journal.specs.Places.{entries_of}
use Rattle.gz_journal.proofs.Ends.{placed_more}
use Rattle.gz_journal.proofs.journal.JournalState.push.Goals as goal

pub invariant_of-self-2 : goal.invariant_of-self-2
invariant_of-self-2 c =
    let q : Placed = record { end = c.args.end; entry = entry_of c.args.request.now c.args.after } in
    let ends : c.args.end ≡ end_of (entries_of c.self.inside.placed.items) + length c.args.request.now.content = rw c.self.view_is c.requires in
    let more = placed_more c.self.inside.placed.items q c.self.invariant.0 ends in
    search (rules, more)
