use Rattle.std.proofs.Common.{◌≡◌, ◌-◌, take, drop, rules}
use Rattle.gz_journal.specs.JournalList.{end_of, part_of}
use Rattle.gz_journal.specs.Places.{entries_of}
use Rattle.gz_journal.proofs.Ends.{part_from}
use Rattle.gz_journal.proofs.journal.JournalState.read_at.Goals as goal

pub returns : goal.returns
returns c =
    let part = part_from c.as_slice-placed.result.now c.count_before.result c.args.offset c.args.limit c.count_before.ensures.before in
    let out : c.append_part.new.out ≡ part_of (c.args.offset - c.last_end.result) c.args.limit (entries_of c.split_at.result.1.now) = search rules in
    let from : c.last_end.result ≡ end_of (entries_of (take c.count_before.result c.as_slice-placed.result.now)) = search rules in
    let rest : c.split_at.result.1.now ≡ drop c.count_before.result c.as_slice-placed.result.now = search rules in
    cc (part, out, from, rest)
