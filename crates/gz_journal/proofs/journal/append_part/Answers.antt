use Rattle.std.proofs.Common.{◌≡◌, ◌++◌, length, take, drop, min, rules}
use Rattle.gz_journal.specs.JournalList.{part_of}
use Rattle.gz_journal.specs.Places.{entries_of}
use Rattle.gz_journal.proofs.Ends.{part_step}
use Rattle.gz_journal.proofs.journal.append_part.Goals as goal

pub loop-one-preserved : goal.loop-one-preserved
loop-one-preserved c =
    let skipped : c.split_at.result.0.now ≡ take (min c.loop-one.before (length c.one-item.result.entry.bytes)) c.one-item.result.entry.bytes = search rules in
    let rest : c.split_at.result.1.now ≡ drop (min c.loop-one.before (length c.one-item.result.entry.bytes)) c.one-item.result.entry.bytes = search rules in
    let part : c.split_at-in-loop-one.result.0.now ≡ take (min c.loop-one.room (length c.split_at.result.1.now)) c.split_at.result.1.now = search rules in
    let out : c.append.new.self ≡ c.loop-one.out ++ c.split_at-in-loop-one.result.0.now = search rules in
    part_step c.loop-one.out c.append.new.self (c.args.out.now ++ part_of c.args.skip c.args.limit (entries_of c.args.placed.now)) c.one-item.result c.args.placed.now c.loop-one.one-index
    c.loop-one.before c.loop-one.room c.split_at.result.0.now c.split_at.result.1.now c.split_at-in-loop-one.result.0.now c.loop-one-test.true c.one-item.is skipped rest part out c.loop-one.invariant
