-- One more text is ended.
use Rattle.std.proofs.Common.{sym}
use Rattle.std.proofs.lemmas.List.Edits.{map_over_more}
use Rattle.gz_plain.specs.Places.{ended}
use Rattle.gz_plain.proofs.writer.put_ack.Goals as goal

pub loop-i-preserved : goal.loop-i-preserved
loop-i-preserved c =
    rw (c.in_ok-end_text.ensures, sym c.index-texts-i.is)
    (map_over_more (ended c.args.line.now) c.args.texts.now _ _ _ c.loop-i-test.true c.loop-i.invariant c.index-texts-i.is)
