use Rattle.std.proofs.Common.{◌∙◌}
use Rattle.gz_playback.proofs.Contents.{turn, room}
use Rattle.gz_playback.proofs.player.Player.take_bytes.Goals as goal

pub bytes-preserved : goal.bytes-preserved
bytes-preserved c = record {
  same = turn c.args.bytes.now c.bytes.i c.bytes.self c.take_byte.new.self c.bytes-test.true c.in_ok-take_byte.ensures ∙ c.bytes.invariant.same;
  small = room c.args.bytes.now c.bytes.i c.bytes.self c.take_byte.new.self c.bytes-test.true c.in_ok-take_byte.ensures c.bytes.invariant.small;
}
