use Rattle.std.proofs.Common.{◌≡◌, ◌+◌, ◌≤◌, ◌^◌, length, drop}
use Rattle.gz_playback.specs.Playing.{at, plays}
use Rattle.gz_playback.proofs.player.Player.take_bytes.Given as goal

abbrev pub invariant-bytes : goal.invariant-bytes
invariant-bytes l = record {
  same : plays l.self (drop l.i l.bytes) ≡ plays l.fn.self l.fn.bytes;
  small : at l.self + length (drop l.i l.bytes) ≤ 2 ^ 62;
}
