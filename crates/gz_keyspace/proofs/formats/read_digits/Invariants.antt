use Rattle.std.proofs.Common.{◌≡◌, ◌<◌, ◌^◌, drop}
use Rattle.gz_keyspace.specs.Formats.{number_after}
use Rattle.gz_keyspace.proofs.formats.read_digits.Given as goal

abbrev pub invariant-loop-byte : goal.invariant-loop-byte
invariant-loop-byte l = record {
  fits : l.number < 2 ^ 64;
  rest : number_after l.number (drop l.byte-index l.digits) ≡ number_after 0 l.digits;
}
