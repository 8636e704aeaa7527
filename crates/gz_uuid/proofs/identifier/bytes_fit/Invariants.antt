use Rattle.std.proofs.Common.{◌<◌, ◌^◌, ℕ, get_or}
use Rattle.gz_uuid.proofs.identifier.bytes_fit.Given as goal

abbrev pub invariant-bytes : goal.invariant-bytes
invariant-bytes l = (k : ℕ) → k < l.i → get_or l.bytes k 0 < 2 ^ 8
