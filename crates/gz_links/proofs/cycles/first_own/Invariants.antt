use Rattle.std.proofs.Common.{◌≡◌, ℕ, ◌<◌, false}
use Rattle.gz_links.specs.Cycles.{flag}
use Rattle.gz_links.proofs.cycles.first_own.Given as goal

abbrev pub invariant-loop-i : goal.invariant-loop-i
invariant-loop-i l = (k : ℕ) → k < l.i → flag l.rows k k ≡ false
