-- The calls that fail, one call later.
use Rattle.std.proofs.Common.{◌≡◌, ℕ, ◌+◌, ◌-◌, ◌^◌, ◌≤◌, ◌==◌, min, List, ap, arith}
use Rattle.std.specs.List.{list_any}
use Rattle.gz_base.specs.Failing.{is_failing}

-- the call that comes next
pub now_failing : (failing : List ℕ) (calls : ℕ) → calls ≤ 2 ^ 64 - 1 → is_failing failing calls 0 ≡ list_any (λ n. n == calls) failing
now_failing failing calls within = let e : min (calls + 0) (2 ^ 64 - 1) ≡ calls = omega (arith, within) in ap (λ m. list_any (λ n. n == m) failing) e

-- and those behind it
pub later_failing : (failing : List ℕ) (calls next : ℕ) → next ≡ min (calls + 1) (2 ^ 64 - 1) → (k : ℕ) → is_failing failing next k ≡ is_failing failing calls (k + 1)
later_failing failing calls next is k = let e : min (next + k) (2 ^ 64 - 1) ≡ min (calls + (k + 1)) (2 ^ 64 - 1) = omega (arith, is) in ap (λ m. list_any (λ n. n == m) failing) e
