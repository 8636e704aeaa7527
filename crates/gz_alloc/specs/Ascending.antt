-- The order of pairs.
use Rattle.std.specs.Prelude.{ℕ, ◌+◌, Bool, true, List, [], length, slice_index_or, nat_lt, if◌then◌else◌}
use Rattle.std.specs.Ordering.{nat_cmp, ordering_then, is_lt}
use Rattle.std.specs.declared.cmp.Ordering.{Ordering}
use Rattle.std.specs.Cmp.Lexicographic.{slice_cmp}
use Rattle.gz_alloc.specs.Sums.{all_to}

-- in the order of items, and at one item in the order of members
abbrev pub pair_order : List ℕ × List ℕ → List ℕ × List ℕ → Ordering
pair_order p q = ordering_then (slice_cmp nat_cmp p.0 q.0) (slice_cmp nat_cmp p.1 q.1)

abbrev pub pair_at : List (List ℕ × List ℕ) → ℕ → List ℕ × List ℕ
pair_at pairs k = slice_index_or pairs k ([], [])

-- each pair is below the next one
abbrev pub below_next : List (List ℕ × List ℕ) → ℕ → Bool
below_next pairs k = if nat_lt (k + 1) (length pairs) then is_lt (pair_order (pair_at pairs k) (pair_at pairs (k + 1))) else true

abbrev pub ascending : List (List ℕ × List ℕ) → Bool
ascending pairs = all_to (length pairs) (below_next pairs)
