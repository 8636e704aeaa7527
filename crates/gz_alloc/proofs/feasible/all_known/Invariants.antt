use Rattle.std.proofs.Common.{◌≡◌, drop}
use Rattle.std.specs.List.{list_all}
use Rattle.gz_alloc.specs.Names.{is_known}
use Rattle.gz_alloc.proofs.feasible.all_known.Given as goal

-- it depends on the pairs that are left
abbrev pub invariant-loop-pair : goal.invariant-loop-pair
invariant-loop-pair l = list_all (is_known l.problem) (drop l.pair-index l.pairs) ≡ list_all (is_known l.problem) l.pairs
