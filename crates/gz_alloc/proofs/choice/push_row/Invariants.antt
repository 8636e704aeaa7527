use Rattle.std.proofs.Common.{◌≡◌, ◌++◌}
use Rattle.gz_alloc.specs.Flow.{cells_of}
use Rattle.gz_alloc.specs.Names.{picks, name_at, item_names, member_names}
use Rattle.gz_alloc.proofs.choice.push_row.Given as goal

abbrev pub invariant-loop-m : goal.invariant-loop-m
invariant-loop-m l = l.pairs.items ≡ l.fn.pairs.items ++ picks l.m (cells_of l.flags l.i) (λ m. (name_at (item_names l.problem) l.i, name_at (member_names l.problem) m))
