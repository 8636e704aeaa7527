use Rattle.std.proofs.Common.{◌≡◌}
use Rattle.gz_alloc.specs.Flow.{cells_of, members}
use Rattle.gz_alloc.specs.Names.{picks, gather, name_at, item_names, member_names}
use Rattle.gz_alloc.proofs.choice.placement_of.Given as goal

abbrev pub invariant-loop-i : goal.invariant-loop-i
invariant-loop-i l = l.pairs.items ≡ gather l.i (λ i. picks (members l.network) (cells_of l.flags i) (λ m. (name_at (item_names l.problem) i, name_at (member_names l.problem) m)))
