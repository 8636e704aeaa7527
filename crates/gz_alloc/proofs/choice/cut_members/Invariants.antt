use Rattle.std.proofs.Common.{◌≡◌}
use Rattle.gz_alloc.specs.Search.{is_chosen}
use Rattle.gz_alloc.specs.Names.{picks, name_at, member_names}
use Rattle.gz_alloc.proofs.choice.cut_members.Given as goal

abbrev pub invariant-loop-m : goal.invariant-loop-m
invariant-loop-m l = l.names.items ≡ picks l.m (is_chosen l.search) (name_at (member_names l.problem))
