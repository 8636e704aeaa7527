use Rattle.std.proofs.Common.{◌≡◌, ◌≤◌, ◌&&◌, ◌==◌, not}
use Rattle.gz_alloc.specs.Sums.{count_to}
use Rattle.gz_alloc.specs.Flow.{zone}
use Rattle.gz_alloc.specs.Search.{is_chosen}
use Rattle.gz_alloc.proofs.choice.free.Given as goal

abbrev pub invariant-loop-m : goal.invariant-loop-m
invariant-loop-m l = record {
  count : l.count ≡ count_to l.m (λ m. not (is_chosen l.search m) && (zone l.network m == l.z));
  small : l.count ≤ l.m;
}
