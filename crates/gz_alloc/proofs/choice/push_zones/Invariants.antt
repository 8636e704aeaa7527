use Rattle.std.proofs.Common.{◌≡◌, ◌++◌, ◌&&◌}
use Rattle.gz_alloc.specs.Flow.{is_zone}
use Rattle.gz_alloc.specs.Search.{is_zone_chosen}
use Rattle.gz_alloc.specs.Names.{picks, name_at, item_names, zone_names}
use Rattle.gz_alloc.proofs.choice.push_zones.Given as goal

abbrev pub invariant-loop-z : goal.invariant-loop-z
invariant-loop-z l = l.zones.items ≡ l.fn.zones.items ++ picks l.z (λ z. is_zone l.network z && is_zone_chosen l.network l.search l.i z) (λ z. (name_at (item_names l.problem) l.i, name_at (zone_names l.problem) z))
