use Rattle.std.proofs.Common.{◌≡◌, ◌&&◌}
use Rattle.gz_alloc.specs.Flow.{is_zone, members}
use Rattle.gz_alloc.specs.Search.{is_zone_chosen}
use Rattle.gz_alloc.specs.Names.{picks, gather, name_at, item_names, zone_names}
use Rattle.gz_alloc.proofs.choice.cut_zones.Given as goal

abbrev pub invariant-loop-i : goal.invariant-loop-i
invariant-loop-i l = l.zones.items ≡ gather l.i (λ i. picks (members l.network) (λ z. is_zone l.network z && is_zone_chosen l.network l.search i z) (λ z. (name_at (item_names l.problem) i, name_at (zone_names l.problem) z)))
