use Rattle.std.proofs.Common.{◌≡◌, ◌++◌, drop, map}
use Rattle.serde_json.specs.View.{items_view}
use Rattle.gz_fields.specs.Behind.{behind}
use Rattle.gz_fields.specs.Lists.{each}
use Rattle.gz_spec.specs.Members.{next_member}
use Rattle.gz_spec.specs.Specs.{id_of_member}
use Rattle.gz_spec.proofs.cluster.read_each_member.Given as goal

abbrev pub invariant-loop-i : goal.invariant-loop-i
invariant-loop-i l =
    (behind l.members.items (each next_member id_of_member l.path l.i l.used.keys (items_view (drop l.i l.values))) ≡ each next_member id_of_member l.path 0 l.fn.used.keys (items_view l.values))
    × (l.used.keys ≡ l.fn.used.keys ++ map id_of_member l.members.items)
