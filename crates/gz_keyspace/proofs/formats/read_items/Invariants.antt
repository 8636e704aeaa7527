use Rattle.std.proofs.Common.{◌≡◌, drop, map}
use Rattle.gz_keyspace.specs.Formats.{ids_in}
use Rattle.gz_keyspace.proofs.IdLemmas.{ids_left}
use Rattle.gz_keyspace.proofs.formats.read_items.Given as goal

abbrev pub invariant-loop-item : goal.invariant-loop-item
invariant-loop-item l = ids_left l.ids.items (map (λ item. item.now) (drop l.item-index l.items)) ≡ ids_in (map (λ item. item.now) l.items)
