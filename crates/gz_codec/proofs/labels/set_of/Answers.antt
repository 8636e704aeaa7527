use Rattle.std.proofs.Common.{◌≡◌, ◌∷◌, rules}
use Rattle.std.specs.Vec.Iter.{into_iter_items}
use Rattle.gz_codec.proofs.LabelSets.{next_set}
use Rattle.gz_codec.proofs.labels.set_of.Goals as goal

pub labels-preserved : goal.labels-preserved
labels-preserved c =
    let split : (into_iter_items c.labels.label-iterator) ≡ c.in-Some.label ∷ (into_iter_items c.next.new.self) = search rules in
    next_set c.labels.set c.in-Some.label (into_iter_items c.labels.label-iterator) (into_iter_items c.next.new.self) c.args.labels.items c.insert.new.self split c.labels.invariant c.requires c.in_default.ensures.value
