use Rattle.std.proofs.Common.{◌≡◌, ◌++◌}
use Rattle.std.specs.Vec.Iter.{into_iter_items}
use Rattle.gz_codec.proofs.labels.set_of.Given as goal

abbrev pub invariant-labels : goal.invariant-labels
invariant-labels l = l.set ++ into_iter_items l.label-iterator ≡ l.fn.labels.items
