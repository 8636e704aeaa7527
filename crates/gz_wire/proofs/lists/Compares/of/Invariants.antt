use Rattle.std.proofs.Common.{◌≡◌, take}
use Rattle.gz_wire.proofs.lists.Compares.of.Given as goal

abbrev pub invariant-loop-item : goal.invariant-loop-item
invariant-loop-item l = l.items.items ≡ take l.item-index l.slice
