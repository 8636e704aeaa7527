use Rattle.std.proofs.Common.{◌≡◌, ◌+◌, drop}
use Rattle.gz_label.specs.Items.{place_of}
use Rattle.gz_label.proofs.items.find.Given as goal

abbrev pub invariant-loop-i : goal.invariant-loop-i
invariant-loop-i l = l.i + place_of l.byte (drop l.i l.text) ≡ place_of l.byte l.text
