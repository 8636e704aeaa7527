use Rattle.std.proofs.Common.{◌≡◌, take}
use Rattle.gz_depot.specs.Depot.{names_of}
use Rattle.gz_depot.proofs.answers.names_of.Given as goal

abbrev pub invariant-places : goal.invariant-places
invariant-places l = l.names.items ≡ names_of (take l.place l.index)
