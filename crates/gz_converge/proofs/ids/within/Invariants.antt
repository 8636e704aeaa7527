use Rattle.std.proofs.Common.{◌≡◌, ◌++◌, drop}
use Rattle.gz_converge.specs.Cases.{within}
use Rattle.gz_converge.proofs.ids.within.Given as goal

abbrev pub invariant-loop-id : goal.invariant-loop-id
invariant-loop-id l = l.kept.items ++ within (drop l.id-index l.ids) l.others ≡ within l.ids l.others
