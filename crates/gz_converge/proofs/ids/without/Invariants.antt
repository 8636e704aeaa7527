use Rattle.std.proofs.Common.{◌≡◌, ◌++◌, drop}
use Rattle.gz_converge.specs.Cases.{without}
use Rattle.gz_converge.proofs.ids.without.Given as goal

abbrev pub invariant-loop-id : goal.invariant-loop-id
invariant-loop-id l = l.kept.items ++ without (drop l.id-index l.ids) l.others ≡ without l.ids l.others
