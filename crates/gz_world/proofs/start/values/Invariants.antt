use Rattle.std.proofs.Common.{◌≡◌, ◌++◌, drop, map}
use Rattle.gz_world.proofs.start.values.Given as goal

abbrev pub invariant-loop-label : goal.invariant-loop-label
invariant-loop-label l = l.names.items ++ map (λ x. x.value) (drop l.label-index l.labels) ≡ map (λ x. x.value) l.labels
