use Rattle.std.proofs.Common.{◌≡◌, ◌++◌, drop}
use Rattle.std.specs.Prelude.{flat_map}
use Rattle.gz_converge.specs.Converged.{pairs_of}
use Rattle.gz_converge.proofs.problem.route_pairs.Given as goal

abbrev pub invariant-loop-journal : goal.invariant-loop-journal
invariant-loop-journal l = l.pairs.items ++ flat_map (λ j. pairs_of l.brokers j.spec.name j.route) (drop l.journal-index l.journals) ≡ flat_map (λ j. pairs_of l.brokers j.spec.name j.route) l.journals
