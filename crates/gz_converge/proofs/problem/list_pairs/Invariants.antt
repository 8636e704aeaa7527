use Rattle.std.proofs.Common.{◌≡◌, ◌++◌, drop, filter}
use Rattle.std.specs.Prelude.{flat_map}
use Rattle.gz_converge.specs.Converged.{pairs_of, is_enabled}
use Rattle.gz_converge.proofs.problem.list_pairs.Given as goal

abbrev pub invariant-loop-shard : goal.invariant-loop-shard
invariant-loop-shard l = l.pairs.items ++ flat_map (λ s. pairs_of l.consumers s.spec.id s.list) (filter is_enabled (drop l.shard-index l.shards)) ≡ flat_map (λ s. pairs_of l.consumers s.spec.id s.list) (filter is_enabled l.shards)
