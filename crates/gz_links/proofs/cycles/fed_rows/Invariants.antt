use Rattle.std.proofs.Common.{◌≡◌, ◌++◌, drop, map}
use Rattle.gz_links.specs.Cycles.{feeds}
use Rattle.gz_links.proofs.cycles.fed_rows.Given as goal

abbrev pub invariant-loop-shard : goal.invariant-loop-shard
invariant-loop-shard l =
    l.rows.items ++ map (λ s. map (λ t. feeds s t) l.shards) (drop l.shard-index l.shards) ≡ map (λ s. map (λ t. feeds s t) l.shards) l.shards
