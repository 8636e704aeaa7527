use Rattle.std.proofs.Common.{◌≡◌, ◌++◌, drop, map}
use Rattle.gz_spec.specs.Specs.{id_of_shard}
use Rattle.gz_links.specs.Joins.{replaced}
use Rattle.gz_links.proofs.joins.replaced_shards.Given as goal

abbrev pub invariant-loop-shard : goal.invariant-loop-shard
invariant-loop-shard l = l.shards.items ++ map (replaced id_of_shard l.more) (drop l.shard-index l.old) ≡ map (replaced id_of_shard l.more) l.old
