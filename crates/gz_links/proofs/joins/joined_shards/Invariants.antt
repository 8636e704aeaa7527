use Rattle.std.proofs.Common.{◌≡◌, ◌++◌, drop, filter}
use Rattle.gz_spec.specs.Specs.{id_of_shard}
use Rattle.gz_links.specs.Joins.{is_new, joined}
use Rattle.gz_links.proofs.joins.joined_shards.Given as goal

abbrev pub invariant-loop-shard : goal.invariant-loop-shard
invariant-loop-shard l = l.shards.items ++ filter (is_new id_of_shard l.old) (drop l.shard-index l.more) ≡ joined id_of_shard l.old l.more
