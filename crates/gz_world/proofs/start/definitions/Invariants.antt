use Rattle.std.proofs.Common.{◌≡◌, ◌++◌, map, true}
use Rattle.std.specs.List.{list_all}
use Rattle.gz_plain.specs.Cluster.{AreSmall, definitions_of as definitions_seen}
use Rattle.gz_world.specs.Starts.{defined, definitions_of}
use Rattle.gz_world.proofs.Order.{is_shard_entry}
use Rattle.gz_world.proofs.start.definitions.Given as goal

abbrev pub invariant-loop-shard : goal.invariant-loop-shard
invariant-loop-shard l = record {
  made : definitions_seen l.definitions.items ++ map defined l.shard-iterator ≡ definitions_of l.shards;
  lawful : list_all is_shard_entry l.shard-iterator ≡ true;
  small : AreSmall l.definitions.items;
}
