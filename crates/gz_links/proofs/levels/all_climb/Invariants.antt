use Rattle.std.proofs.Common.{◌≡◌, drop}
use Rattle.gz_links.specs.Levels.{level_of, all_climb}
use Rattle.gz_links.proofs.levels.all_climb.Given as goal

abbrev pub invariant-loop-shard : goal.invariant-loop-shard
invariant-loop-shard l = all_climb (level_of l.journals.keys l.levels) (drop l.shard-index l.shards) ≡ all_climb (level_of l.journals.keys l.levels) l.shards
