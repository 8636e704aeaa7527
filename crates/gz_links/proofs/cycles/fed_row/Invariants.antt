use Rattle.std.proofs.Common.{◌≡◌, ◌++◌, drop, map}
use Rattle.gz_links.specs.Cycles.{feeds}
use Rattle.gz_links.proofs.cycles.fed_row.Given as goal

abbrev pub invariant-loop-other : goal.invariant-loop-other
invariant-loop-other l = l.bits.items ++ map (λ t. feeds l.shard t) (drop l.other-index l.shards) ≡ map (λ t. feeds l.shard t) l.shards
