use Rattle.std.proofs.Common.{subst, sym}
use Rattle.gz_keyspace.specs.Mirrors.{IsAscending}
use Rattle.gz_keyspace.proofs.SortLemmas.{ascending_after}
use Rattle.gz_keyspace.proofs.mirror.Mirror.of.Goals as goal

pub invariant_of-result : goal.invariant_of-result
invariant_of-result c = subst IsAscending (sym c.in_ok-rows.ensures) (ascending_after c.args.keys.now.changes)
