use Rattle.std.proofs.Common.{◌≡◌, drop}
use Rattle.gz_keyspace.specs.Keys.{keys_after}
use Rattle.gz_keyspace.specs.Space.{compared}
use Rattle.gz_keyspace.proofs.keyspace.KeySpace.compare.Given as goal

abbrev pub invariant-loop-compare : goal.invariant-loop-compare
invariant-loop-compare l =
    compared (keys_after l.self.changes) (drop l.compare-index l.compares) ≡ compared (keys_after l.self.changes) l.compares
