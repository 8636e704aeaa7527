use Rattle.std.proofs.Common.{◌≡◌, drop}
use Rattle.gz_keyspace.specs.Space.{key_of_lease}
use Rattle.gz_keyspace.proofs.keyspace.leased_key.Given as goal

abbrev pub invariant-loop-place : goal.invariant-loop-place
invariant-loop-place l = key_of_lease l.lease (drop l.place l.leases.entries) ≡ key_of_lease l.lease l.leases.entries
