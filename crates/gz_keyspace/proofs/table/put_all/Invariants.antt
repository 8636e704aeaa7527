use Rattle.std.proofs.Common.{◌≡◌, ◌≤◌, List, ℕ}
use Rattle.std.specs.VecDeque.{deque_len}
use Rattle.indexmap.specs.IndexMap.{get, spare}
use Rattle.gz_keyspace.specs.Keys.{same_key}
use Rattle.gz_keyspace.specs.Table.{puts, releases}
use Rattle.gz_keyspace.proofs.table.put_all.Given as goal

abbrev pub invariant-loop-key : goal.invariant-loop-key
invariant-loop-key l = record {
  room : deque_len l.prepared ≤ spare l.table;
  rest : (key : List ℕ) → puts key l.prepared.items (get same_key l.table key) ≡ puts key l.fn.prepared.items (get same_key l.fn.table key);
  leases : releases l.prepared.items l.leases.entries ≡ releases l.fn.prepared.items l.fn.leases.entries;
  lease_room : spare l.fn.leases ≤ spare l.leases;
}

abbrev pub decreases-loop-key : goal.decreases-loop-key
decreases-loop-key l = deque_len l.prepared
