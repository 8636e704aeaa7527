use Rattle.std.proofs.Common.{◌≡◌, ◌+◌, ◌≤◌, vec_len, vec_capacity}
use Rattle.std.specs.VecDeque.{deque_len}
use Rattle.gz_keyspace.specs.Mirrors.{IsAscending}
use Rattle.gz_keyspace.specs.Rows.{after_prepared}
use Rattle.gz_keyspace.proofs.rows.put_rows.Given as goal

abbrev pub invariant-loop-key : goal.invariant-loop-key
invariant-loop-key l = record {
  ordered : IsAscending l.rows.items;
  room : vec_len l.rows + deque_len l.prepared ≤ vec_capacity l.rows;
  rest : after_prepared l.prepared.items l.rows.items ≡ after_prepared l.fn.prepared.items l.fn.rows.items;
}

abbrev pub decreases-loop-key : goal.decreases-loop-key
decreases-loop-key l = deque_len l.prepared
