use Rattle.std.proofs.Common.{◌≡◌, ◌≤◌, take, drop}
use Rattle.std.specs.VecDeque.{deque_capacity, deque_len}
use Rattle.gz_spool.specs.Spools.{registers_behind}
use Rattle.gz_spool.proofs.spool.drop_first.Given as goal

abbrev pub invariant-loop-i : goal.invariant-loop-i
invariant-loop-i l = record {
  entries : l.entries.items ≡ drop l._i l.fn.entries.items;
  base : l.base ≡ registers_behind l.fn.base (take l._i l.fn.entries.items);
  capacity : deque_capacity l.entries ≡ deque_capacity l.fn.entries;
  len : deque_len l.entries ≤ deque_len l.fn.entries;
}
