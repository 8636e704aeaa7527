use Rattle.std.proofs.Common.{◌≡◌, ◌+◌, ◌++◌, length}
use Rattle.std.specs.Vec.Iter.{into_iter_items}
use Rattle.gz_store.specs.Commits.{numbered}
use Rattle.gz_store.proofs.commit.number_all.Given as goal

abbrev pub invariant-loop-kind : goal.invariant-loop-kind
invariant-loop-kind l = record {
  ops : l.ops.items ++ numbered l.fn.recorder.author l.recorder.next (into_iter_items l.kind-iterator) ≡ numbered l.fn.recorder.author l.fn.recorder.next l.fn.kinds.items;
  author : l.recorder.author ≡ l.fn.recorder.author;
  next : l.recorder.next ≡ l.fn.recorder.next + length l.ops.items;
  left : length l.ops.items + length (into_iter_items l.kind-iterator) ≡ length l.fn.kinds.items;
}
