use Rattle.std.proofs.Common.{subst}
use Rattle.std.specs.List.Sorted.{IsPermutation}
use Rattle.gz_keyspace.specs.Keys.{KeyMap, keys_after}
use Rattle.gz_keyspace.proofs.SortLemmas.{sorted_is, ascending_after}
use Rattle.gz_keyspace.proofs.keyspace.KeySpace.rows.Goals as goal

pub returns : goal.returns
returns c =
    let changes = c.self.inside.tables.changes.items in
    rw (← c.self.view_is)
    (sorted_is c.self.inside.tables.keys.entries c.sort_rows.new.rows.items (keys_after changes) c.in_ok-rows.ensures.unique
    (subst (λ (es : KeyMap). IsPermutation es c.sort_rows.new.rows.items) c.in_ok-rows.ensures.value c.sort_rows.ensures.permutation)
    c.sort_rows.ensures.sorted (ascending_after changes) c.self.invariant.0)
