use Rattle.std.proofs.Common.{rules}
use Rattle.std.proofs.lemmas.Cmp.{nat_list_cmp_total}
use Rattle.std.proofs.lemmas.Fn.{always_returns_same}
use Rattle.std.proofs.lemmas.List.Sorted.{ranks_by}
use Rattle.gz_keyspace.specs.Rows.{is_less}
use Rattle.gz_keyspace.proofs.rows.sort_rows.Goals as goal

pub returns-clause-sorted : goal.returns-clause-sorted
returns-clause-sorted c =
    c.sort_unstable_by.ensures.sorted is_less (ranks_by nat_list_cmp_total (λ row. row.0)) (always_returns_same _ _ _ (λ a r f called. search rules))
