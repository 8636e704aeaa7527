use Rattle.std.proofs.Common.{rules}
use Rattle.std.proofs.lemmas.Fn.{always_returns_same}
use Rattle.std.specs.Ordering.{nat_cmp}
use Rattle.std.specs.Cmp.Lexicographic.{slice_cmp}
use Rattle.gz_keyspace.proofs.RowLemmas.{searched}
use Rattle.gz_keyspace.proofs.rows.place_of.Goals as goal

pub returns : goal.returns
returns c =
    let facts = c.binary_search_by.ensures in
    let by_key = facts.position (λ row. slice_cmp nat_cmp row.0 c.args.key.now) (always_returns_same _ _ _ (λ a r f called. search rules)) in
    searched c.args.key.now c.args.rows.now c.requires _ facts.bound by_key
