use Rattle.std.proofs.Common.{rules, []}
use Rattle.std.proofs.lemmas.Fn.{always_returns_same}
use Rattle.std.specs.Ordering.{nat_cmp}
use Rattle.std.specs.Cmp.Lexicographic.{slice_cmp}
use Rattle.gz_alloc.proofs.PlaceLemmas.{searched}
use Rattle.gz_alloc.proofs.problem.find_item.Goals as goal

pub returns : goal.returns
returns c =
    let facts = c.binary_search_by.ensures in
    let by_name = facts.position (λ i. slice_cmp nat_cmp i.name c.args.name.now) (always_returns_same _ _ _ (λ a r f called. search rules)) in
    searched (λ i. i.name) c.args.items.now c.args.name.now (record { name = []; replicas = 0 }) c.requires _ facts.bound by_name
