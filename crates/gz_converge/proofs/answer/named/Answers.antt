use Rattle.std.proofs.Common.{◌≡◌, ◌≤◌, rules, arith, sym, ap, ◌∙◌, subst, true, List, ℕ, filter}
use Rattle.std.proofs.lemmas.Fn.{always_returns_same}
use Rattle.std.specs.Ordering.{nat_cmp, is_lt, is_le}
use Rattle.std.specs.Cmp.Lexicographic.{slice_cmp}
use Rattle.gz_keyspace.specs.Keys.{same_key}
use Rattle.gz_alloc.specs.Ascending.{ascending}
use Rattle.gz_converge.specs.Converged.{Pairs}
use Rattle.gz_converge.proofs.Side.{IsStart, IsEnd, below_parted, within_parted, start_before_end, side_by_side}
use Rattle.gz_converge.proofs.answer.named.Goals as goal

pub slice_bounds-result-start : goal.slice_bounds-result-start
slice_bounds-result-start c =
    let pairs : Pairs = c.pairs-pairs.result.now in
    let name : List ℕ = c.args.name.now in
    let up : ascending pairs ≡ true = subst (λ (ps : Pairs). ascending ps ≡ true) (sym c.pairs-pairs.ensures.value) c.pairs-pairs.ensures.ordered in
    let start : IsStart pairs name c.partition_point-start.result = c.partition_point-start.ensures.partitioned (λ p. is_lt (slice_cmp nat_cmp p.0 name)) (always_returns_same _ _ _ (λ a r f called. search rules)) (below_parted pairs name up) in
    let end : IsEnd pairs name c.partition_point-end.result = c.partition_point-end.ensures.partitioned (λ p. is_le (slice_cmp nat_cmp p.0 name)) (always_returns_same _ _ _ (λ a r f called. search rules)) (within_parted pairs name up) in
    let order : c.partition_point-start.result ≤ c.partition_point-end.result = start_before_end pairs name c.partition_point-start.result c.partition_point-end.result c.partition_point-start.ensures.bound start end in
    omega (arith, order)

pub slice_bounds-result-count : goal.slice_bounds-result-count
slice_bounds-result-count c =
    let pairs : Pairs = c.pairs-pairs.result.now in
    let name : List ℕ = c.args.name.now in
    let up : ascending pairs ≡ true = subst (λ (ps : Pairs). ascending ps ≡ true) (sym c.pairs-pairs.ensures.value) c.pairs-pairs.ensures.ordered in
    let start : IsStart pairs name c.partition_point-start.result = c.partition_point-start.ensures.partitioned (λ p. is_lt (slice_cmp nat_cmp p.0 name)) (always_returns_same _ _ _ (λ a r f called. search rules)) (below_parted pairs name up) in
    let end : IsEnd pairs name c.partition_point-end.result = c.partition_point-end.ensures.partitioned (λ p. is_le (slice_cmp nat_cmp p.0 name)) (always_returns_same _ _ _ (λ a r f called. search rules)) (within_parted pairs name up) in
    let order : c.partition_point-start.result ≤ c.partition_point-end.result = start_before_end pairs name c.partition_point-start.result c.partition_point-end.result c.partition_point-start.ensures.bound start end in
    omega (arith, order)

pub returns : goal.returns
returns c =
    let pairs : Pairs = c.pairs-pairs.result.now in
    let name : List ℕ = c.args.name.now in
    let up : ascending pairs ≡ true = subst (λ (ps : Pairs). ascending ps ≡ true) (sym c.pairs-pairs.ensures.value) c.pairs-pairs.ensures.ordered in
    let start : IsStart pairs name c.partition_point-start.result = c.partition_point-start.ensures.partitioned (λ p. is_lt (slice_cmp nat_cmp p.0 name)) (always_returns_same _ _ _ (λ a r f called. search rules)) (below_parted pairs name up) in
    let end : IsEnd pairs name c.partition_point-end.result = c.partition_point-end.ensures.partitioned (λ p. is_le (slice_cmp nat_cmp p.0 name)) (always_returns_same _ _ _ (λ a r f called. search rules)) (within_parted pairs name up) in
    side_by_side pairs name c.partition_point-start.result c.partition_point-end.result c.partition_point-start.ensures.bound c.partition_point-end.ensures.bound start end
    ∙ ap (λ (ps : Pairs). filter (λ p. same_key name p.0) ps) c.pairs-pairs.ensures.value
