use Rattle.std.proofs.Common.{◌≡◌, true, sym, ap, subst, ◌∙◌, arith}
use Rattle.gz_alloc.specs.Flow.{items, members, cells_of}
use Rattle.gz_alloc.specs.Ascending.{ascending}
use Rattle.gz_alloc.specs.Names.{gather, picks, name_at, item_names, member_names, pairs_of}
use Rattle.gz_alloc.proofs.RiseLemmas.{table_rises}
use Rattle.gz_alloc.proofs.choice.placement_of.Goals as goal

pub of_ascending-requires : goal.of_ascending-requires
of_ascending-requires c =
    let e : c.loop-i.i ≡ items c.args.network.now = omega arith in
    let all : c.loop-i.pairs.items ≡ pairs_of c.args.problem.now (cells_of c.args.flags.now) =
    c.loop-i.invariant
    ∙ ap (λ n. gather n (λ i. picks (members c.args.network.now) (cells_of c.args.flags.now i) (λ m. (name_at (item_names c.args.problem.now) i, name_at (member_names c.args.problem.now) m)))) e
    ∙ ap (λ net. gather (items net) (λ i. picks (members net) (cells_of c.args.flags.now i) (λ m. (name_at (item_names c.args.problem.now) i, name_at (member_names c.args.problem.now) m)))) c.requires.numbers in
    subst (λ l. ascending l ≡ true) (sym all) (table_rises c.args.problem.now c.requires.problem (cells_of c.args.flags.now))

pub returns : goal.returns
returns c =
    let e : c.loop-i.i ≡ items c.args.network.now = omega arith in
    c.of_ascending.ensures ∙ c.loop-i.invariant
    ∙ ap (λ n. gather n (λ i. picks (members c.args.network.now) (cells_of c.args.flags.now i) (λ m. (name_at (item_names c.args.problem.now) i, name_at (member_names c.args.problem.now) m)))) e
    ∙ ap (λ net. gather (items net) (λ i. picks (members net) (cells_of c.args.flags.now i) (λ m. (name_at (item_names c.args.problem.now) i, name_at (member_names c.args.problem.now) m)))) c.requires.numbers
