use Rattle.std.proofs.Common.{sym, subst}
use Rattle.gz_alloc.specs.Flow.{IsNet, Keeps, cells_of}
use Rattle.gz_alloc.specs.Names.{net_of}
use Rattle.gz_alloc.proofs.TableLemmas.{good_greedy}
use Rattle.gz_alloc.proofs.choice.begin.Goals as goal

pub returns-clause-keeps : goal.returns-clause-keeps
returns-clause-keeps c =
    let ok = subst (λ n. IsNet n) c.requires.numbers c.requires.net in
    subst (λ net. Keeps net (cells_of c.in_ok-flags.flags.items)) (sym c.requires.numbers)
    (subst (λ f. Keeps (net_of c.args.problem.now) (cells_of f)) (sym c.in_ok-flags.ensures.cells) ((good_greedy c.args.problem.now c.pairs.result.now ok).keeps))
