use Rattle.std.proofs.Common.{sym, subst}
use Rattle.gz_alloc.specs.Flow.{IsNet}
use Rattle.gz_alloc.proofs.NameLemmas.{net_ok}
use Rattle.gz_alloc.proofs.choice.network_of.Goals as goal

pub returns-clause-net : goal.returns-clause-net
returns-clause-net c = subst (λ n. IsNet n) (sym c.in_ok-network.ensures.numbers) (net_ok c.args.problem.now c.in_ok-network.ensures.problem)
